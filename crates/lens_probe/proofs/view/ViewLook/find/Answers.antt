use Rattle.std.proofs.Common.{◌≡◌, IfOk, arith, subst, sym}
use Rattle.plain_values.proofs.Common.{Contains}
use Rattle.lens_laws.proofs.Common.{find_by}
use Rattle.lens_probe.specs.Viewed.{IsWithin, Viewed, asked_by, shown, viewed}
use Rattle.lens_probe.proofs.Sizes.{found_few, viewed_finds, viewed_gives}
use Rattle.lens_probe.proofs.view.ViewLook.find.Goals as goal

pub returns-clause-found : goal.returns-clause-found
returns-clause-found g c = subst (λ (x : Viewed). IfOk c.find_in.result (λ found. found ≡ find_by c.args.cols.now c.args.key.now (shown x).rows)) c.self.view_is c.find_in.ensures.found

pub returns-clause-looks : goal.returns-clause-looks
returns-clause-looks g c = λ n within.
    let v = viewed c.self.inside.lens.now c.self.inside.handed.sets c.self.inside.tables.now in
    let here : IsWithin v n = subst (λ (x : Viewed). IsWithin x n) (sym c.self.view_is) within in
    let asked : Contains (asked_by v) c.args.cols.now = subst (λ (x : Viewed). Contains (asked_by x) c.args.cols.now) (sym c.self.view_is) c.requires.asked in
    let looks = c.find_in.ensures.looks here.0 (viewed_finds v c.args.cols.now here.0 c.self.invariant.0 asked here.1) in
    let le = here.2 in
    omega (arith, looks, le)

pub returns-clause-few : goal.returns-clause-few
returns-clause-few g c =
    let v = viewed c.self.inside.lens.now c.self.inside.handed.sets c.self.inside.tables.now in
    let C = c.args.cols.now in
    let asked : Contains (asked_by v) C = subst (λ (x : Viewed). Contains (asked_by x) C) (sym c.self.view_is) c.requires.asked in
    found_few c.find_in.result (find_by C c.args.key.now (shown v).rows) (IsWithin c.args.self.now) c.find_in.ensures.found
    (λ n within. viewed_gives v n c.self.invariant.0 (subst (λ (x : Viewed). IsWithin x n) (sym c.self.view_is) within) C c.args.key.now asked)
