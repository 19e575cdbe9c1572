use Rattle.std.proofs.Common.{arith, subst, sym}
use Rattle.lens_probe.specs.Viewed.{IsWithin, Viewed, viewed}
use Rattle.lens_probe.proofs.view.ViewLook.has.Goals as goal

pub returns-clause-looks : goal.returns-clause-looks
returns-clause-looks g c = λ n within.
    let v = viewed c.self.inside.lens.now c.self.inside.handed.sets c.self.inside.tables.now in
    let here : IsWithin v n = subst (λ (x : Viewed). IsWithin x n) (sym c.self.view_is) within in
    let looks = c.has_in.ensures.looks here.0 (v.sets, c.self.invariant.0.1, here.1) in
    let le = here.2 in
    omega (arith, looks, le)
