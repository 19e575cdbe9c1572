use Rattle.std.proofs.Common.{arith, length, subst, sym}
use Rattle.plain_values.specs.SortedSet as set
use Rattle.lens_laws.proofs.Common.{size}
use Rattle.lens_probe.specs.Viewed.{IsWithin, Viewed, viewed}
use Rattle.lens_probe.proofs.NearRows.{near_looks}
use Rattle.lens_probe.proofs.view.View.near.Goals as goal

pub returns-clause-looks : goal.returns-clause-looks
returns-clause-looks g c = λ n within.
    let v = viewed c.self.inside.lens.now c.self.inside.handed.sets c.self.inside.tables.now in
    let here : IsWithin v n = subst (λ (x : Viewed). IsWithin x n) (sym c.self.view_is) within in
    near_looks (size v.lens here.0) n (length (set.items c.args.removed.now)) (length (set.items c.args.added.now)) c.args.looked.now c.near_each.new.looked c.near_each-2.new.looked here.2
    (c.near_each.ensures.looks here.0 (v.sets, c.self.invariant.0.1, here.1)) (c.near_each-2.ensures.looks here.0 (v.sets, c.self.invariant.0.1, here.1))

pub returns-in_err-near-clause-looks : goal.returns-in_err-near-clause-looks
returns-in_err-near-clause-looks g c = λ n within.
    let v = viewed c.self.inside.lens.now c.self.inside.handed.sets c.self.inside.tables.now in
    let here : IsWithin v n = subst (λ (x : Viewed). IsWithin x n) (sym c.self.view_is) within in
    near_looks (size v.lens here.0) n (length (set.items c.args.removed.now)) (length (set.items c.args.added.now)) c.args.looked.now c.near_each.new.looked c.near_each.new.looked here.2
    (c.near_each.ensures.looks here.0 (v.sets, c.self.invariant.0.1, here.1)) (omega arith)
