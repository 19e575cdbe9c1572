use Rattle.std.proofs.Common.{◌≡◌, ◌∙◌, ◌&&◌, ap, sym, true}
use Rattle.plain_values.proofs.Common.{list_any, IfOk-weaker}
use Rattle.plain_values.specs.SortedSet as set
use Rattle.lens_specs.specs.Common.{agree}
use Rattle.edit_check.proofs.CheckedEdits.{each_replaced, one_replaced}
use Rattle.edit_check.proofs.checking.all_replaced.Goals as goal

pub returns-in-Some : goal.returns-in-Some
returns-in-Some c = λ all.
    let e = c.args.edge.now in
    let d = c.args.delta.now in
    let r = c.in-Some.row.now in
    let only = ap set.items (sym c.add.ensures) ∙ c.in-Some.ensures in
    let alike : list_any (λ q. agree e.left r q && agree e.right r q) (set.items d.remove) ≡ true =
    ap (λ R. list_any (λ q. agree e.left r q && agree e.right r q) (set.items R)) (sym c.remove.ensures) ∙ sym c.replaces_alike.ensures ∙ all in
    one_replaced e d r only alike

pub returns-in-None : goal.returns-in-None
returns-in-None c = IfOk-weaker c.all_replace_alike.result _ _ (λ all is yes. each_replaced c.args.edge.now c.args.delta.now (sym is ∙ yes)) c.all_replace_alike.ensures
