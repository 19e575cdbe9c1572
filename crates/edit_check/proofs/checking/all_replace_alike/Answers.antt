use Rattle.std.proofs.Common.{◌≡◌, ◌∙◌, ap, subst, IfOk}
use Rattle.plain_values.proofs.Common.{list_all, restrict}
use Rattle.plain_values.specs.SortedSet as set
use Rattle.lens_specs.specs.Common.{Edge, has, project}
use Rattle.edit_check.proofs.checking.all_replace_alike.Goals as goal

pub returns : goal.returns
returns c =
    let e = c.args.edge.now in
    let d = c.args.delta.now in
    let C = set.union e.left e.right in
    let sides : c.in_ok-sides.sides ≡ C = c.in_ok-sides.ensures ∙ ap (λ (x : Edge). set.union x.left x.right) c.edge.view_is in
    let removed : c.in_ok-removed.removed ≡ project C d.remove = c.in_ok-removed.ensures ∙ (λ i. project (sides i) (c.remove.ensures i)) in
    let added : c.rows.result.now ≡ set.items d.add = c.rows.ensures ∙ ap set.items c.add.ensures in
    subst (λ all. IfOk c.all_parts_in.result (λ b. b ≡ all)) (λ i. list_all (λ row. has (removed i) (restrict (sides i) row)) (added i)) c.all_parts_in.ensures
