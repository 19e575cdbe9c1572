use Rattle.std.proofs.Common.{◌≡◌, map, ap, subst, ◌∙◌, IfOk}
use Rattle.plain_values.proofs.Common.{Contains}
use Rattle.plain_values.specs.SortedSet as set
use Rattle.lens_specs.specs.Common.{image, renamed_row}
use Rattle.lens_laws.proofs.NodeFinds.{has_contained}
use Rattle.lens_types.proofs.rows.rename_set.Goals as goal

pub rename_rows-requires-clause-over : goal.rename_rows-requires-clause-over
rename_rows-requires-clause-over c = λ row i. c.requires.over row (has_contained c.args.rows.now row (subst (λ rs. Contains rs row) c.rows.ensures i))

pub returns : goal.returns
unfolding image
returns c =
    let f = renamed_row c.args.col.now c.args.to.now in
    subst (λ rs. IfOk c.new.result (λ made. made ≡ set.from_list rs)) (c.in_ok-list.ensures ∙ ap (map f) c.rows.ensures) c.new.ensures
