use Rattle.std.proofs.Common.{ap, sym, ◌∙◌}
use Rattle.plain_values.proofs.Common.{list_any, eq_by_cmp, row_cmp, row_cmp_total, row_cmp-IsAntisymmetric}
use Rattle.plain_values.specs.SortedSet as set
use Rattle.row_sets.proofs.row_tree.RowTree.of.Goals as goal

pub returns : goal.returns
returns c = set.same_set row_cmp_total row_cmp-IsAntisymmetric _ _ (λ q.
    set.contains-from_list row_cmp_total c.in_ok-tree_of.field-0.keys q ∙ c.in_ok-tree_of.ensures.0 q
    ∙ ap (list_any (eq_by_cmp row_cmp q)) c.into_rows.ensures ∙ sym (set.contains-items c.args.rows q))
