use Rattle.std.proofs.Common.{map, ap, ◌∙◌, filter, flat_map}
use Rattle.plain_values.proofs.Common.{eq_by_cmp, is_eq, list_any, IfOk-weaker, override, restrict, row_cmp}
use Rattle.plain_values.specs.SortedSet as set
use Rattle.row_sets.specs.Joins.{entry_cmp, with_key}
use Rattle.row_sets.proofs.Pairs.{paired_is}
use Rattle.row_sets.proofs.row_set.RowSet.joined_rows.Goals as goal

pub returns : goal.returns
returns c =
    let C = c.args.cols.now in
    let index = c.in_ok-index.index.items in
    IfOk-weaker c.paired.result _ _ (λ rows pairs.
    ap set.from_list (pairs ∙ (λ i. flat_map (λ m. map (λ e. override e.1 m) (filter (λ e. is_eq (row_cmp e.0 (restrict C m))) (c.deref.ensures.value i))) (c.rows-2.ensures i)))
    ∙ paired_is C c.args.self.now c.args.other.now index (λ e. c.in_ok-index.ensures.members e ∙ ap (λ l. list_any (eq_by_cmp entry_cmp e) (map (with_key C) l)) c.rows.ensures))
    c.paired.ensures
