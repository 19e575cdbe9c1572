use Rattle.std.proofs.Common.{◌∙◌, ap, sym, map, ◌++◌}
use Rattle.plain_values.proofs.Common.{bytes_cmp, entries-from_entries}
use Rattle.fd_laws.proofs.Common.{name_total}
use Rattle.signed_delta.specs.Tables.{table_delta}
use Rattle.lens_chain.specs.Changed.{in_order, of_entry}
use Rattle.lens_chain.proofs.changes.Changes.in_order.Goals as goal

pub loop-table-init : goal.loop-table-init
loop-table-init c =
    let entries = c.self.inside.deltas.entries in
    (λ i. map table_delta (c.in_ok-list.ensures.items i) ++ map of_entry (c.into_iter-table-iterator.ensures.into_iter_gives.0 i))
    ∙ ap (map of_entry) (sym (entries-from_entries bytes_cmp name_total entries c.len.ensures.ordered))
    ∙ ap in_order c.self.view_is
