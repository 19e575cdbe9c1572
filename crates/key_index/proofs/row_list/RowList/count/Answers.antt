use Rattle.std.proofs.Common.{ap, sym, ◌∙◌, length, rules, ◌≡◌}
use Rattle.plain_values.proofs.Common.{row_cmp_total}
use Rattle.plain_values.specs.SortedSet as set
use Rattle.key_index.proofs.row_list.RowList.count.Goals as goal

pub returns : goal.returns
returns c =
    let many : c.len.result ≡ length c.self.inside.rows.items = search rules in
    many ∙ ap length (sym (set.items-from_list row_cmp_total c.self.inside.rows.items c.self.invariant)) ∙ ap (λ s. length (set.items s)) c.self.view_is
