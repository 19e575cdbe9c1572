use Rattle.std.proofs.Common.{◌≡◌, take, map, IfSome, filter, flat_map}
use Rattle.plain_values.proofs.Common.{is_eq, override, restrict, row_cmp}
use Rattle.row_sets.proofs.joining.paired.Given as goal

abbrev pub invariant-loop-row : goal.invariant-loop-row
invariant-loop-row l =
    (l.pairs.items ≡ flat_map (λ m. map (λ e. override e.1 m) (filter (λ e. is_eq (row_cmp e.0 (restrict l.cols m))) l.index)) (take l.row-index l.rows))
    × IfSome l.before (λ b. l.near.entries.now ≡ filter (λ e. is_eq (row_cmp e.0 (restrict l.cols b.now))) l.index)
