use Rattle.std.proofs.Common.{◌≡◌, length, drop}
use Rattle.std.specs.BTreeMap.{get}
use Rattle.plain_values.proofs.Common.{position_from, is_eq, restrict, row_cmp, Row}
use Rattle.lens_specs.specs.Common.{agree}
use Rattle.fd_tree.specs.ClashPlaces.{SameFrom, later_places}
use Rattle.fd_tree.proofs.next_in_group.next_by_part.Given as goal

abbrev pub invariant-loop-place : goal.invariant-loop-place
invariant-loop-place l = record {
  len : length l.next_in_group.items ≡ length l.rows;
  latest : (q : Row) → get row_cmp l.latest q ≡ position_from (λ r. is_eq (row_cmp (restrict l.cols r) q)) l.place (drop l.place l.rows);
  later : SameFrom l.place l.next_in_group.items (later_places (agree l.cols) 0 l.rows);
}
