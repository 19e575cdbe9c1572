use Rattle.std.proofs.Common.{◌≡◌, ℕ, length, drop}
use Rattle.std.specs.BTreeMap.{get}
use Rattle.plain_values.proofs.Common.{position_from, is_eq, nat_cmp}
use Rattle.lens_specs.specs.Common.{agree}
use Rattle.fd_tree.specs.RowHash.{hash_row}
use Rattle.fd_tree.specs.ClashPlaces.{SameFrom, later_places}
use Rattle.fd_tree.proofs.next_in_group.next_by_hash.Given as goal

abbrev pub invariant-loop-place : goal.invariant-loop-place
invariant-loop-place l = record {
  len : length l.next_in_group.items ≡ length l.rows;
  latest : (q : ℕ) → get nat_cmp l.latest q ≡ position_from (λ r. is_eq (nat_cmp (hash_row l.cols r) q)) l.place (drop l.place l.rows);
  later : SameFrom l.place l.next_in_group.items (later_places (agree l.cols) 0 l.rows);
}
