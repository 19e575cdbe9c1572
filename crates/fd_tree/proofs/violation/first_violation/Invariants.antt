use Rattle.std.proofs.Common.{◌≡◌, ◌<◌, ℕ, length, drop}
use Rattle.lens_specs.specs.Common.{agree, edge, clashes, first_pair}
use Rattle.fd_tree.specs.ClashPlaces.{ArePlaces, SameFrom, entry, later_places}
use Rattle.fd_tree.proofs.violation.first_violation.Given as goal

abbrev pub invariant-loop-place : goal.invariant-loop-place
invariant-loop-place l = record {
  len : length l.partners.items ≡ length l.rows;
  next_in_group : (k : ℕ) → k < l.place → entry l.partners.items k ≡ entry (later_places (agree l.edge.left) 0 l.rows) k;
  later : SameFrom l.place l.partners.items (later_places (clashes (edge l.edge.left l.edge.right)) 0 l.rows);
  first : ArePlaces l.rows l.first (first_pair (edge l.edge.left l.edge.right) (drop l.place l.rows));
}
