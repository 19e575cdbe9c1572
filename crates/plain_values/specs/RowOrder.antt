-- The order of rows is total, and only equal rows tie.
use Rattle.std.specs.Prelude.{◌≡◌}
use Rattle.std.proofs.Common.{refl}
use Rattle.std.specs.declared.cmp.Ordering.{Ordering}
use Rattle.std.specs.declared.cmp.Ordering.TheVariants.{Less, Equal, Greater}
use Rattle.std.specs.Ordering.{ordering_then}
use Rattle.std.specs.Cmp.{IsTotalOrder, on_total, then_total}
use Rattle.std.specs.Cmp.Lexicographic.{lists_total, nat_list_cmp_total}
use Rattle.std.specs.FinMap.{IsAntisymmetric, nat_cmp-IsAntisymmetric, slice_cmp-IsAntisymmetric, same_entries_map, entries}
use Rattle.plain_values.specs.Order.{bytes_cmp}
use Rattle.plain_values.specs.ValueOrder.{value_cmp_total, value_cmp-IsAntisymmetric}
use Rattle.plain_values.specs.Value.{value_cmp}
use Rattle.plain_values.specs.Row.{pair_cmp, row_cmp}

-- the order of rows is total
pub row_cmp_total : IsTotalOrder row_cmp
row_cmp_total = on_total entries (lists_total (then_total (on_total (λ p. p.0) nat_list_cmp_total) (on_total (λ p. p.1) value_cmp_total)))

then_equal : (a b : Ordering) → ordering_then a b ≡ Equal → (a ≡ Equal) × (b ≡ Equal)
then_equal Less b e = cc
then_equal Equal b e = (refl, e)
then_equal Greater b e = cc

-- only equal pairs tie
pub pair_cmp-IsAntisymmetric : IsAntisymmetric pair_cmp
pair_cmp-IsAntisymmetric p q e =
    let both = then_equal (bytes_cmp p.0 q.0) (value_cmp p.1 q.1) e in
    let names : p.0 ≡ q.0 = slice_cmp-IsAntisymmetric nat_cmp-IsAntisymmetric p.0 q.0 both.0 in
    let values : p.1 ≡ q.1 = value_cmp-IsAntisymmetric p.1 q.1 both.1 in
    λ i. (names i, values i)

-- only equal rows tie
pub row_cmp-IsAntisymmetric : IsAntisymmetric row_cmp
row_cmp-IsAntisymmetric r s e = same_entries_map r s (slice_cmp-IsAntisymmetric pair_cmp-IsAntisymmetric (entries r) (entries s) e)
