-- Rows: finite maps from names to values, how they agree, and their order.
use Rattle.std.specs.Prelude.{ℕ, Bool, ◌&&◌, List, nat_eq}
use Rattle.std.specs.declared.cmp.Ordering.{Ordering}
use Rattle.std.specs.List.{list_all}
use Rattle.std.specs.Ordering.{on, then_cmp}
use Rattle.std.specs.Cmp.Lexicographic.{slice_cmp, pointwise}
use Rattle.std.specs.FinMap as map
use Rattle.plain_values.specs.Names.{Names}
use Rattle.plain_values.specs.Order.{bytes_cmp}
use Rattle.plain_values.specs.SortedSet as set
use Rattle.plain_values.specs.Value.{fits, same_value, value_cmp}
use Rattle.plain_values.specs.declared.value.Kind.{Kind}
use Rattle.plain_values.specs.declared.value.Value.{Value}

-- the value of each column
abbrev pub Row : Type 0
Row = map.FinMap bytes_cmp Value

-- whether two rows have the same value, or none, in each of these columns
unfoldable pub agree : Names → Row → Row → Bool
agree C a b = list_all (λ c. same_value (map.get a c) (map.get b c)) (set.items C)

-- whether the value is in this column, and fits its kind
abbrev pub pair_fits : List ℕ × Value → List ℕ × Kind → Bool
pair_fits p c = pointwise nat_eq p.0 c.0 && fits p.1 c.1

-- by name, then by value
abbrev pub pair_cmp : List ℕ × Value → List ℕ × Value → Ordering
pair_cmp = then_cmp (on (λ p. p.0) bytes_cmp) (on (λ p. p.1) value_cmp)

-- pair by pair in rising order of names, and a proper prefix before the longer list
abbrev pub row_cmp : Row → Row → Ordering
row_cmp = on map.entries (slice_cmp pair_cmp)
