-- Columns: finite maps from names to kinds, and which rows they fit.
use Rattle.std.specs.Prelude.{◌≡◌, ℕ, Bool, true, false, not, List, find, Option, Some, None}
use Rattle.std.specs.FinMap as map
use Rattle.plain_values.specs.Order.{bytes_cmp}
use Rattle.plain_values.specs.Names.{Names}
use Rattle.plain_values.specs.Row.{Row}
use Rattle.plain_values.specs.SortedSet as set
use Rattle.plain_values.specs.Value.{fits, same_kind}
use Rattle.plain_values.specs.declared.value.Kind.{Kind}
use Rattle.plain_values.specs.declared.value.Value.{Value}

-- the kind of each column
abbrev pub Columns : Type 0
Columns = map.FinMap bytes_cmp Kind

-- the names of the columns
unfoldable pub names : Columns → Names
names U = set.from_list (map.keys U)

-- nothing where the column is not there, a value that fits where it is
abbrev pub fits_at : Option Value → Option Kind → Bool
fits_at None None = true
fits_at None (Some k) = false
fits_at (Some v) None = false
fits_at (Some v) (Some k) = fits v k

-- the row has exactly these columns, with a value that fits in each
abbrev pub Fits : Columns → Row → Type 0
Fits U r = (c : List ℕ) → fits_at (map.get r c) (map.get U c) ≡ true

-- each column of U is in V, with the same kind
abbrev pub ColumnsWithin : Columns → Columns → Type 0
ColumnsWithin U V = (c : List ℕ) (k : Kind) → map.get U c ≡ Some k → map.get V c ≡ Some k

-- whether the column is there with this kind
abbrev pub is_kind : Option Kind → Kind → Bool
is_kind None k = false
is_kind (Some j) k = same_kind j k

-- whether the column is there with another kind
abbrev pub is_other_kind : Option Kind → Kind → Bool
is_other_kind None k = false
is_other_kind (Some j) k = not (same_kind k j)

-- whether the kinds are there and the same
abbrev pub like_kinds : Option Kind → Option Kind → Bool
like_kinds j None = false
like_kinds j (Some k) = is_kind j k

-- the least shared column with two kinds
abbrev pub kinds_differ : Columns → Columns → Option (List ℕ)
kinds_differ U V = find (λ c. not (like_kinds (map.get U c) (map.get V c))) (set.items (set.intersection (names U) (names V)))
