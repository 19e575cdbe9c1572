-- How many rows of a table agree on columns by which it is asked, and the bounds on looks that come of it.
use Rattle.std.specs.Prelude.{ℕ, ◌+◌, ◌*◌, ◌≤◌, max, List, [], ◌∷◌, map, length}
use Rattle.std.specs.List.{Contains}
use Rattle.std.specs.FinMap as finmap
use Rattle.plain_values.specs.SortedSet as set
use Rattle.plain_values.specs.Row.{Row}
use Rattle.lens_specs.specs.Common.{Name, Names, Rows, Tables, Lens, base, select, drop, rename, table, Delta}
use Rattle.lens_specs.specs.Lens.{join}
use Rattle.lens_laws.specs.Asked.{asked}
use Rattle.lens_laws.specs.KeyedDeltas.{find_by}

-- the number of rows
abbrev pub count_of : Rows → ℕ
count_of M = length (set.items M)

-- the number of rows to remove and to add
abbrev pub rows_of : Delta → ℕ
rows_of d = count_of d.remove + count_of d.add

-- the greatest number in the list, or 0
abbrev pub greatest : List ℕ → ℕ
greatest [] = 0
greatest (n ∷ ns) = max n (greatest ns)

-- the greatest number of rows that agree on C
abbrev pub largest_group : Names → Rows → ℕ
largest_group C M = greatest (map (λ r. count_of (find_by C r M)) (set.items M))

-- the greatest number of rows of one table that agree on a set by which it may be asked, and at least 1
unfoldable pub fan : Lens → Tables → ℕ
fan L db = max 1 (greatest (map (λ p. largest_group p.1 (table db p.0)) (asked L [])))

-- what bounds the looks of one look-up in the view, and the rows that it gives, where w bounds the groups of its tables
unfoldable pub size : Lens → ℕ → ℕ
size (base t s) w = 1 + w
size (select P L) w = size L w
size (drop A X a L) w = size L w
size (rename A B L) w = size L w
size (join k A B) w = 2 * size A w * size B w

-- what bounds the looks at one node of this size, for d rows
abbrev pub node_work : ℕ → ℕ → ℕ
node_work d n = 8192 * d * n * n

-- what bounds the rows that a node of this size hands down, for d rows
abbrev pub rows_down : ℕ → ℕ → ℕ
rows_down d n = 512 * d * n

-- what bounds the looks of an edit of the view by d rows
unfoldable pub work : Lens → ℕ → ℕ → ℕ
work (base t s) d w = node_work d (size (base t s) w)
work (select P L) d w = node_work d (size (select P L) w) + work L (rows_down d (size (select P L) w)) w
work (drop A X a L) d w = node_work d (size (drop A X a L) w) + work L (rows_down d (size (drop A X a L) w)) w
work (rename A B L) d w = node_work d (size (rename A B L) w) + work L (rows_down d (size (rename A B L) w)) w
work (join k A B) d w = node_work d (size (join k A B) w) + work A (rows_down d (size (join k A B) w)) w + work B (rows_down d (size (join k A B) w)) w

-- no look-up by one of these sets gives more than n rows
abbrev pub GivesAtMost : ℕ → List Names → Rows → Type 0
GivesAtMost n K M = (C : Names) (k : Row) → Contains K C → count_of (find_by C k M) ≤ n

-- and none in a table, by one of these pairs
abbrev pub TablesGiveAtMost : ℕ → List (Name × Names) → Tables → Type 0
TablesGiveAtMost n ps db = (t : Name) (C : Names) (k : Row) → Contains ps (t, C) → count_of (find_by C k (table db t)) ≤ n

-- each table has at most 64 columns
abbrev pub BasesAreSmall : Lens → Type 0
BasesAreSmall (base t s) = finmap.len s.columns ≤ 64
BasesAreSmall (select P L) = BasesAreSmall L
BasesAreSmall (drop A X a L) = BasesAreSmall L
BasesAreSmall (rename A B L) = BasesAreSmall L
BasesAreSmall (join k A B) = BasesAreSmall A × BasesAreSmall B
