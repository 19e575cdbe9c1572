-- The laws of the bounds on looks: a look-up in a view gives few rows, and the work of the nodes adds up.
use Rattle.std.specs.Prelude.{Ok, ◌≡◌, ℕ, ◌+◌, ◌*◌, ◌≤◌, Bool, List, [], ◌∷◌, length}
use Rattle.plain_values.specs.SortedSet as set
use Rattle.plain_values.specs.declared.value.Value.{Value}
use Rattle.plain_values.specs.Row.{Row}
use Rattle.plain_values.specs.declared.join_kind.JoinKind.{JoinKind}
use Rattle.lens_specs.specs.Common.{Name, Names, Columns, names, Rows, Edge, AllEdges, Predicate, Sort, sort, table_sort, Tables, Lens, base, select, drop, rename, sort_of, get, view_names, Delta}
use Rattle.std.specs.FinMap as finmap
use Rattle.lens_specs.specs.Lens.{join}
use Rattle.lens_laws.specs.Asked.{IsFilled, left_sides, keys_at, asked, AreKeys, HasKeys}
use Rattle.lens_laws.specs.Lenses.{IsTyped, AreOf}
use Rattle.lens_laws.specs.Rename.{rename_delta}
use Rattle.lens_laws.specs.JoinKinds.{join_delta_left_kept, join_delta_right_free}
use Rattle.lens_laws.specs.KeyedDeltas.{touched, select_delta, join_delta_right, join_delta_left}
use Rattle.lens_laws.specs.Work.{BasesAreSmall, count_of, rows_of, fan, size, node_work, rows_down, work, GivesAtMost, TablesGiveAtMost}

-- ---- rows found

-- the fan bounds what the tables give by the pairs by which the lens asks them
abbrev pub FanBounds : Type 0
FanBounds = (L : Lens) (db : Tables) → TablesGiveAtMost (fan L db) (asked L []) db

-- a view gives no more than its size, where w bounds what its tables give
abbrev pub ViewGives : Type 0
ViewGives = (L : Lens) (K : List Names) (db : Tables) (w : ℕ) → IsTyped L → HasKeys L → AreOf L db → AreKeys (view_names L) K → TablesGiveAtMost w (asked L K) db
    → GivesAtMost (size L w) (keys_at L K) (get L db)

-- ---- sizes and work

-- a size is at least 1
abbrev pub SizeIsSome : Type 0
SizeIsSome = (L : Lens) (w : ℕ) → 1 ≤ size L w

-- in a join: a look-up on a side and one on the other for each row found, or a look at each side
abbrev pub JoinLooks : Type 0
JoinLooks = (a b : ℕ) → 1 ≤ a → 1 ≤ b → (a + a * b ≤ 2 * a * b) × (b + b * a ≤ 2 * a * b) × (a + b ≤ 2 * a * b)

-- the work grows with the rows and with the groups
abbrev pub WorkGrows : Type 0
WorkGrows = (L : Lens) (d e v w : ℕ) → d ≤ e → v ≤ w → work L d v ≤ work L e w

-- each row looked up by at most 8192 keys
abbrev pub KeyedWork : Type 0
KeyedWork = (L : Lens) (d e w : ℕ) → e ≤ 8192 → e * d * size L w ≤ work L d w

-- what a select does itself, and what its source does with the rows handed down
abbrev pub SelectWork : Type 0
SelectWork = (P : Predicate) (L : Lens) (d e w x : ℕ) → let n = size (select P L) w in x ≤ node_work d n → e ≤ rows_down d n → x + work L e w ≤ work (select P L) d w

-- what a drop does itself, and what its source does with the rows handed down
abbrev pub DropWork : Type 0
DropWork = (A : Name) (X : Names) (a : Value) (L : Lens) (d e w x : ℕ) → let n = size (drop A X a L) w in x ≤ node_work d n → e ≤ rows_down d n → x + work L e w ≤ work (drop A X a L) d w

-- and of a rename
abbrev pub RenameWork : Type 0
RenameWork = (A B : Name) (L : Lens) (d e w x : ℕ) → let n = size (rename A B L) w in x ≤ node_work d n → e ≤ rows_down d n → x + work L e w ≤ work (rename A B L) d w

-- and of a join, with both sides
abbrev pub JoinWork : Type 0
JoinWork = (k : JoinKind) (A B : Lens) (d e f w x : ℕ) → let n = size (join k A B) w in x ≤ node_work d n → e ≤ rows_down d n → f ≤ rows_down d n → x + work A e w + work B f w ≤ work (join k A B) d w

-- the tree of a view has at most as many edges as there are columns
abbrev pub ViewEdgesAreFew : Type 0
ViewEdgesAreFew = (L : Lens) → IsTyped L → HasKeys L → length (sort_of L).tree ≤ length (set.items (view_names L))

-- ---- what tables and views have

-- each view that the rule of sorts does not refuse has at most 64 columns, where the tables have
abbrev pub SortIsSmall : Type 0
SortIsSmall = (L : Lens) (s : Sort) → BasesAreSmall L → sort L ≡ Ok s → finmap.len s.columns ≤ 64

-- a table's sort that is not refused has keys, and few columns, where the table has a column and its dependencies left sides
abbrev pub TableHasKeys : Type 0
TableHasKeys = (t : Name) (U : Columns) (F : List Edge) (P : Predicate) (s : Sort) → IsFilled (names U) → AllEdges (λ e. IsFilled e.left) F → table_sort U F P ≡ Ok s → HasKeys (base t s) × BasesAreSmall (base t s)

-- ---- what the nodes hand down, from sources that give few rows, along trees of at most 64 edges

-- the rows that revision changes: n for each row and edge
abbrev pub TouchedAreFew : Type 0
TouchedAreFew = (F : List Edge) (M L : Rows) (n : ℕ) → GivesAtMost n (left_sides F) M → count_of (touched F M L) ≤ length F * (count_of L * n)

-- a select
abbrev pub SelectDeltaIsSmall : Type 0
SelectDeltaIsSmall = (F : List Edge) (P : Row → Bool) (M : Rows) (d : Delta) (n : ℕ) → length F ≤ 64 → 1 ≤ n → GivesAtMost n (left_sides F) M → rows_of (select_delta F P M d) ≤ rows_down (rows_of d) n

-- a rename hands down no more rows than it is given
abbrev pub RenameDeltaIsSmall : Type 0
RenameDeltaIsSmall = (A B : Name) (d : Delta) → rows_of (rename_delta A B d) ≤ rows_of d

-- the right side of a join
abbrev pub JoinRightIsSmall : Type 0
JoinRightIsSmall = (V : Names) (G : List Edge) (N : Rows) (d : Delta) (a b : ℕ) → length G ≤ 64 → 1 ≤ a → 1 ≤ b → GivesAtMost b (left_sides G) N → rows_of (join_delta_right V G N d) ≤ rows_down (rows_of d) (2 * a * b)

-- and the left one
abbrev pub JoinLeftIsSmall : Type 0
JoinLeftIsSmall = (U V : Names) (F G : List Edge) (M N O : Rows) (d : Delta) (a b : ℕ) → length F ≤ 64 → length G ≤ 64 → 1 ≤ a → 1 ≤ b
    → GivesAtMost a (set.intersection U V ∷ left_sides F) M → GivesAtMost b (left_sides G) N → rows_of (join_delta_left U V F G M N O d) ≤ rows_down (rows_of d) (2 * a * b)

-- and those of a join that deletes on the right
abbrev pub JoinLeftKeptIsSmall : Type 0
JoinLeftKeptIsSmall = (U V : Names) (F G : List Edge) (M N O : Rows) (d : Delta) (a b : ℕ) → length F ≤ 64 → length G ≤ 64 → 1 ≤ a → 1 ≤ b
    → GivesAtMost a (set.intersection U V ∷ left_sides F) M → GivesAtMost b (left_sides G) N → rows_of (join_delta_left_kept U V F G M N O d) ≤ rows_down (rows_of d) (2 * a * b)

-- which asks both sides by the shared columns
abbrev pub JoinRightFreeIsSmall : Type 0
JoinRightFreeIsSmall = (U V : Names) (F G : List Edge) (M N O : Rows) (d : Delta) (a b : ℕ) → length F ≤ 64 → length G ≤ 64 → 1 ≤ a → 1 ≤ b
    → GivesAtMost a (left_sides F) M → GivesAtMost b (set.intersection U V ∷ left_sides G) N → rows_of (join_delta_right_free U V F G M N O d) ≤ rows_down (rows_of d) (2 * a * b)
