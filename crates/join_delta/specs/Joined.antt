-- Joins of two sources, and edits of them.
use Rattle.std.specs.Prelude.{◌≡◌, ◌≢◌, ◌≤◌, ◌*◌, ℕ, List, length, true}
use Rattle.std.specs.FinMap as finmap
use Rattle.std.specs.List.{Contains}
use Rattle.plain_values.specs.SortedSet as set
use Rattle.plain_values.specs.declared.join_kind.JoinKind.{JoinKind}
use Rattle.plain_values.specs.Row.{Row}
use Rattle.lens_specs.specs.Common.{Columns, Fits, both_columns, names, Applies, Delta, diff, new_view, AllEdges, Edge, MeetsTree, closure, Name, Names, Within, join_get, join_left_after, join_right_after, IsRelation, Relation, Rows, has, agree}
use Rattle.fd_laws.specs.Trees.{EdgesWithin, IsTree}
use Rattle.lens_laws.specs.Work.{GivesAtMost, rows_down, rows_of}

-- the shared columns
abbrev pub shared_names : Columns → Columns → Names
shared_names U V = set.intersection (names U) (names V)

-- what a join asks of the columns and the trees of its sources
pub record CanBeJoined (U V : Columns) (F G : List Edge) : Type 0 where
  -- each tree is over its columns
  pub within_left : EdgesWithin (names U) F
  pub within_right : EdgesWithin (names V) G
  -- a shared column has one kind
  pub kinds : (c : Name) → set.contains (names U) c ≡ true → set.contains (names V) c ≡ true
      → finmap.get U c ≡ finmap.get V c
  -- there are shared columns, and they determine the right ones
  pub shared : length (set.items (shared_names U V)) ≢ 0
  pub decides : Within (names V) (closure (shared_names U V) G)

-- rows over the columns of both sources, which meet both trees
pub record AreJoined (U V : Columns) (F G : List Edge) (O : Rows) : Type 0 where
  pub columns : (r : Row) → has O r ≡ true → Fits (both_columns U V) r
  pub left : MeetsTree O F
  pub right : MeetsTree O G

-- the natural join of two sources
abbrev pub joined : Relation → Relation → Rows
joined A B = join_get (names A.columns) (names B.columns) A.rows B.rows

-- their join after an edit of it
abbrev pub edited : Relation → Relation → Delta → Rows
edited A B d = new_view (joined A B) d

-- the left source after a put of the edited join, which deletes on this side
abbrev pub left_after : JoinKind → Relation → List Edge → Relation → List Edge → Delta → Rows
left_after k A F B G d =
    join_left_after k (names A.columns) (names B.columns) F G (edited A B d) A.rows B.rows

-- the right source after the same put
abbrev pub right_after : JoinKind → Relation → List Edge → Relation → List Edge → Delta → Rows
right_after k A F B G d =
    join_right_after k (names A.columns) (names B.columns) F G (edited A B d) A.rows B.rows

-- an edit d of the join of A, which may be asked by the sets K, and of B, which may be asked by L
pub record CanEdit (K L : List Names) (A B : Relation) (F G : List Edge) (d : Delta) : Type 0 where
  pub can : CanBeJoined A.columns B.columns F G
  -- each source may be asked by the left side of each edge of its tree, and by the shared columns
  pub left_asked : AllEdges (λ e. Contains K e.left) F
  pub left_shared : Contains K (shared_names A.columns B.columns)
  pub right_asked : AllEdges (λ e. Contains L e.left) G
  pub right_shared : Contains L (shared_names A.columns B.columns)
  -- each meets its tree
  pub left_meets : MeetsTree A.rows F
  pub right_meets : MeetsTree B.rows G
  -- the edit applies to the join, and leads to rows over its columns that meet both trees
  pub applies : Applies d (joined A B)
  pub view : AreJoined A.columns B.columns F G (edited A B d)

-- each row that the edit adds agrees on C with one that it removes
abbrev pub AreExchanged : Names → Delta → Type 0
AreExchanged C d = (row : Row) → has d.add row ≡ true → (gone : Row) × (has d.remove gone ≡ true) × (agree C gone row ≡ true)

-- two of the rows that agree on S are one
abbrev pub AreKeyed : Names → Rows → Type 0
AreKeyed S N = (m n : Row) → has N m ≡ true → has N n ≡ true → agree S m n ≡ true → m ≡ n

-- what holds of 2 * a * b, where a and b bound one question to each source, and each tree has at most 64 edges
abbrev pub AtSizes : (ℕ → Type 0) → (ℕ → Type 0) → List Edge → List Edge → (ℕ → Type 0) → Type 0
AtSizes within_left within_right F G P =
    (a b : ℕ) → within_left a → within_right b → length F ≤ 64 → length G ≤ 64 → P (2 * a * b)

-- what an edit d of the join of A and B, which deletes on this side, changes in them, where each finds so many rows within a question
pub record IsJoinChange (k : JoinKind) (within_left within_right : ℕ → Type 0) (A B : Relation) (F G : List Edge) (d : Delta) (changes : Delta × Delta) : Type 0 where
  pub left : changes.0 ≡ diff A.rows (left_after k A F B G d)
  pub right : changes.1 ≡ diff B.rows (right_after k A F B G d)
  -- neither has many rows
  pub left_few : AtSizes within_left within_right F G (λ n. rows_of changes.0 ≤ rows_down (rows_of d) n)
  pub right_few : AtSizes within_left within_right F G (λ n. rows_of changes.1 ≤ rows_down (rows_of d) n)

-- what holds of each source, which may be asked by the sets K, and of its tree
pub record IsSource (K : List Names) (within : ℕ → Type 0) (A : Relation) (F : List Edge) : Type 0 where
  pub fit : IsRelation A
  pub tree : IsTree F
  -- a question looks at one row at least, and finds no more rows than it looks at
  pub some : (n : ℕ) → within n → 1 ≤ n
  pub gives : (n : ℕ) → within n → GivesAtMost n K A.rows
