-- The rows near new ones: those that revision by them may change.
use Rattle.std.specs.Prelude.{◌≡◌, ◌≢◌, ◌*◌, ℕ, length, Bool, true, false, not, cond, ◌&&◌, List, [], ◌∷◌, ◌++◌, Option, Some, None}
use Rattle.std.specs.List.{Contains, list_any}
use Rattle.plain_values.specs.SortedSet as set
use Rattle.plain_values.specs.Row.{Row}
use Rattle.lens_specs.specs.Common.{Fits, names, AllEdges, Edge, MeetsTree, Names, Within, Relation, Rows, first_row, has, those, union, agree}
use Rattle.lens_laws.specs.KeyedDeltas.{find_by, found_each, is_changed}

-- whether q agrees with p on both sides of the edge
abbrev pub is_like : Edge → Row → Row → Bool
is_like e p q = agree e.left q p && agree e.right q p

-- the rows, and where none of them is like p at the edge, those of M that agree with p on its left side
abbrev pub near_along : Edge → Rows → Row → List Row → List Row
near_along e M p rows = cond (list_any (is_like e p) rows) rows (rows ++ set.items (find_by e.left p M))

-- the rows, and those that near_along adds along each edge in turn
unfoldable pub near_from : List Edge → Rows → Row → List Row → List Row
near_from [] M p rows = rows
near_from (e ∷ es) M p rows = near_from es M p (near_along e M p rows)

-- whether there is such a row, and p agrees with it on C
abbrev pub agrees_with : Names → Row → Option Row → Bool
agrees_with C p None = false
agrees_with C p (Some q) = agree C q p

-- whether the first row of N that agrees with p on the left side of the edge agrees with it on the right side too
abbrev pub is_like_first : Edge → Rows → Row → Bool
is_like_first e N p = agrees_with e.right p (first_row (agree e.left p) N)

-- the rows of L of which that does not hold
abbrev pub unlike : Edge → Rows → Rows → Rows
unlike e N L = those (λ p. not (is_like_first e N p)) L

-- the rows N, and along each edge in turn those of M that agree on its left side with a row of L that is unlike those before
unfoldable pub near_through : List Edge → Rows → Rows → Rows → Rows
near_through [] M L N = N
near_through (e ∷ es) M L N = near_through es M L (union N (found_each e.left M (set.items (unlike e N L))))

-- a relation that meets the tree and may be asked by the left side of each edge, by the sets K, and new rows L over its columns
pub record CanRevise (K : List Names) (A : Relation) (T : List Edge) (L : Rows) : Type 0 where
  pub asked : AllEdges (λ e. Contains K e.left) T
  pub columns : AllEdges (λ e. Within e.left (names A.columns)) T
  pub meets : MeetsTree A.rows T
  pub fit : (row : Row) → has L row ≡ true → Fits A.columns row

-- a question for each row of L along each edge, where one looks at n rows and finds no more
abbrev pub near_work : List Edge → Rows → ℕ → ℕ
near_work T L n = n * length (set.items L) * length T

-- N are rows of M, among them each that revision by L changes
pub record HasChanged (T : List Edge) (M L N : Rows) : Type 0 where
  pub within : (m : Row) → has N m ≡ true → has M m ≡ true
  pub changed : (m : Row) → has M m ≡ true → is_changed T L m ≡ true → has N m ≡ true
  -- where the tree has an edge, also each row of L that M has already
  pub present : length T ≢ 0 → (m : Row) → has L m ≡ true → has M m ≡ true → has N m ≡ true
