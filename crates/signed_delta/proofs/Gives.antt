-- How few rows are found by the edges of a tree.
use Rattle.std.proofs.Common.{ℕ, List, [], ◌∷◌, subst, sym, inl, inr, arith}
use Rattle.plain_values.proofs.Common.{Contains}
use Rattle.lens_specs.specs.Common.{Edge, AllEdges, Names, Rows}
use Rattle.lens_laws.proofs.Common.{left_sides, GivesAtMost, contains_cases}

-- each left side of an edge is one of the sets
asked_of : (K : List Names) (T : List Edge) (C : Names) → AllEdges (λ e. Contains K e.left) T → Contains (left_sides T) C → Contains K C
asked_of K [] C all i = absurd (omega arith)
asked_of K (e ∷ es) C all i = elim (contains_cases C e.left (left_sides es) i) [
  | inl is ↦ subst (Contains K) (sym is) all.0
  | inr j ↦ asked_of K es C all.1 j
]

-- what holds of these sets holds of the left sides
pub gives_by_edges : (K : List Names) (T : List Edge) (M : Rows) (n : ℕ) → GivesAtMost n K M → AllEdges (λ e. Contains K e.left) T → GivesAtMost n (left_sides T) M
gives_by_edges K T M n h all = λ C k i. h C k (asked_of K T C all i)
