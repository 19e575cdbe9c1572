-- The laws of relations, of dependencies and of revision, each as one statement.
use Rattle.std.specs.Prelude.{◌≡◌, true, false, List, [], ◌∷◌}
use Rattle.plain_values.specs.SortedSet as set
use Rattle.plain_values.specs.Row.{Row}
use Rattle.lens_specs.specs.Common.{Name, Names, Within, at, Columns, Fits, names, Rows, has, Edge, Meets, MeetsTree, closure, tree_of, is_tree, outputs, revise_row, merge}
use Rattle.lens_specs.specs.Dependencies.{IsClosure, implies}
use Rattle.fd_laws.specs.Trees.{EdgesWithin, IsTree}

-- sets of rows with the same rows are one
abbrev pub RelationsAreSets : Type 0
RelationsAreSets = (M N : Rows) → ((r : Row) → has M r ≡ has N r) → M ≡ N

-- where M and L meet the tree, the merge meets it
abbrev pub MergeMeets : Type 0
MergeMeets = (T : List Edge) (M L : Rows) → IsTree T → MeetsTree M T → MeetsTree L T → MeetsTree (merge T M L) T

-- revision changes no column outside the outputs
abbrev pub RevisionKeeps : Type 0
RevisionKeeps = (T : List Edge) (m : Row) (L : Rows) (c : Name) → set.contains (outputs T) c ≡ false → at (revise_row T m L) c ≡ at m c

-- revision maps different rows to different rows
abbrev pub RevisionIsDistinct : Type 0
RevisionIsDistinct = (T : List Edge) (M L : Rows) (a b : Row) → IsTree T → MeetsTree M T → has M a ≡ true → has M b ≡ true → revise_row T a L ≡ revise_row T b L → a ≡ b

-- ---- dependencies

-- the computed closure is the least closed set
abbrev pub ClosureIsLeast : Type 0
ClosureIsLeast = (X : Names) (F : List Edge) → IsClosure X F (closure X F)

-- a relation that meets the dependencies meets what their closure holds
abbrev pub ImpliesIsSound : Type 0
ImpliesIsSound = (X Y C : Names) (F : List Edge) (M : Rows) → IsClosure X F C → Within Y C → MeetsTree M F → Meets M X Y

-- where it is not implied, two rows over any columns meet the dependencies and not this one
abbrev pub ImpliesIsComplete : Type 0
ImpliesIsComplete = (U : Columns) (X Y C : Names) (F : List Edge) → IsClosure X F C → Within X (names U) → Within Y (names U) → EdgesWithin (names U) F
    → (M : Rows) × ((r : Row) → has M r ≡ true → Fits U r) × MeetsTree M F × (Meets M X Y → Within Y C)

-- what `implies` answers: each relation that meets the dependencies meets the asked one, or two rows meet them and not it
abbrev pub ImpliesIsRight : Type 0
ImpliesIsRight = (U : Columns) (F : List Edge) (e : Edge) → EdgesWithin (names U) F → Within e.left (names U) → Within e.right (names U)
    → (implies F e ≡ true → (M : Rows) → MeetsTree M F → Meets M e.left e.right)
    × (implies F e ≡ false → (r s : Row) × Fits U r × Fits U s × MeetsTree (set.from_list (r ∷ s ∷ [])) F × (Meets (set.from_list (r ∷ s ∷ [])) e.left e.right → ⊥))

-- what the six steps give is a tree
abbrev pub TreeFormIsTree : Type 0
TreeFormIsTree = (F T : List Edge) → tree_of F ≡ is_tree T → IsTree T

-- a relation meets the tree form exactly where it meets the dependencies
abbrev pub TreeFormSaysTheSame : Type 0
TreeFormSaysTheSame = (F T : List Edge) → tree_of F ≡ is_tree T → (M : Rows) → (MeetsTree M F → MeetsTree M T) × (MeetsTree M T → MeetsTree M F)

-- the outputs are the columns that the dependencies imply from elsewhere
abbrev pub OutputsAreImplied : Type 0
OutputsAreImplied = (F T : List Edge) → tree_of F ≡ is_tree T → (A : Name)
    → (set.contains (outputs T) A ≡ true → (X : Names) × (set.contains X A ≡ false) × (set.contains (closure X F) A ≡ true))
    × ((X : Names) → set.contains X A ≡ false → set.contains (closure X F) A ≡ true → set.contains (outputs T) A ≡ true)
