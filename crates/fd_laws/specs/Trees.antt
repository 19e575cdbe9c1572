-- What it is to be a tree of dependencies.
use Rattle.std.specs.Prelude.{◌≡◌, List, [], ◌∷◌, ◌⊎◌}
use Rattle.lens_specs.specs.Common.{Disjoint, Names, Within, Edge, AllEdges}

-- what an edge is to one behind it
pub record IsBefore (e k : Edge) : Type 0 where
  pub lefts : Disjoint e.left k.left
  pub rights : Disjoint e.right k.right
  -- nothing behind an edge writes what it reads
  pub reads : Disjoint e.left k.right
  -- the later one reads nothing that the first writes, or nothing else
  pub fits : Disjoint k.left e.right ⊎ Within k.left e.right

-- no edge writes what it reads, and each fits those behind it
abbrev pub IsTree : List Edge → Type 0
IsTree [] = Unit {0}
IsTree (e ∷ es) = Disjoint e.left e.right × AllEdges (IsBefore e) es × IsTree es

-- the edge stands in the list
abbrev pub Among : Edge → List Edge → Type 0
Among e [] = ⊥
Among e (k ∷ ks) = (e ≡ k) ⊎ Among e ks

-- the edges look at these columns alone
abbrev pub EdgesWithin : Names → List Edge → Type 0
EdgesWithin U T = AllEdges (λ e. Within e.left U × Within e.right U) T
