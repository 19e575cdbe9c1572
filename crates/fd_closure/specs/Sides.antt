-- The two sides of a dependency: a contract sees a `Dep` as the edge of its sides.
use Rattle.std.specs.Prelude.{◌≢◌, ◌||◌, if◌then◌else◌, length, nat_eq, refl, Result, Ok, Err}
use Rattle.std.specs.Coded.{Coded, code_by, coded×, coded_list, coded_ℕ}
use Rattle.plain_values.specs.SortedSet as set
use Rattle.lens_specs.specs.Common.{Names, Edge, edge}
use Rattle.fd_closure.specs.declared.dep.EmptySide.{EmptySide}

-- neither side is empty
abbrev pub IsFull : Edge → Type 0
IsFull e = (length (set.items e.left) ≢ 0) × (length (set.items e.right) ≢ 0)

-- the fault of an empty side
abbrev pub empty_side : EmptySide
empty_side = record {}

-- the edge of two sides, where neither is empty
abbrev pub dep_of : Names → Names → Result Edge EmptySide
dep_of X Y = if nat_eq (length (set.items X)) 0 || nat_eq (length (set.items Y)) 0 then Err empty_side else Ok (edge X Y)

-- how an edge is stored, from how its sides are
abbrev pub coded_names : Coded Names
coded_names = set.code (coded_list coded_ℕ)

abbrev pub coded_edge : Coded Edge
coded_edge = code_by (Names × Names) (coded× coded_names coded_names) (λ e. (e.left, e.right)) (λ p. edge p.0 p.1) (λ _. refl)
