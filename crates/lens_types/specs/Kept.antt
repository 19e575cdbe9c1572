-- What is known of a lens, its sort and its size; and when a call gives the lens that is asked for.
use Rattle.std.specs.Prelude.{◌≡◌, ℕ, ◌≤◌, IsOk, Result, Ok, Err}
use Rattle.lens_specs.specs.Common.{Sort, Lens, nodes_of}
use Rattle.lens_specs.specs.Typing as typing
use Rattle.lens_laws.specs.Rules.{BasesAreSound}
use Rattle.lens_types.specs.Faults.{IsRefused}
use Rattle.lens_types.specs.declared.fault.Refused.{Refused}

-- the rules give the lens this sort, and it has so many nodes
pub record IsKept (L : Lens) (s : Sort) (nodes : ℕ) : Type 0 where
  pub sort : typing.sort L ≡ Ok s
  pub sound : BasesAreSound L
  pub size : nodes ≡ nodes_of L
  pub few : nodes ≤ 64

-- The result is the lens that is asked for, and the rules give it a sort; or the rules refuse it so.
abbrev pub IsLens : {T : Type 0} → Result Lens (Refused T) → T → Lens → Type 0
IsLens (Ok t) given L = (t ≡ L) × IsOk (typing.sort L)
IsLens (Err why) given L = IsRefused why given (typing.sort L)
