-- What is known of tables that are not held.
use Rattle.std.proofs.Common.{◌≡◌, Option, Some, None}
use Rattle.lens_specs.specs.Common.{Name}
use Rattle.base_index.specs.Held.{IsThere, State}

-- where nothing is held, there are no tables of before
pub there_never : (o : Option State) (t : Name) → o ≡ None → (st : State) → o ≡ Some st → IsThere st t
there_never None t is st e = cc
there_never (Some s) t is st e = cc
