-- Calls of handed-in objects.
use Rattle.std.specs.Prelude.{◌≡◌, ◌++◌, List, Option, None, Some}

-- The calls that are told are those that were told before, and more, of which this holds. An object may cease to tell its calls, as where
-- there is no memory for their list; it never begins to.
abbrev pub Adds : {C : Type 0} → (List C → Type 0) → Option (List C) → Option (List C) → Type 0
Adds P None None = Unit {0}
Adds P None (Some all) = ⊥
Adds P (Some calls) None = Unit {0}
Adds P (Some calls) (Some all) = (more : _) × (all ≡ calls ++ more) × P more
