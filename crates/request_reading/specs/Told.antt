-- What a call gives that may refuse, or run out of memory.
use Rattle.std.specs.Prelude.{◌≡◌, Option, Result, Ok, Err, IfSome}

-- the refusal that the fault tells is the expected one; a fault that tells none, running out of memory, is always allowed
abbrev pub RefusesBy : {B E F : Type 0} → (F → Option E) → F → Result B E → Type 0
RefusesBy told fault expected = IfSome (told fault) (λ refusal. expected ≡ Err refusal)

-- the value is the expected one, seen through the view, or the fault tells the expected refusal
abbrev pub GivesTold : {A B E F : Type 0} → (A → B) → (F → Option E) → Result A F → Result B E → Type 0
GivesTold view told (Ok a) expected = expected ≡ Ok (view a)
GivesTold view told (Err f) expected = RefusesBy told f expected
