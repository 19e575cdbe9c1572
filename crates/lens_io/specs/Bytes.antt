-- What a sink has taken after several calls.
use Rattle.std.specs.Prelude.{ℕ, List, take, ◌⊎◌}
use Rattle.io_specs.specs.Faults.{Rose}
use Rattle.std.specs.declared.option.Option.{Option}
use Rattle.std.specs.Io.KnownBytes.{Appends}

-- known bytes grow by some front of these
abbrev pub AppendsFront : Option (List ℕ) → Option (List ℕ) → List ℕ → Type 0
AppendsFront old new bytes = (n : ℕ) × Appends old new (take n bytes)

-- all of the bytes, or a front of them where the sink failed
abbrev pub GivesUnlessFailed : Option (List ℕ) → Option (List ℕ) → ℕ → ℕ → List ℕ → Type 0
GivesUnlessFailed old new count count' bytes = Appends old new bytes ⊎ (Rose count count' × AppendsFront old new bytes)
