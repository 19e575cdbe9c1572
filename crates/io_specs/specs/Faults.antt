-- Counts of faults of handed-in objects.
use Rattle.std.specs.Prelude.{◌≤◌, ◌^◌, ◌+◌, ◌-◌, min, ℕ}

-- the count has risen, or stands at its end
abbrev pub Rose : ℕ → ℕ → Type 0
Rose before now = min (before + 1) (2 ^ 64 - 1) ≤ now
