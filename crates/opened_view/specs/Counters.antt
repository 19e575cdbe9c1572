-- Counters of rows, and how many rows there are.
use Rattle.std.specs.Prelude.{ℕ, ◌+◌, ◌≤◌}
use Rattle.std.specs.List.{sum_by}
use Rattle.std.specs.FinMap as finmap
use Rattle.lens_specs.specs.Lens.{Tables}
use Rattle.lens_laws.specs.Work.{count_of}

-- a counter goes on, by so many at most
abbrev pub RisesBy : ℕ → ℕ → ℕ → Type 0
RisesBy most old new = (old ≤ new) × (new ≤ old + most)

-- the number of rows of all tables
abbrev pub row_count : Tables → ℕ
row_count db = sum_by (λ e. count_of e.1.rows) (finmap.entries db)
