-- What a keeper shows: where its contents lie, how often it has failed, and that it tells no contents.
use Rattle.std.specs.Prelude.{ℕ, List, Option, None, option_map, string_bytes}
use Rattle.lens_specs.specs.Keeping.{Kept}
use Rattle.sqlite_keeper.specs.declared.keeper.SqliteKeeper.{SqliteKeeper}

-- the place that was attached last
abbrev pub place_of : SqliteKeeper → Option (List ℕ)
place_of k = option_map string_bytes k.place

-- how often it has failed
abbrev pub faults_of : SqliteKeeper → ℕ
faults_of k = k.faults

-- what it tells of its contents to one who may meet any keeper: nothing, since a file tells nothing
abbrev pub told_by : SqliteKeeper → Option Kept
told_by k = None
