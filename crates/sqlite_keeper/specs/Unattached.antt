-- What is kept in memory, while no file is attached.
use Rattle.std.specs.Prelude.{Option, None, Some}
use Rattle.lens_specs.specs.Keeping.{Kept}
use Rattle.sqlite_keeper.specs.declared.store.Store.{Store}
use Rattle.sqlite_keeper.specs.declared.store.Store.TheVariants.{Memory, File}
use Rattle.sqlite_keeper.specs.declared.keeper.SqliteKeeper.{SqliteKeeper}

-- what a store in memory keeps; one in a file tells nothing
abbrev pub in_memory : Store → Option Kept
in_memory (Memory kept) = Some kept
in_memory (File database) = None

-- what a keeper keeps in memory, while no file is attached
abbrev pub held : SqliteKeeper → Option Kept
held k = in_memory k.store
