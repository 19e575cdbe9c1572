-- What a database stands for.
use Rattle.server_specs.specs.State.{State}
use Rattle.database.specs.declared.database.Database.{Database}

-- the state of a database: its tables are those that readers see
abbrev pub state_of : Database → State
state_of database = record { texts = database.catalog.texts; tables = database.tables.present.relations; version = database.version; last = database.last; past = database.past }
