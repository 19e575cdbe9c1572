-- What a request needs of the database.
use Rattle.std.specs.Prelude.{◌<◌, ◌-◌, ◌^◌}
use Rattle.server_specs.specs.Validity.{Valid}
use Rattle.database.specs.Keyed.{IsKeyed}
use Rattle.database.specs.States.{state_of}
use Rattle.database.specs.declared.database.Database.{Database}

-- A question can be answered: the state is valid, and each lens can ask its tables by key.
pub record CanRead (database : Database) : Type 0 where
  pub valid : Valid (state_of database)
  pub keyed : IsKeyed database

-- Any request can be answered: the version can also rise.
pub record CanAnswer (database : Database) : Type 0 where
  pub valid : Valid (state_of database)
  pub keyed : IsKeyed database
  pub room : database.version < 2 ^ 64 - 1
