use Rattle.std.proofs.Common.{◌≡◌, drop}
use Rattle.server_specs.specs.Common.{catalogue}
use Rattle.opening_specs.specs.Opening.{damage_among}
use Rattle.table_keeper.specs.Places.{rows_in}
use Rattle.database_opening.proofs.tables.first_damage.Given as goal

-- the first damage of those that are left is the first of all
abbrev pub invariant-loop-name : goal.invariant-loop-name
invariant-loop-name l =
    damage_among (catalogue l.catalog.texts) (rows_in l.tables) (drop l.name-index l.names) ≡ damage_among (catalogue l.catalog.texts) (rows_in l.tables) l.names
