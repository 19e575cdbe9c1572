use Rattle.std.proofs.Common.{◌≡◌, drop, max}
use Rattle.server_specs.specs.Common.{latest}
use Rattle.opened_view.proofs.last_changes.LastChanges.latest.Given as goal

-- the greater of what was found and what the tables that are left have is the greatest of all
abbrev pub invariant-loop-table : goal.invariant-loop-table
invariant-loop-table l = max l.latest (latest l.self (drop l.table-index l.tables)) ≡ latest l.self l.tables
