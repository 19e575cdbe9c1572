use Rattle.std.proofs.Common.{◌≡◌, drop, map}
use Rattle.server_specs.specs.Common.{with_last}
use Rattle.signed_delta.specs.Tables.{table_delta}
use Rattle.opened_view.specs.Moving.{AreThere}
use Rattle.opened_view.proofs.last_changes.LastChanges.move_on.Given as goal

-- the tables that are left have last changes, and once they are changed too, it is what all of them make
abbrev pub invariant-loop-change : goal.invariant-loop-change
invariant-loop-change l =
    AreThere l.self (map table_delta (drop l.change-index l.changes))
    × (with_last l.version (map table_delta (drop l.change-index l.changes)) l.self ≡ with_last l.version (map table_delta l.changes) l.initial.self)
