use Rattle.std.proofs.Common.{◌≡◌, ◌+◌, ◌≤◌, length, map}
use Rattle.plain_values.proofs.Common.{into_iter_items}
use Rattle.edit_batches.specs.Chains.{Chain}
use Rattle.edit_batches.specs.Histories.{deltas_of}
use Rattle.request_text.specs.Edits.{edit_view}
use Rattle.server_specs.specs.Common.{edits_from}
use Rattle.lens_server.specs.Batches.{IsHolding}
use Rattle.lens_server.specs.Counting.{batch_looks}
use Rattle.database.specs.States.{state_of}
use Rattle.lens_server.proofs.batches.make_edits.Given as goal

-- the entries lead to the tables now, from which the edits that are left come to what all of them come to
abbrev pub invariant-loop-edit : goal.invariant-loop-edit
invariant-loop-edit g l = record {
  holding : IsHolding l.fn.database l.database;
  left : edits_from 0 l.on (state_of l.fn.database) l.fn.edits l.fn.database.tables.present.relations
      ≡ edits_from (length l.entries.items) l.on (state_of l.fn.database) (map edit_view (into_iter_items l.edit-iterator)) l.database.tables.present.relations;
  made : Chain (map deltas_of l.entries.items) l.fn.database.tables.present.relations l.database.tables.present.relations;
  looked : l.looked + batch_looks l.on (state_of l.fn.database) (map edit_view (into_iter_items l.edit-iterator)) l.database.tables.present.relations
      ≤ l.fn.looked + batch_looks l.on (state_of l.fn.database) l.fn.edits l.fn.database.tables.present.relations;
}
