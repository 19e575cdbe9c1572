use Rattle.std.proofs.Common.{sym, map}
use Rattle.edit_batches.specs.Histories.{deltas_of}
use Rattle.signed_delta.specs.Tables.{table_delta}
use Rattle.database.proofs.ChangePlans.{undo_planned}
use Rattle.lens_server.proofs.undo.plan_undo.Goals as goal

pub returns-in_ok-inverted-in-Some : goal.returns-in_ok-inverted-in-Some
returns-in_ok-inverted-in-Some c =
    undo_planned c.args.database.now (deltas_of c.in-Some.entry.now) (map table_delta c.in_ok-inverted-in-Some.field-0.items) c.plan_tables.result c.requires.valid (sym c.in-Some.ensures) c.in_ok-inverted-in-Some.ensures c.plan_tables.ensures
