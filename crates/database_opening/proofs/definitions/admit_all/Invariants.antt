use Rattle.std.proofs.Common.{◌≡◌, ◌++◌}
use Rattle.plain_values.proofs.Common.{into_iter_items}
use Rattle.server_specs.specs.Common.{catalogue}
use Rattle.database_opening.specs.Openings.{HasEmptyTables, HasTables}
use Rattle.database_opening.proofs.definitions.admit_all.Given as goal

-- those that came are taken, and with those that are left they are all
abbrev pub invariant-loop-text : goal.invariant-loop-text
invariant-loop-text g l = record {
  texts : l.admitted.catalog.texts ≡ l.yielded;
  names : HasTables (catalogue l.yielded) l.admitted.names.items;
  empty : HasEmptyTables l.admitted;
  walked : l.walked ≡ l.fn.walked;
  whole : l.yielded ++ into_iter_items l.text-iterator ≡ l.fn.definitions.items;
}
