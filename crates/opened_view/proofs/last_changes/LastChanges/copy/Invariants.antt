use Rattle.std.proofs.Common.{◌≡◌}
use Rattle.lens_laws.proofs.Common.{with_all}
use Rattle.opened_view.proofs.last_changes.LastChanges.copy.Given as goal

abbrev pub invariant-loop-table : goal.invariant-loop-table
invariant-loop-table l = with_all l.table-iterator.iter l.copy ≡ l.self
