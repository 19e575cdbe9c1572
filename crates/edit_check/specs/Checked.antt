-- What a check of rows against a sort answers.
use Rattle.std.specs.Prelude.{◌≡◌, Some, None, Result, Ok, Err}
use Rattle.lens_specs.specs.Common.{Rows, Sort, IsOf, violating_row, violating_pair}
use Rattle.fd_tree.specs.ClashView.{shown_clash}
use Rattle.edit_check.specs.declared.edit_fault.EditFault.{EditFault}
use Rattle.edit_check.specs.declared.edit_fault.EditFault.TheVariants as fault

-- The rows are of the sort; or the fault has the least row that the predicate refuses, or, where it refuses none, the first clash.
abbrev pub IsChecked : Sort → Rows → Result (Unit {0}) EditFault → Type 0
IsChecked s M (Ok done) = IsOf M s
IsChecked s M (Err (fault.OffPredicate row)) = violating_row s.predicate M ≡ Some row
IsChecked s M (Err (fault.Clash found)) = (violating_row s.predicate M ≡ None) × (shown_clash (violating_pair s.tree M) ≡ Some found)
IsChecked s M (Err fault.NoMemory) = Unit {0}
