use Rattle.std.proofs.Common.{◌≡◌, take, true}
use Rattle.plain_values.proofs.Common.{list_all, restrict}
use Rattle.lens_specs.specs.Common.{has}
use Rattle.edit_check.proofs.checking.all_parts_in.Given as goal

abbrev pub invariant-loop-row : goal.invariant-loop-row
invariant-loop-row l = list_all (λ row. has l.parts (restrict l.cols row)) (take l.row-index l.rows) ≡ true
