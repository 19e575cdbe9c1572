use Rattle.std.proofs.Common.{◌≡◌, map, take}
use Rattle.lens_specs.specs.Common.{renamed_row}
use Rattle.lens_types.proofs.rows.rename_rows.Given as goal

abbrev pub invariant-loop-row : goal.invariant-loop-row
invariant-loop-row l = l.list.items ≡ map (renamed_row l.col l.to) (take l.row-index l.rows)
