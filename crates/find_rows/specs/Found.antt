-- Rows by the value in one column.
use Rattle.std.specs.Prelude.{Some}
use Rattle.plain_values.specs.declared.value.Value.{Value}
use Rattle.lens_specs.specs.Common.{Name, Rows, those, at, same_value}

-- the rows whose value in the column is this one
abbrev pub rows_with : Name → Value → Rows → Rows
rows_with column value M = those (λ r. same_value (Some value) (at r column)) M
