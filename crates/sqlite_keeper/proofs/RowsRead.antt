-- The cells of a row, read column by column.
use Rattle.std.proofs.Common.{List, ◌++◌, Option, option_map}
use Rattle.plain_values.specs.declared.value.Value.{Value}

-- values, and then the others, if all can be read
abbrev pub with_rest : List Value → Option (List Value) → Option (List Value)
with_rest values rest = option_map (λ more. values ++ more) rest
