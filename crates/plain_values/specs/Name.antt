-- A name is its bytes.
use Rattle.std.specs.Prelude.{ℕ, List, if◌then◌else◌, Result, Ok, Err}
use Rattle.std.specs.Ordering.{eq_by_cmp}
use Rattle.plain_values.specs.Bytes.{is_name}
use Rattle.plain_values.specs.Order.{bytes_cmp}
use Rattle.plain_values.specs.declared.name.BadName.{BadName}

-- the fault of bytes that are not a name
abbrev pub bad_name : BadName
bad_name = record {}

-- the name of these bytes, if they are one
abbrev pub name_of : List ℕ → Result (List ℕ) BadName
name_of bytes = if is_name bytes then Ok bytes else Err bad_name

-- the name, or B where it is A
abbrev pub renamed : List ℕ → List ℕ → List ℕ → List ℕ
renamed A B c = if eq_by_cmp bytes_cmp c A then B else c
