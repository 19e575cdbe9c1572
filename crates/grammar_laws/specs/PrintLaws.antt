-- What is proved of printing.
use Rattle.std.specs.Prelude.{◌≡◌, true, false, List, ℕ, Ok}
use Rattle.grammar_specs.specs.Meaning.{Definition, Says}
use Rattle.grammar_specs.specs.Nesting.{nesting, is_too_deep}
use Rattle.grammar_specs.specs.Faults.{Answers, has_few_columns, has_few_nodes}
use Rattle.grammar_specs.specs.Printing.{printed, definition_written}
use Rattle.grammar_specs.specs.Writable.{is_writable}

-- A text says only what can be written.
abbrev pub SaidIsWritable : Type 0
SaidIsWritable = (text : List ℕ) (d : Definition) → Says text d → is_writable d ≡ true

-- A definition that can be written is printed as a text that says it.
abbrev pub PrintedIsSaid : Type 0
PrintedIsSaid = (d : Definition) → is_writable d ≡ true → Says (printed d) d

-- Within the limits it is the answer of that text.
abbrev pub PrintedIsRead : Type 0
PrintedIsRead =
    (d : Definition) → is_writable d ≡ true → has_few_columns d ≡ true → has_few_nodes d ≡ true → is_too_deep (nesting (definition_written d)) ≡ false → Answers (printed d) (Ok d)
