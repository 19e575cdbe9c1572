-- What makes the table that a text defines.
use Rattle.std.specs.Prelude.{◌≡◌, ℕ, List}
use Rattle.std.specs.FinMap.{entries}
use Rattle.view_lang.specs.declared.definition.Definition.{Definition}
use Rattle.view_lang.specs.declared.definition.Definition.TheVariants.{Table, View}
use Rattle.store_statements.specs.Statements.{create_text}

-- a table of this name is defined, and the statement makes it with its columns
abbrev pub MakesTable : Definition → List ℕ → List ℕ → Type 0
MakesTable (Table name cols deps pred) table text = (name ≡ table) × (text ≡ create_text table (entries cols))
MakesTable (View name expr) table text = ⊥
