-- Questions: each is answered by a function of the state alone, and so changes nothing.
use Rattle.std.specs.Prelude.{Option, Some, None}
use Rattle.std.specs.FinMap as finmap
use Rattle.serde_json.specs.Data.{Data}
use Rattle.plain_values.specs.declared.value.Kind.{Kind}
use Rattle.plain_values.specs.declared.value.Value.{Value}
use Rattle.lens_specs.specs.Common.{Name, kind_clash, unknown_column, Rows, those, at, same_value, Lens, get, sort_of, tables_of}
use Rattle.catalog_specs.specs.Catalogue.{catalogue}
use Rattle.server_specs.specs.State.{State}
use Rattle.server_specs.specs.Answer.{Answer, shown, described, listed, unknown_name, refused}
use Rattle.server_specs.specs.Sending.{value_in}

-- what is told of the lens of a name, where it has one
abbrev pub about : (Lens → Answer) → Name → Option Lens → Answer
about tell name None = unknown_name name
about tell name (Some lens) = tell lens

-- the rows of the view of a lens
abbrev pub rows_told : State → Lens → Answer
rows_told s lens = shown (get lens s.tables) s.version

-- the columns, the tree, the conjuncts and the tables of a lens
abbrev pub sort_told : State → Lens → Answer
sort_told s lens = described (sort_of lens).columns (sort_of lens).tree (sort_of lens).predicate (tables_of lens) s.version

-- what `read` is answered
abbrev pub read_answer : Name → State → Answer
read_answer name s = about (rows_told s) name (finmap.get (catalogue s.texts) name)

-- the rows whose value in the column is this one
abbrev pub rows_with : Name → Value → Rows → Rows
rows_with column value M = those (λ r. same_value (Some value) (at r column)) M

-- the rows with the value, if it is right for the column
abbrev pub found_told : State → Lens → Name → Option Value → Answer
found_told s lens column None = refused (kind_clash column)
found_told s lens column (Some value) = shown (rows_with column value (get lens s.tables)) s.version

-- what is told of a column, if it is there
abbrev pub find_told : State → Lens → Name → Data → Option Kind → Answer
find_told s lens column json None = refused (unknown_column column)
find_told s lens column json (Some kind) = found_told s lens column (value_in kind json)

-- what is reported of the column of a lens, if it is there
abbrev pub finding_told : State → Name → Data → Lens → Answer
finding_told s column json lens = find_told s lens column json (finmap.get (sort_of lens).columns column)

-- what `find` is answered
abbrev pub find_answer : Name → Name → Data → State → Answer
find_answer name column json s = about (finding_told s column json) name (finmap.get (catalogue s.texts) name)

-- what `type` is answered
abbrev pub type_answer : Name → State → Answer
type_answer name s = about (sort_told s) name (finmap.get (catalogue s.texts) name)

-- what `list` is answered
abbrev pub list_answer : State → Answer
list_answer s = listed s.texts s.version
