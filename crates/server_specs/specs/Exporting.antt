-- What `export` and `import` are answered, and the state after them.
use Rattle.std.specs.Prelude.{ℕ, List, Option, Some, None, option_map, find, Result, Ok, Err}
use Rattle.std.specs.FinMap as finmap
use Rattle.plain_values.specs.Value.{is_nullable}
use Rattle.lens_specs.specs.Common.{Name, Columns, Rows, Lens, get, sort_of}
use Rattle.catalog_specs.specs.Catalogue.{catalogue}
use Rattle.csv_specs.specs.Sheets.{sheet, unsheet}
use Rattle.server_specs.specs.State.{State, unchanged}
use Rattle.server_specs.specs.Answer.{Answer, exported, nullable_column, bad_record, unknown_name}
use Rattle.server_specs.specs.Questions.{about}
use Rattle.server_specs.specs.Changing.{tested, settled}

-- the least column that may be null
abbrev pub first_nullable : Columns → Option Name
first_nullable columns = option_map (λ c. c.0) (find (λ c. is_nullable c.1) (finmap.entries columns))

-- ---- export

-- the text of the view, unless a column may be null
abbrev pub sheet_told : Option Name → State → Lens → Answer
sheet_told (Some name) s lens = nullable_column name
sheet_told None s lens = exported (sheet (sort_of lens).columns (get lens s.tables)) s.version

-- what `export` is answered
abbrev pub export_answer : Name → State → Answer
export_answer name s = about (λ lens. sheet_told (first_nullable (sort_of lens).columns) s lens) name (finmap.get (catalogue s.texts) name)

-- ---- import

-- the rows of the text are put, or a record is wrong
abbrev pub read_settled : Result Rows ℕ → Option ℕ → Lens → State → Answer × State
read_settled (Err place) on lens s = unchanged (bad_record place) s
read_settled (Ok rows) on lens s = settled (tested s lens on (Ok rows)) lens s

-- the text is read, unless a column may be null
abbrev pub import_settled : Option Name → List ℕ → Option ℕ → Lens → State → Answer × State
import_settled (Some name) text on lens s = unchanged (nullable_column name) s
import_settled None text on lens s = read_settled (unsheet (sort_of lens).columns text) on lens s

-- an import into the view of a name, where it has a lens
abbrev pub imported_by : List ℕ → Option ℕ → Name → Option Lens → State → Answer × State
imported_by text on name None s = unchanged (unknown_name name) s
imported_by text on name (Some lens) s = import_settled (first_nullable (sort_of lens).columns) text on lens s

-- what `import` is answered, and the state after it
abbrev pub import_answer : Name → List ℕ → Option ℕ → State → Answer × State
import_answer name text on s = imported_by text on name (finmap.get (catalogue s.texts) name) s
