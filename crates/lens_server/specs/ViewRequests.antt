-- What is asked of a view, as the definitions have it: the request with the name of the view, and what is answered of its lens.
use Rattle.std.specs.Prelude.{ℕ, if◌then◌else◌}
use Rattle.lens_specs.specs.Common.{Lens, Tables, sort_of, Name, one}
use Rattle.lens_probe.specs.Viewed.{is_left_side}
use Rattle.server_specs.specs.Answer.{Answer}
use Rattle.server_specs.specs.Changing.{asked_view, edited, foretold, settled, whole}
use Rattle.server_specs.specs.Exporting.{first_nullable, import_settled, sheet_told}
use Rattle.server_specs.specs.Questions.{finding_told, rows_told, sort_told}
use Rattle.server_specs.specs.Request.{Request, read, find_at, put, edit, preview, describe, export, import}
use Rattle.server_specs.specs.State.{State, unchanged}
use Rattle.view_answers.specs.Sheets.{SheetReadsBack}
use Rattle.lens_server.specs.Counting.{edit_looks, find_looks, import_looks, put_looks, row_count}
use Rattle.lens_server.specs.declared.views.ViewRequest.{ViewRequest}
use Rattle.lens_server.specs.declared.views.ViewRequest.TheVariants as asked

-- the request with this name
abbrev pub request_of : Name → ViewRequest → Request
request_of name asked.Read = read name
request_of name (asked.Find column value) = find_at name column value
request_of name (asked.Put rows on) = put name rows on
request_of name (asked.Edit remove add on) = edit name remove add on
request_of name (asked.Preview remove add on) = preview name remove add on
request_of name asked.Describe = describe name
request_of name asked.Export = export name
request_of name (asked.Import csv on) = import name csv on

-- the answer where the name has this lens, and the state after it
abbrev pub told_of : ViewRequest → Lens → State → Answer × State
told_of asked.Read L s = unchanged (rows_told s L) s
told_of (asked.Find column value) L s = unchanged (finding_told s column value L) s
told_of (asked.Put rows on) L s = settled (asked_view s L (whole rows) on) L s
told_of (asked.Edit remove add on) L s = settled (asked_view s L (edited remove add) on) L s
told_of (asked.Preview remove add on) L s = unchanged (foretold (asked_view s L (edited remove add) on) L s) s
told_of asked.Describe L s = unchanged (sort_told s L) s
told_of asked.Export L s = unchanged (sheet_told (first_nullable (sort_of L).columns) s L) s
told_of (asked.Import csv on) L s = import_settled (first_nullable (sort_of L).columns) csv on L s

-- the most rows that it may walk
abbrev pub walks_of : ViewRequest → Lens → Tables → ℕ
walks_of asked.Read L db = row_count db
walks_of (asked.Find column value) L db = if is_left_side (one column) (sort_of L).tree then 0 else row_count db
walks_of (asked.Put rows on) L db = row_count db
walks_of (asked.Edit remove add on) L db = 0
walks_of (asked.Preview remove add on) L db = 0
walks_of asked.Describe L db = row_count db
walks_of asked.Export L db = row_count db
walks_of (asked.Import csv on) L db = row_count db

-- the most rows that it may look at by key
abbrev pub looks_of : ViewRequest → Lens → Tables → ℕ
looks_of asked.Read L db = 0
looks_of (asked.Find column value) L db = find_looks db column L
looks_of (asked.Put rows on) L db = put_looks db rows L
looks_of (asked.Edit remove add on) L db = edit_looks db remove add L
looks_of (asked.Preview remove add on) L db = edit_looks db remove add L
looks_of asked.Describe L db = 0
looks_of asked.Export L db = 0
looks_of (asked.Import csv on) L db = import_looks db csv L

-- what it exports, if anything, reads back
abbrev pub IsToldBack : ViewRequest → Lens → Tables → Type 0
IsToldBack asked.Read L db = Unit {0}
IsToldBack (asked.Find column value) L db = Unit {0}
IsToldBack (asked.Put rows on) L db = Unit {0}
IsToldBack (asked.Edit remove add on) L db = Unit {0}
IsToldBack (asked.Preview remove add on) L db = Unit {0}
IsToldBack asked.Describe L db = Unit {0}
IsToldBack asked.Export L db = SheetReadsBack L db
IsToldBack (asked.Import csv on) L db = Unit {0}
