-- Lines that export and import.
use Rattle.std.proofs.Common.{◌≡◌, ◌∙◌, ℕ, false, List, Option, Some, None, option_map, Result, Ok, Err, ap, sym, refl}
use Rattle.plain_values.proofs.Common.{find, is_nullable, none_found}
use Rattle.std.specs.FinMap as finmap
use Rattle.plain_values.specs.SortedSet as set
use Rattle.lens_specs.specs.Common.{Lens, get, sort_of, tables_of, Name, Rows}
use Rattle.server_specs.specs.Common.{Line, catalogue, State, Answer, export, request, about, tested, first_nullable, import_settled, imported_by, read_settled, sheet_told, answer, answer_request}
use Rattle.csv_specs.specs.Sheets.{sheet, unsheet}
use Rattle.csv_specs.proofs.RoundTrip.{sheets_read_back}
use Rattle.plain_values.specs.declared.value.Kind.{Kind}
use Rattle.lens_laws.proofs.Common.{get_sort}
use Rattle.server_laws.proofs.Stored.{lens_here}
use Rattle.server_laws.proofs.Changes.{import_is, import_reads, nothing_changed}
use Rattle.server_laws.proofs.Puts.{others_stay}
use Rattle.server_laws.specs.ChangeLaws.{by_text}
use Rattle.server_laws.specs.SheetLaws.{BadRecordsAreTold, ExportsAreSheets, ImportsLeaveOthers, ImportsOfExports, RightSheetsReadBack, SheetsHaveNoNulls, SheetsKnowTheirView, exports, imports}

-- what is told of the lens of a name, where it has one
abbrev sheet_about : State → Name → Option Lens → Answer × State
sheet_about s name o = (about (λ L. sheet_told (first_nullable (sort_of L).columns) s L) name o, s)

-- the answer to a line that exports, by what its name has
pub export_is : (s : State) (l : Line) (name : Name) → request l ≡ Ok (export name) → answer s l ≡ (about (λ L. sheet_told (first_nullable (sort_of L).columns) s L) name (finmap.get (catalogue s.texts) name), s)
unfolding answer
export_is s l name asked = ap (λ q. answer_request q s) asked

pub sheets_know : SheetsKnowTheirView
sheets_know s l name (exports asked) none = export_is s l name asked ∙ ap (sheet_about s name) none
sheets_know s l name (imports csv on asked) none = import_is s l name csv on asked ∙ ap (λ o. imported_by csv on name o s) none

pub no_nulls : SheetsHaveNoNulls
no_nulls s l name L (exports asked) lens column is = export_is s l name asked ∙ ap (sheet_about s name) lens ∙ ap (λ o. (sheet_told o s L, s)) is
no_nulls s l name L (imports csv on asked) lens column is =
    import_is s l name csv on asked ∙ ap (λ o. imported_by csv on name o s) lens ∙ ap (λ o. import_settled o csv on L s) is

pub records_told : BadRecordsAreTold
records_told s l name L csv on h place is = import_reads s l name L csv on h ∙ ap (λ r. read_settled r on L s) is

pub exports_sheets : ExportsAreSheets
exports_sheets s l name L h = export_is s l name h.asked ∙ ap (sheet_about s name) h.lens ∙ ap (λ o. (sheet_told o s L, s)) h.plain

-- ---- what an import leaves

module _ (s : State) (L : Lens) (on : Option ℕ) (t : Name) (other : set.contains (tables_of L) t ≡ false) where
  read_leaves : (r : Result Rows ℕ) → finmap.get (read_settled r on L s).1.tables t ≡ finmap.get s.tables t
  read_leaves (Err place) = refl
  read_leaves (Ok N) = others_stay (tested s L on (Ok N)) L s t other

  import_leaves : (o : Option Name) (csv : List ℕ) → finmap.get (import_settled o csv on L s).1.tables t ≡ finmap.get s.tables t
  import_leaves (Some column) csv = refl
  import_leaves None csv = read_leaves (unsheet (sort_of L).columns csv)

pub others_left : ImportsLeaveOthers
others_left s l name L csv on asked lens t other =
    ap (λ r. finmap.get r.1.tables t) (import_is s l name csv on asked ∙ ap (λ o. imported_by csv on name o s) lens) ∙ import_leaves s L on t other (first_nullable (sort_of L).columns) csv

-- ---- what reads back

no_name : (o : Option (Name × Kind)) → option_map {U = Name} (λ c. c.0) o ≡ None → o ≡ None
no_name None e = refl
no_name (Some c) e = cc

pub reads_back : RightSheetsReadBack
reads_back s v name L lens plain some right =
    let here = lens_here s v name L lens in
    let entries = finmap.entries (sort_of L).columns in
    sheets_read_back (sort_of L).columns (get L s.tables) (record {
      some = some;
      plain = none_found (λ c. is_nullable c.1) entries (no_name (find (λ c. is_nullable c.1) entries) plain);
      fit = (get_sort L s.tables here.typed here.are).columns;
      right = right;
    })

-- ---- imports of exports

pub imports_of_exports : ImportsOfExports
imports_of_exports s t v l m name L on h back lens same asked fresh =
    nothing_changed t v m name L on
    (by_text (sheet (sort_of L).columns (get L s.tables)) (record { asked = asked; lens = lens; plain = h.plain }) (back ∙ ap Ok (sym same))) fresh
