-- The laws of puts over valid states.
use Rattle.std.specs.Prelude.{◌≡◌, ◌↔◌, ◌⊎◌, true, false, List, [], Some, Ok}
use Rattle.std.specs.FinMap as finmap
use Rattle.serde_json.specs.Data.{Items}
use Rattle.plain_values.specs.SortedSet as set
use Rattle.plain_values.specs.Row.{Row}
use Rattle.lens_specs.specs.Common.{Columns, Fits, Name, Rows, has, holds, Edge, Sort, Clash, IsOf, Lens, sort_of, get, tables_of, changes, differences}
use Rattle.lens_laws.specs.Checks.{IsFirstClash, IsOff}
use Rattle.lens_laws.specs.Edits.{AreDiffs}
use Rattle.catalog_specs.specs.Catalogue.{catalogue}
use Rattle.server_specs.specs.State.{State}
use Rattle.server_specs.specs.Answer.{Answer, changed, clash, off_predicate}
use Rattle.server_specs.specs.Sending.{rows_in}
use Rattle.server_specs.specs.Changing.{of_sort, settled}
use Rattle.server_specs.specs.Validity.{Valid}
use Rattle.server_laws.specs.Answers.{IsAccepted}

-- what becomes of a set of rows that is put as the new view
abbrev pub put_set : Rows → Lens → State → Answer × State
put_set N L s = settled (of_sort (sort_of L) N) L s

-- every row has the columns, each of its kind
abbrev pub AllFit : Columns → Rows → Type 0
AllFit columns N = (r : Row) → has N r ≡ true → Fits columns r

-- the name's lens, and rows that fit its columns
pub record IsPut (s : State) (name : Name) (L : Lens) (N : Rows) : Type 0 where
  pub valid : Valid s
  pub lens : finmap.get (catalogue s.texts) name ≡ Some L
  pub rows : AllFit (sort_of L).columns N

-- what a line sends fits
abbrev pub SentRowsFit : Type 0
SentRowsFit = (columns : Columns) (items : Items) (rows : List Row) → rows_in columns items ≡ Ok rows → AllFit columns (set.from_list rows)

-- a put is accepted exactly where the new view is of the lens's sort
abbrev pub AcceptedWhereTyped : Type 0
AcceptedWhereTyped = (s : State) (name : Name) (L : Lens) (N : Rows) → IsPut s name L N → IsAccepted (put_set N L s).0 ↔ IsOf N (sort_of L)

-- it is refused exactly where there is a least row that the predicate refuses, and that changes nothing
abbrev pub RefusedByLeastRow : Type 0
RefusedByLeastRow = (s : State) (name : Name) (L : Lens) (N : Rows) → IsPut s name L N → (row : Row) → (put_set N L s ≡ (off_predicate row, s)) ↔ IsOff (holds (sort_of L).predicate) N row

-- the predicate holds on every row, and the edge and the two rows are the first clash with the tree
abbrev pub IsFirstClashOf : Sort → Rows → Edge → Row → Row → Type 0
IsFirstClashOf sort N edge first second =
    ((r : Row) → has N r ≡ true → holds sort.predicate r ≡ true)
    × ((c : Clash) × IsFirstClash 0 sort.tree N c × (c.edge ≡ edge) × (c.first ≡ first) × (c.second ≡ second))

-- it is refused with an edge and two rows exactly where they are the first clash, and that changes nothing
abbrev pub RefusedByFirstClash : Type 0
RefusedByFirstClash = (s : State) (name : Name) (L : Lens) (N : Rows) → IsPut s name L N → (edge : Edge) (first second : Row)
    → (put_set N L s ≡ (clash edge first second, s)) ↔ IsFirstClashOf (sort_of L) N edge first second

-- and there is no fourth case
abbrev pub AcceptedOrRefused : Type 0
AcceptedOrRefused = (s : State) (name : Name) (L : Lens) (N : Rows) → IsPut s name L N
    → IsAccepted (put_set N L s).0 ⊎ (((row : Row) × (put_set N L s ≡ (off_predicate row, s))) ⊎ ((edge : Edge) × (first : Row) × (second : Row) × (put_set N L s ≡ (clash edge first second, s))))

-- PutGet: what was put is read again
abbrev pub PutThenRead : Type 0
PutThenRead = (s : State) (name : Name) (L : Lens) (N : Rows) → IsPut s name L N → IsAccepted (put_set N L s).0 → get L (put_set N L s).1.tables ≡ N

-- the answer tells the changes, with the version after it
abbrev pub ChangesAreTold : Type 0
ChangesAreTold = (s : State) (name : Name) (L : Lens) (N : Rows) → IsPut s name L N → IsAccepted (put_set N L s).0
    → (put_set N L s).0 ≡ changed (changes L N s.tables) (put_set N L s).1.version

-- they are the differences of the tables before and after, those that are not empty, by rising names of the lens's tables
abbrev pub ChangesAreDifferences : Type 0
ChangesAreDifferences = (s : State) (name : Name) (L : Lens) (N : Rows) → IsPut s name L N → IsAccepted (put_set N L s).0
    → (changes L N s.tables ≡ differences (set.items (tables_of L)) s.tables (put_set N L s).1.tables)
    × AreDiffs s.tables (put_set N L s).1.tables (changes L N s.tables)

-- a put leaves each table that is not the lens's
abbrev pub OtherTablesStay : Type 0
OtherTablesStay = (s : State) (name : Name) (L : Lens) (N : Rows) → IsPut s name L N
    → (table : Name) → set.contains (tables_of L) table ≡ false → finmap.get (put_set N L s).1.tables table ≡ finmap.get s.tables table

-- GetPut: to put back what was read changes nothing
abbrev pub ReadThenPut : Type 0
ReadThenPut = (s : State) → Valid s → (name : Name) (L : Lens) → finmap.get (catalogue s.texts) name ≡ Some L
    → put_set (get L s.tables) L s ≡ (changed [] s.version, s)
