-- The view that a put, an edit or a preview asks for, or its first refusal; and what becomes of it.
use Rattle.std.specs.Prelude.{ℕ, ◌+◌, Bool, true, false, ◌||◌, nat_lt, max, List, [], ◌∷◌, Option, Some, None, unwrap_or, Result, Ok, Err}
use Rattle.std.specs.FinMap as finmap
use Rattle.serde_json.specs.Data.{Items}
use Rattle.plain_values.specs.Order.{bytes_cmp}
use Rattle.plain_values.specs.SortedSet as set
use Rattle.plain_values.specs.Row.{Row}
use Rattle.lens_specs.specs.Common.{Name, Columns, Rows, Sort, violating_row, Clash, violating_pair, Tables, Lens, get, put as put_rows, sort_of, tables_of, TableDelta, changes, new_view}
use Rattle.catalog_specs.specs.Catalogue.{catalogue}
use Rattle.server_specs.specs.State.{State, unchanged, remember}
use Rattle.server_specs.specs.EditRefusal.{EditRefusal, Listed, in_rows, in_remove, in_add, bad_row, stale, off_predicate, clash}
use Rattle.server_specs.specs.Answer.{Answer, changed, unknown_name, told}
use Rattle.server_specs.specs.Questions.{about}
use Rattle.server_specs.specs.Sending.{BadRow, rows_in}

-- ---- the rows that are sent

-- all rows of the new view; or rows to remove from the old one, and rows to add
pub data Sent : Type 0 where
  whole : Items → Sent
  edited : Items → Items → Sent

-- the set of the rows of a list, or its first bad row
abbrev pub as_set : Listed → Result (List Row) BadRow → Result Rows EditRefusal
as_set which (Ok rows) = Ok (set.from_list rows)
as_set which (Err bad) = Err (bad_row which bad.0 bad.1)

-- the set of the rows that a list says, or its first bad row
abbrev pub set_in : Listed → Columns → Items → Result Rows EditRefusal
set_in which columns items = as_set which (rows_in columns items)

-- the old rows less those removed, and those added; a bad row to remove comes before one to add
abbrev pub edit_of : Rows → Result Rows EditRefusal → Result Rows EditRefusal → Result Rows EditRefusal
edit_of old (Err bad) added = Err bad
edit_of old (Ok remove) (Err bad) = Err bad
edit_of old (Ok remove) (Ok add) = Ok (new_view old (record { remove = remove; add = add }))

-- the new view that is sent, or the first bad row
abbrev pub sent_view : Sent → Lens → State → Result Rows EditRefusal
sent_view (whole rows) lens s = set_in in_rows (sort_of lens).columns rows
sent_view (edited remove add) lens s =
    edit_of (get lens s.tables) (set_in in_remove (sort_of lens).columns remove) (set_in in_add (sort_of lens).columns add)

-- ---- versions

-- the last change of a table
abbrev pub last_change : finmap.FinMap bytes_cmp ℕ → Name → ℕ
last_change last table = unwrap_or (finmap.get last table) 0

-- the greatest last change of these tables
abbrev pub latest : finmap.FinMap bytes_cmp ℕ → List Name → ℕ
latest last [] = 0
latest last (table ∷ tables) = max (last_change last table) (latest last tables)

-- the greatest last change of the tables under the lens
abbrev pub changed_at : State → Lens → ℕ
changed_at s lens = latest s.last (set.items (tables_of lens))

-- A change is stale where a table under the lens was changed after the version that it rests on, or that version is yet to come.
abbrev pub is_stale : State → Lens → Option ℕ → Bool
is_stale s lens None = false
is_stale s lens (Some on) = nat_lt on (changed_at s lens) || nat_lt s.version on

-- ---- the tests of a new view

-- refused for its version, or else as it is further on
abbrev pub unless_stale : Bool → ℕ → ℕ → Result Rows EditRefusal → Result Rows EditRefusal
unless_stale true at version later = Err (stale at version)
unless_stale false at version later = later

-- refused for the least row that the predicate refuses, or else as it is further on
abbrev pub unless_off : Option Row → Result Rows EditRefusal → Result Rows EditRefusal
unless_off None later = later
unless_off (Some row) later = Err (off_predicate row)

-- refused for the first clash with the tree, or else the rows
abbrev pub unless_clash : Option Clash → Rows → Result Rows EditRefusal
unless_clash None rows = Ok rows
unless_clash (Some found) rows = Err (clash found.edge found.first found.second)

-- the rows, where they are of the sort, or else why not
abbrev pub of_sort : Sort → Rows → Result Rows EditRefusal
of_sort sort rows = unless_off (violating_row sort.predicate rows) (unless_clash (violating_pair sort.tree rows) rows)

-- the rows of a new view through the tests of its version and its sort
abbrev pub tested : State → Lens → Option ℕ → Result Rows EditRefusal → Result Rows EditRefusal
tested s lens on (Err bad) = Err bad
tested s lens on (Ok rows) = unless_stale (is_stale s lens on) (changed_at s lens) s.version (of_sort (sort_of lens) rows)

-- the new view that a change asks for, or its first refusal: a bad row, the version, the predicate, the tree
abbrev pub asked_view : State → Lens → Sent → Option ℕ → Result Rows EditRefusal
asked_view s lens sent on = tested s lens on (sent_view sent lens s)

-- ---- what becomes of it

-- each of the changed tables was last changed at the version
abbrev pub with_last : ℕ → List TableDelta → finmap.FinMap bytes_cmp ℕ → finmap.FinMap bytes_cmp ℕ
with_last version [] last = last
with_last version (change ∷ changes) last = with_last version changes (finmap.insert last change.table version)

-- The tables become these, and the answer tells how they differ. Where they do not, nothing changes.
abbrev pub accept : Tables → List TableDelta → State → Answer × State
accept tables [] s = unchanged (changed [] s.version) s
accept tables (change ∷ more) s = (
  changed (change ∷ more) (s.version + 1),
  record s {
    tables = tables;
    version = s.version + 1;
    last = with_last (s.version + 1) (change ∷ more) s.last;
    past = remember (change ∷ more) s.past;
  },
)

-- the new view is put, or refused
abbrev pub settled : Result Rows EditRefusal → Lens → State → Answer × State
settled (Err why) lens s = unchanged (told why) s
settled (Ok rows) lens s = accept (put_rows lens rows s.tables) (changes lens rows s.tables) s

-- what would be changed, at the present version, or the refusal
abbrev pub foretold : Result Rows EditRefusal → Lens → State → Answer
foretold (Err why) lens s = told why
foretold (Ok rows) lens s = changed (changes lens rows s.tables) s.version

-- a change of the view of a name, where it has a lens
abbrev pub changed_by : Sent → Option ℕ → Name → Option Lens → State → Answer × State
changed_by sent on name None s = unchanged (unknown_name name) s
changed_by sent on name (Some lens) s = settled (asked_view s lens sent on) lens s

-- what `put` and `edit` are answered, and the state after them
abbrev pub change_answer : Sent → Option ℕ → Name → State → Answer × State
change_answer sent on name s = changed_by sent on name (finmap.get (catalogue s.texts) name) s

-- what `preview` is answered
abbrev pub preview_answer : Sent → Option ℕ → Name → State → Answer
preview_answer sent on name s = about (λ lens. foretold (asked_view s lens sent on) lens s) name (finmap.get (catalogue s.texts) name)
