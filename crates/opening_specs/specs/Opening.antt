-- Opening a store: the state of what is kept, or its first damage.
use Rattle.std.specs.Prelude.{◌≡◌, ℕ, ◌&&◌, ◌++◌, Bool, true, false, not, codes, List, [], ◌∷◌, find, map, option_map, Option, Some, None, Result, Ok, Err}
use Rattle.std.specs.List.{list_all}
use Rattle.std.specs.FinMap as finmap
use Rattle.serde_json.specs.Data.{Data, number, string, object, unsigned, no_members, member}
use Rattle.serde_json.specs.Written.{compact_text}
use Rattle.plain_values.specs.Order.{bytes_cmp}
use Rattle.plain_values.specs.SortedSet as set
use Rattle.plain_values.specs.Row.{Row}
use Rattle.lens_specs.specs.Common.{Name, Names, Columns, fits_at, Rows, Relation, holds, Sort, Clash, violating_pair, Lens, sort_of, Kept, IfObserved}
use Rattle.catalog_specs.specs.Catalogue.{Catalogue, catalogue, is_table_of}
use Rattle.catalog_specs.specs.Judging.{first_refused}
use Rattle.server_specs.specs.State.{State}
use Rattle.server_specs.specs.Answer.{row_data, pair_data}

-- The first definition that is refused, by its place; a table that is defined and not kept, or kept and not defined; a row of a table
-- that does not fit its columns or that its predicate refuses; or two rows of a table that clash.
pub data Damage : Type 0 where
  definition : ℕ → Damage
  missing : Name → Damage
  strange : Name → Damage
  bad_row : Name → Row → Damage
  clash_in : Name → Row → Row → Damage

-- ---- whether a row fits

-- whether the row has exactly these columns, with a value that fits in each
abbrev pub is_fit : Columns → Row → Bool
is_fit columns row = list_all (λ c. fits_at (finmap.get row c) (finmap.get columns c)) (finmap.keys columns ++ finmap.keys row)

-- ---- the damage of a table

-- the first of two
abbrev pub or_damage : Option Damage → Option Damage → Option Damage
or_damage None later = later
or_damage (Some damage) later = Some damage

-- the least row that does not fit the columns, or that the predicate refuses
abbrev pub first_bad : Sort → Rows → Option Row
first_bad sort rows = find (λ row. not (is_fit sort.columns row && holds sort.predicate row)) (set.items rows)

-- two rows of a table that clash
abbrev pub clash_of_table : Name → Clash → Damage
clash_of_table name found = clash_in name found.first found.second

-- the least bad row of a table, or else its first clash
abbrev pub damage_of_rows : Name → Sort → Rows → Option Damage
damage_of_rows name sort rows = or_damage (option_map (bad_row name) (first_bad sort rows)) (option_map (clash_of_table name) (violating_pair sort.tree rows))

-- the damage at a name, by the sort of the table that is defined and the rows that are kept
abbrev pub damage_at : Name → Option Sort → Option Rows → Option Damage
damage_at name None None = None
damage_at name (Some sort) None = Some (missing name)
damage_at name None (Some rows) = Some (strange name)
damage_at name (Some sort) (Some rows) = damage_of_rows name sort rows

-- ---- the damage of a store

-- the sort, where the test holds
abbrev pub sort_where : Bool → Sort → Option Sort
sort_where true sort = Some sort
sort_where false sort = None

-- the sort of the table of the name, where its lens is that
abbrev pub table_sort_of : Name → Option Lens → Option Sort
table_sort_of name None = None
table_sort_of name (Some lens) = sort_where (is_table_of name lens) (sort_of lens)

-- the first damage of the tables of these names
abbrev pub damage_among : Catalogue → finmap.FinMap bytes_cmp Rows → List Name → Option Damage
damage_among known rows [] = None
damage_among known rows (name ∷ names) = or_damage (damage_at name (table_sort_of name (finmap.get known name)) (finmap.get rows name)) (damage_among known rows names)

-- the names that are defined and those that are kept
abbrev pub all_names : Catalogue → finmap.FinMap bytes_cmp Rows → Names
all_names known rows = set.from_list (finmap.keys known ++ finmap.keys rows)

-- the first damage: the definitions in order, and then the tables by rising name
abbrev pub first_damage : Kept → Option Damage
first_damage kept =
    let known = catalogue kept.texts in
    or_damage (option_map definition (first_refused kept.texts)) (damage_among known kept.rows (set.items (all_names known kept.rows)))

-- ---- the state

-- the columns of a sort that is there
abbrev pub columns_of : Option Sort → Columns
columns_of None = finmap.empty
columns_of (Some sort) = sort.columns

-- the rows with the columns of the table of the name
abbrev pub as_table : Catalogue → Name × Rows → Relation
as_table known entry = record { columns = columns_of (table_sort_of entry.0 (finmap.get known entry.0)); rows = entry.1 }

-- a map that has for each key what f makes of its entry
abbrev pub mapped : {X Y : Type 0} → (Name × X → Y) → finmap.FinMap bytes_cmp X → finmap.FinMap bytes_cmp Y
mapped f m = finmap.from_entries (map (λ e. (e.0, f e)) (finmap.entries m))

-- the texts and the tables that are kept, at version 0, and no change that can be undone
abbrev pub state_of : Kept → State
state_of kept = record { texts = kept.texts; tables = mapped (as_table (catalogue kept.texts)) kept.rows; version = 0; last = mapped (λ e. 0) kept.rows; past = [] }

-- the damage, if there is one, or else the state
abbrev pub unless_damaged : Option Damage → Kept → Result State Damage
unless_damaged None kept = Ok (state_of kept)
unless_damaged (Some damage) kept = Err damage

-- the state of what is kept, or its first damage
unfoldable pub opened : Kept → Result State Damage
opened kept = unless_damaged (first_damage kept) kept

-- what was loaded is told, where the contents are told, and opens to this
abbrev pub IsOpened : Option Kept → Result State Damage → Type 0
IsOpened contents result = (loaded : Kept) × IfObserved contents loaded × (opened loaded ≡ result)

-- ---- the line that tells a damage

-- a damage as JSON; the members stand in byte order
abbrev pub damage_data : Damage → Data
damage_data (definition index) = object (member (codes "definition") (number (unsigned index)) no_members)
damage_data (missing table) = object (member (codes "missing") (string table) no_members)
damage_data (strange table) = object (member (codes "strange") (string table) no_members)
damage_data (bad_row table row) = object (member (codes "row") (row_data row) (member (codes "table") (string table) no_members))
damage_data (clash_in table first second) = object (member (codes "rows") (pair_data first second) (member (codes "table") (string table) no_members))

-- compact JSON and a newline
unfoldable pub damage_text : Damage → List ℕ
damage_text damage = compact_text (object (member (codes "damaged") (damage_data damage) no_members)) ++ 10 ∷ []
