-- All tables with what each may be asked by: as readers see them, and as `settle` makes them.
use Rattle.std.specs.Prelude.{◌≡◌, refl, ℕ, Bool, true, false, List, [], map}
use Rattle.std.specs.Prelude.{Option, Some, None, is_some, unwrap_or}
use Rattle.std.specs.List.{sum_by}
use Rattle.std.specs.Coded.{Coded, code_by, coded×, coded_list, coded_option, coded_ℕ}
use Rattle.std.specs.FinMap as finmap
use Rattle.plain_values.specs.Order.{bytes_cmp}
use Rattle.plain_values.specs.SortedSet as set
pub use Rattle.lens_specs.specs.Relation.{IsRelation, has, those}
pub use Rattle.lens_specs.specs.Rows.{agree}
pub use Rattle.lens_specs.specs.TableDeltas.{no_relation, relation_in, after, with_deltas, AllApply}
pub use Rattle.signed_delta.specs.Tables.{table_delta}
use Rattle.lens_specs.specs.Common.{Tables, Name, Names, Columns}
use Rattle.row_sets.specs.Codes.{coded_relation}
use Rattle.base_index.specs.Need.{has_cols, rows_walked, with_needs}
use Rattle.base_index.specs.declared.need.Need.{Need}

-- by table, the column sets that it may be asked by
abbrev pub Indexes : Type 0
Indexes = finmap.FinMap bytes_cmp (List Names)

-- relations by name, and what each may be asked by
pub record State : Type 0 where
  pub relations : Tables
  pub indexes : Indexes

-- what readers see, what `settle` makes of it, and the tables as they were at `hold`, where they are held
pub record Held : Type 0 where
  pub present : State
  pub next : State
  pub held : Option State

-- there is no table
abbrev pub no_tables : State
no_tables = record { relations = finmap.empty; indexes = finmap.empty }

-- nothing is staged
abbrev pub IsQuiet : Held → Type 0
IsQuiet h = h.next ≡ h.present

-- ---- what readers ask

-- the table is there
abbrev pub IsThere : State → Name → Type 0
IsThere st t = is_some (finmap.get st.relations t) ≡ true

-- the column sets of a table's indexes
abbrev pub indexes_in : State → Name → List Names
indexes_in st t = unwrap_or (finmap.get st.indexes t) []

-- whether a table may be asked by these columns
abbrev pub is_indexed : State → Name → Names → Bool
is_indexed st t C = has_cols (indexes_in st t) C

-- ---- definitions

-- with the new table, if any, which has no row and no index
abbrev pub with_table : Option (Name × Columns) → State → State
with_table None st = st
with_table (Some t) st = record {
  relations = finmap.insert st.relations t.0 (record { columns = t.1; rows = set.empty });
  indexes = finmap.insert st.indexes t.0 [];
}

-- with the indexes that the needs ask for, at each table that is there
abbrev pub with_indexes : List Need → State → State
with_indexes needs st = record st {
  indexes = finmap.from_entries (map (λ e. (e.0, with_needs e.0 needs (indexes_in st e.0)))
      (finmap.entries st.relations));
}

-- after a definition
abbrev pub defined : Option (Name × Columns) → List Need → State → State
defined table needs st = with_indexes needs (with_table table st)

-- the new table, if any, is not there yet
abbrev pub IsNew : Option (Name × Columns) → State → Type 0
IsNew None st = Unit {0}
IsNew (Some t) st = is_some (finmap.get st.relations t.0) ≡ false

-- how many rows are walked for the needs: those of each table with a new index
abbrev pub walked_for : List Need → State → ℕ
walked_for needs st =
    sum_by (λ e. rows_walked e.0 needs (indexes_in st e.0) e.1.rows) (finmap.entries st.relations)

-- ---- how it is stored

abbrev coded_state : Coded State
coded_state =
    let name = coded_list coded_ℕ in
    let names = coded_list (set.code name) in
    code_by _ (coded× (finmap.code name coded_relation) (finmap.code name names))
    (λ st. (st.relations, st.indexes))
    (λ p. record { relations = p.0; indexes = p.1 })
    (λ _. refl)

abbrev pub coded_held : Coded Held
coded_held =
    code_by _ (coded× coded_state (coded× coded_state (coded_option coded_state)))
    (λ h. (h.present, (h.next, h.held)))
    (λ p. record { present = p.0; next = p.1.0; held = p.1.1 })
    (λ _. refl)
