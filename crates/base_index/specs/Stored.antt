-- A table that is there, and the change of it that is staged.
use Rattle.std.specs.Prelude.{◌≡◌, List, [], refl, Option, None}
use Rattle.std.specs.Coded.{Coded, code_by, coded×, coded_list, coded_option, coded_ℕ}
use Rattle.plain_values.specs.SortedSet as set
use Rattle.lens_specs.specs.Common.{Name, Names, Columns, Relation, Rows}
use Rattle.row_sets.specs.Codes.{coded_columns, coded_rows}

-- `rows` and `indexes` are what readers see, the next ones what `settle` makes of them, and `held` the rows as they were at
-- `hold`, where they are held
pub record Stored : Type 0 where
  pub name : Name
  pub columns : Columns
  pub rows : Rows
  pub indexes : List Names
  pub next_rows : Rows
  pub next_indexes : List Names
  pub held : Option Rows

-- the table with no row and no index
abbrev pub new_table : Name → Columns → Stored
new_table name columns = record {
  name = name;
  columns = columns;
  rows = set.empty;
  indexes = [];
  next_rows = set.empty;
  next_indexes = [];
  held = None;
}

-- what is staged is present
abbrev pub settled : Stored → Stored
settled s = record s { rows = s.next_rows; indexes = s.next_indexes }

-- what is staged is gone
abbrev pub unstaged : Stored → Stored
unstaged s = record s { next_rows = s.rows; next_indexes = s.indexes }

-- nothing is staged
pub record IsQuiet (s : Stored) : Type 0 where
  pub rows : s.next_rows ≡ s.rows
  pub indexes : s.next_indexes ≡ s.indexes

-- the relation that readers see
abbrev pub shown_of : Stored → Relation
shown_of s = record { columns = s.columns; rows = s.rows }

-- the relation after `settle`
abbrev pub next_of : Stored → Relation
next_of s = record { columns = s.columns; rows = s.next_rows }

abbrev coded_indexes : Coded (List Names)
coded_indexes = coded_list (set.code (coded_list coded_ℕ))

abbrev pub coded_stored : Coded Stored
coded_stored =
    let state = coded× coded_rows coded_indexes in
    code_by _ (coded× (coded× (coded× (coded_list coded_ℕ) coded_columns) (coded_option coded_rows)) (coded× state state))
    (λ s. (((s.name, s.columns), s.held), ((s.rows, s.indexes), (s.next_rows, s.next_indexes))))
    (λ p. record {
      name = p.0.0.0;
      columns = p.0.0.1;
      rows = p.1.0.0;
      indexes = p.1.0.1;
      next_rows = p.1.1.0;
      next_indexes = p.1.1.1;
      held = p.0.1;
    })
    (λ _. refl)
