-- What the tables stage for a change, and how many rows are walked for it.
use Rattle.std.specs.Prelude.{ℕ, List, [], map, Option, None, Some, option_map}
use Rattle.lens_specs.specs.Common.{Columns, Lens, sort_of, Name}
use Rattle.lens_laws.specs.Asked.{asked}
use Rattle.base_index.specs.Held.{State, defined, walked_for, with_deltas}
use Rattle.base_index.specs.declared.need.Need.{Need}
use Rattle.signed_delta.specs.Tables.{table_delta}
use Rattle.database.specs.declared.plan.Staged.{Staged}
use Rattle.database.specs.declared.plan.StagedChange.{StagedChange}
use Rattle.database.specs.declared.plan.StagedChange.TheVariants.{Define, Rows}
use Rattle.database.specs.declared.database.Database.{Database}

-- the indexes that the lens needs
abbrev pub needs_of : Lens → List Need
needs_of L = map (λ p. record { table = p.0; cols = p.1 }) (asked L [])

-- the table that a definition makes, with the columns of its lens
abbrev pub table_of : Option Name → Lens → Option (Name × Columns)
table_of table L = option_map (λ name. (name, (sort_of L).columns)) table

-- the tables and indexes after a definition
abbrev pub defined_by : Option Name → Lens → State → State
defined_by table L st = defined (table_of table L) (needs_of L) st

-- how many rows are walked for the indexes that the lens needs
abbrev pub walked_by : Lens → State → ℕ
walked_by L st = walked_for (needs_of L) st

-- the tables and indexes after a change
abbrev pub next_state : StagedChange → State → State
next_state (Define text table prepared) st = defined_by table prepared.lens st
next_state (Rows deltas) st = record st { relations = with_deltas (map table_delta deltas.items) st.relations }

-- how many rows are walked for a change
abbrev pub steps_in : StagedChange → State → ℕ
steps_in (Define text table prepared) st = walked_by prepared.lens st
steps_in (Rows deltas) st = 0

-- how many rows are walked for what is staged, if anything is
abbrev pub steps_of : Option Staged → Database → ℕ
steps_of None database = 0
steps_of (Some staged) database = steps_in staged.change database.tables.present
