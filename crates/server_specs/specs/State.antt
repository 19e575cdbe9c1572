-- The state of the server, and what a keeper keeps of it.
use Rattle.std.specs.Prelude.{ℕ, ◌-◌, List, [], ◌∷◌, ◌++◌, map, drop, length}
use Rattle.std.specs.FinMap as finmap
use Rattle.plain_values.specs.Order.{bytes_cmp}
use Rattle.lens_specs.specs.Common.{Name, Rows, Relation, Tables, TableDelta, Kept}
use Rattle.server_specs.specs.Answer.{Answer}

-- the definition texts in order, the tables, the version, for each table the version that changed it last, and the changes that
-- can be undone, the oldest first
pub record State : Type 0 where
  pub texts : List (List ℕ)
  pub tables : Tables
  pub version : ℕ
  pub last : finmap.FinMap bytes_cmp ℕ
  pub past : List (List TableDelta)

-- no definitions
abbrev pub fresh : State
fresh = record { texts = []; tables = finmap.empty; version = 0; last = finmap.empty; past = [] }

-- the last n of a list
abbrev pub last_of : {A : Type 0} → ℕ → List A → List A
last_of n xs = drop (length xs - n) xs

-- with one more change that can be undone, of which there are 16 at most
abbrev pub remember : List TableDelta → List (List TableDelta) → List (List TableDelta)
remember changes past = last_of 16 (past ++ changes ∷ [])

-- the rows of each table
abbrev pub rows_of_each : List (Name × Relation) → List (Name × Rows)
rows_of_each tables = map (λ t. (t.0, t.1.rows)) tables

-- what a keeper keeps of a state: the texts and the rows of each table
abbrev pub kept : State → Kept
kept s = record { texts = s.texts; rows = finmap.from_entries (rows_of_each (finmap.entries s.tables)) }

-- the answer, and the state as it was
abbrev pub unchanged : Answer → State → Answer × State
unchanged answer s = (answer, s)
