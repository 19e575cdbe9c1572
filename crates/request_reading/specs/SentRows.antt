-- Rows that are sent, beside the columns that they are to have.
use Rattle.std.specs.Prelude.{◌≡◌, ℕ, List, map, Option, Result}
use Rattle.std.specs.Borrow.{Bor}
use Rattle.std.specs.FinMap as finmap
use Rattle.borrowed_json.specs.declared.value.Value.{Value as Json}
use Rattle.serde_json.specs.Data.{Members}
use Rattle.plain_values.specs.SortedSet as set
use Rattle.plain_values.specs.declared.value.Value.{Value}
use Rattle.lens_specs.specs.Common.{Name, Columns, Names}
use Rattle.server_specs.specs.Request.{first_other}
use Rattle.server_specs.specs.Sending.{is_column_of, pairs_in}
-- what goes with it
pub use Rattle.request_reading.specs.Blames.{Finds}
pub use Rattle.request_reading.specs.RequestKinds.{is_among}
pub use Rattle.request_reading.specs.RowFaults.{GivesRows, IsAt, bad_row, set_of}

-- the names are those of the columns
abbrev pub AreNamesOf : Names → Columns → Type 0
AreNamesOf names columns = set.items names ≡ finmap.keys columns

-- each column with its value, or the first that is missing or whose value does not fit
abbrev pub pairs_of : Columns → Members → Result (List (Name × Value)) Name
pairs_of columns ms = pairs_in (finmap.entries columns) ms

-- the least member that is no column
abbrev pub strange_in : Columns → Members → Option (List ℕ)
strange_in columns ms = first_other (is_column_of columns) ms

-- the names of the members, in the order in which they were sent
abbrev pub names_sent : List (Bor (List ℕ) × Json) → List (List ℕ)
names_sent ms = map (λ m. m.0.now) ms
