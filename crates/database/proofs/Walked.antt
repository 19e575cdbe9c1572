-- How many rows are walked for a change that is staged.
use Rattle.std.proofs.Common.{◌≤◌, ℕ, cond, Bool, true, false, List, Option, Some, None, arith}
use Rattle.plain_values.proofs.Common.{sum_by-le-sum_by}
use Rattle.std.specs.FinMap as finmap
use Rattle.lens_laws.proofs.Common.{count_of}
use Rattle.base_index.specs.Held as held
use Rattle.base_index.specs.Held.{indexes_in, walked_for}
use Rattle.base_index.specs.Need.{rows_walked}
use Rattle.base_index.specs.declared.need.Need.{Need}
use Rattle.opened_view.specs.Counters.{row_count}
use Rattle.database.specs.Staging.{needs_of, steps_in, steps_of}
use Rattle.database.specs.declared.database.Database.{Database}
use Rattle.database.specs.declared.plan.Staged.{Staged}
use Rattle.database.specs.declared.plan.StagedChange.{StagedChange}
use Rattle.database.specs.declared.plan.StagedChange.TheVariants.{Define, Rows as RowsChange}

other_less : (b : Bool) (n : ℕ) → cond b 0 n ≤ n
other_less true n = omega arith
other_less false n = omega arith

-- for needs no more rows are walked than all tables have
pub walked_few : (needs : List Need) (st : held.State) → walked_for needs st ≤ row_count st.relations
walked_few needs st =
    sum_by-le-sum_by (λ e. rows_walked e.0 needs (indexes_in st e.0) e.1.rows) (λ e. count_of e.1.rows) (finmap.entries st.relations)
    (λ e. other_less _ (count_of e.1.rows))

steps_in_few : (change : StagedChange) (st : held.State) → steps_in change st ≤ row_count st.relations
steps_in_few (Define text table p) st = walked_few (needs_of p.lens) st
steps_in_few (RowsChange deltas) st = omega arith

-- nor for what is staged
pub steps_few : (o : Option Staged) (database : Database) → steps_of o database ≤ row_count database.tables.present.relations
steps_few None database = omega arith
steps_few (Some staged) database = steps_in_few staged.change database.tables.present
