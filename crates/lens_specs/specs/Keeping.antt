-- The contents of a keeper, and the changes to them.
use Rattle.std.specs.Prelude.{◌≡◌, ℕ, true, false, List, [], ◌∷◌, ◌++◌, Option, Some, None, is_some, nat_eq}
use Rattle.std.specs.List.{list_any}
use Rattle.std.specs.Cmp.Lexicographic.{pointwise}
use Rattle.std.specs.FinMap as finmap
use Rattle.plain_values.specs.Order.{bytes_cmp}
use Rattle.plain_values.specs.SortedSet as set
use Rattle.lens_specs.specs.Relation.{Name, Rows}
use Rattle.lens_specs.specs.Delta.{TableDelta, Applies, new_view}

-- the contents: the definition texts in order, and the rows of each table
pub record Kept : Type 0 where
  pub texts : List (List ℕ)
  pub rows : finmap.FinMap bytes_cmp Rows

-- the empty contents
abbrev pub nothing : Kept
nothing = record { texts = []; rows = finmap.empty }

-- a definition, with the table that it makes, if any; or the differences of tables
pub data Change : Type 0 where
  define : List ℕ → Option Name → Change
  rows : List TableDelta → Change

-- the rows, or none where there is no table
abbrev pub or_empty : Option Rows → Rows
or_empty None = set.empty
or_empty (Some found) = found

-- the kept rows of a table
abbrev pub rows_at : finmap.FinMap bytes_cmp Rows → Name → Rows
rows_at tables table = or_empty (finmap.get tables table)

-- the tables after each of the differences
abbrev pub with_deltas : List TableDelta → finmap.FinMap bytes_cmp Rows → finmap.FinMap bytes_cmp Rows
with_deltas [] tables = tables
with_deltas (change ∷ changes) tables = with_deltas changes (finmap.insert tables change.table (new_view (rows_at tables change.table) change.delta))

-- the contents after a change
abbrev pub changed : Change → Kept → Kept
changed (define text None) kept = record kept { texts = kept.texts ++ text ∷ [] }
changed (define text (Some table)) kept = record { texts = kept.texts ++ text ∷ []; rows = finmap.insert kept.rows table set.empty }
changed (rows deltas) kept = record kept { rows = with_deltas deltas kept.rows }

-- the contents before and after are both told and related by the step, or both untold
abbrev pub Follows : (Kept → Kept → Type 0) → Option Kept → Option Kept → Type 0
Follows step None None = Unit {0}
Follows step (Some old) (Some new) = step old new
Follows step None (Some new) = ⊥
Follows step (Some old) None = ⊥

-- the contents stay as they were, if they are told
abbrev pub Stays : Option Kept → Option Kept → Type 0
Stays = Follows (λ old new. new ≡ old)

-- the contents are these, if they are told
abbrev pub IfObserved : Option Kept → Kept → Type 0
IfObserved None kept = Unit {0}
IfObserved (Some told) kept = told ≡ kept

-- each difference applies to a table that is there, and no later one is of the same table
abbrev pub AllApply : List TableDelta → finmap.FinMap bytes_cmp Rows → Type 0
AllApply [] tables = Unit {0}
AllApply (change ∷ changes) tables =
    (is_some (finmap.get tables change.table) ≡ true) × (Applies change.delta (rows_at tables change.table))
    × (list_any (λ later. pointwise nat_eq later.table change.table) changes ≡ false) × AllApply changes tables

-- the contents allow the change: a new table is not there yet, and the differences apply, at most one to a table
abbrev pub CanChange : Change → Kept → Type 0
CanChange (define text None) kept = Unit {0}
CanChange (define text (Some table)) kept = is_some (finmap.get kept.rows table) ≡ false
CanChange (rows deltas) kept = AllApply deltas kept.rows

-- the contents allow the change, if they are told
abbrev pub CanCommit : Change → Option Kept → Type 0
CanCommit change None = Unit {0}
CanCommit change (Some told) = CanChange change told
