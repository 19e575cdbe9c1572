-- Rows that are sent fit the columns.
use Rattle.std.proofs.Common.{◌≡◌, Bool, true, false, cond, List, [], ◌∷◌, Option, Some, None, refl, sym, ap, subst, ◌∙◌, ℕ, ◌||◌, Result, Ok, Err}
use Rattle.std.specs.FinMap as finmap
use Rattle.plain_values.proofs.Common.{list_any, eq_by_cmp, nat_list_cmp_total, bytes_cmp, row_cmp, Row, row_cmp_total, row_cmp-IsAntisymmetric, fits, fits_same, fits_cond, is_tie}
use Rattle.grammar_laws.proofs.Options.{bind_some}
use Rattle.serde_json.specs.Data.{Data, null, boolean, number, string, array, object, Items, no_items, item, Members}
use Rattle.serde_json.specs.Find as find
use Rattle.plain_values.specs.SortedSet as set
use Rattle.plain_values.specs.declared.value.Kind.{Kind}
use Rattle.plain_values.specs.declared.value.Value.{Value}
use Rattle.lens_specs.specs.Common.{Name, Columns, Fits, fits_at, has}
use Rattle.server_specs.specs.Request.{first_other}
use Rattle.server_specs.specs.Sending.{BadRow, value_of, fitting, value_in, value_at, with_pair, pairs_in, is_column_of, row_from, row_of_members, row_in, with_row, rows_in}

-- a value that is read fits its kind
kept_fits : (k : Kind) (x v : Value) (b : Bool) → fits x k ≡ b → cond b (Some x) None ≡ Some v → fits v k ≡ true
kept_fits k x v true e is = let same : x ≡ v = cc in ap (λ w. fits w k) (sym same) ∙ e
kept_fits k x v false e is = cc

value_fits : (k : Kind) (d : Data) (v : Value) → value_in k d ≡ Some v → fits v k ≡ true
value_fits k d v e = let w = bind_some (fitting k) (value_of d) v e in kept_fits k w.0 v (fits w.0 k) refl w.2

paired : (name : Name) (o : Option Value) (others : Result (List (Name × Value)) Name) (pairs : List (Name × Value)) → with_pair name o others ≡ Ok pairs
    → (v : Value) × (rest : List (Name × Value)) × (o ≡ Some v) × (others ≡ Ok rest) × ((name, v) ∷ rest ≡ pairs)
paired name None others pairs e = cc
paired name (Some v) (Ok rest) pairs e = (v, rest, refl, refl, cc)
paired name (Some v) (Err wrong) pairs e = cc

-- the pairs fit the columns
pairs_fit : (columns : List (Name × Kind)) (ms : Members) (pairs : List (Name × Value)) → pairs_in columns ms ≡ Ok pairs
    → (c : Name) → fits_at (finmap.find bytes_cmp c pairs) (finmap.find bytes_cmp c columns) ≡ true
pairs_fit [] ms pairs e c = let f : [] ≡ pairs = cc in ap (λ ps. fits_at (finmap.find bytes_cmp c ps) None) (sym f)
pairs_fit (column ∷ columns) ms pairs e c =
    let w = paired column.0 (value_at ms column) (pairs_in columns ms) pairs e in
    let d = bind_some (value_in column.1) (find.get_member column.0 ms) w.0 w.2 in
    ap (λ ps. fits_at (finmap.find bytes_cmp c ps) (finmap.find bytes_cmp c (column ∷ columns))) (sym w.4)
    ∙ fits_cond (eq_by_cmp bytes_cmp c column.0) (Some w.0) (finmap.find bytes_cmp c w.1) (Some column.1) (finmap.find bytes_cmp c columns)
    (λ _. value_fits column.1 d.0 w.0 d.2) (λ _. pairs_fit columns ms w.1 w.3 c)

from_pairs : (result : Result (List (Name × Value)) Name) (strange : Option (List ℕ)) (r : Row) → row_from result strange ≡ Ok r → (pairs : List (Name × Value)) × (result ≡ Ok pairs) × (finmap.from_entries pairs ≡ r)
from_pairs (Ok pairs) None r e = (pairs, refl, cc)
from_pairs (Ok pairs) (Some k) r e = cc
from_pairs (Err wrong) strange r e = cc

members_fit : (columns : Columns) (ms : Members) (r : Row) → row_of_members columns ms ≡ Ok r → Fits columns r
members_fit columns ms r e =
    let w = from_pairs (pairs_in (finmap.entries columns) ms) (first_other (is_column_of columns) ms) r e in
    λ c. fits_same _ _ _ _ (sym (finmap.get-from_entries nat_list_cmp_total w.0 c) ∙ ap (λ m. finmap.get m c) w.2) (sym (finmap.get-entries columns c)) (pairs_fit (finmap.entries columns) ms w.0 w.1 c)

row_fits : (columns : Columns) (d : Data) (r : Row) → row_in columns d ≡ Ok r → Fits columns r
row_fits columns null r e = cc
row_fits columns (boolean b) r e = cc
row_fits columns (number n) r e = cc
row_fits columns (string bytes) r e = cc
row_fits columns (array ds) r e = cc
row_fits columns (object ms) r e = members_fit columns ms r e

rowed : (o : Result Row (List ℕ)) (others : Result (List Row) BadRow) (rows : List Row) → with_row o others ≡ Ok rows
    → (row : Row) × (rest : List Row) × (o ≡ Ok row) × (others ≡ Ok rest) × (row ∷ rest ≡ rows)
rowed (Err name) others rows e = cc
rowed (Ok row) (Ok rest) rows e = (row, rest, refl, refl, cc)
rowed (Ok row) (Err bad) rows e = cc

-- each row of the list fits the columns
abbrev AllFit : Columns → List Row → Type 0
AllFit columns rows = (r : Row) → list_any (eq_by_cmp row_cmp r) rows ≡ true → Fits columns r

one_more : (columns : Columns) (row : Row) (rows : List Row) → Fits columns row → AllFit columns rows → AllFit columns (row ∷ rows)
one_more columns row rows first others r =
    elim (eq_by_cmp row_cmp r row) as (λ b. eq_by_cmp row_cmp r row ≡ b → (b || list_any (eq_by_cmp row_cmp r) rows) ≡ true → Fits columns r) [
      | true ↦ λ tie _. subst (Fits columns) (sym (row_cmp-IsAntisymmetric r row (is_tie (row_cmp r row) tie))) first
      | false ↦ λ _ h. others r h
    ] refl

listed_fit : (columns : Columns) (items : Items) (rows : List Row) → rows_in columns items ≡ Ok rows → AllFit columns rows
listed_fit columns no_items rows e = let f : [] ≡ rows = cc in subst (AllFit columns) f (λ r h. cc)
listed_fit columns (item d ds) rows e =
    let w = rowed (row_in columns d) (rows_in columns ds) rows e in
    subst (AllFit columns) w.4 (one_more columns w.0 w.1 (row_fits columns d w.0 w.2) (listed_fit columns ds w.1 w.3))

-- each row that is sent fits the columns
pub sent_fit : (columns : Columns) (items : Items) (rows : List Row) → rows_in columns items ≡ Ok rows → (r : Row) → has (set.from_list rows) r ≡ true → Fits columns r
sent_fit columns items rows e r i = listed_fit columns items rows e r (sym (set.contains-from_list row_cmp_total rows r) ∙ i)
