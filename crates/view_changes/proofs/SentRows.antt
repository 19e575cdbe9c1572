-- Rows that are sent, and that they fit.
use Rattle.std.proofs.Common.{◌≡◌, ℕ, List, Result, Ok, Err, ap, inl, inr, refl, subst}
use Rattle.serde_json.specs.Data.{Items}
use Rattle.plain_values.specs.SortedSet as set
use Rattle.plain_values.proofs.Common.{Row}
use Rattle.fd_laws.proofs.Common.{from_minus, from_union}
use Rattle.lens_laws.proofs.Common.{get_sort, AllFit, AreOf, IsTyped}
use Rattle.lens_specs.specs.Common.{Columns, new_view, Lens, Tables, get, sort_of, Rows, minus}
use Rattle.request_text.specs.RowFaults.{bad_row as bad_of, set_of}
use Rattle.request_text.specs.Told.{RefusesBy}
use Rattle.request_reading.specs.declared.rows.RowsFault.{RowsFault}
use Rattle.request_reading.specs.declared.rows.RowsFault.TheVariants as rows_fault
use Rattle.server_specs.proofs.Sent.{sent_fit}
use Rattle.server_specs.specs.Common.{as_set, Listed, BadRow, rows_in}
use Rattle.server_specs.specs.EditRefusal.{bad_row}

-- ---- lists of rows

-- the set of the rows that a list says
pub set_asked : (which : Listed) (r : Result (List Row) BadRow) (N : Rows) → set_of r ≡ Ok N → as_set which r ≡ Ok N
set_asked which (Ok rows) N e = let same : set.from_list rows ≡ N = cc in ap Ok same
set_asked which (Err bad) N e = cc

rows_of_set : (r : Result (List Row) BadRow) (N : Rows) → set_of r ≡ Ok N → (rows : List Row) × (r ≡ Ok rows) × (set.from_list rows ≡ N)
rows_of_set (Ok rows) N e = (rows, refl, cc)
rows_of_set (Err bad) N e = cc

-- they fit the columns
pub set_fits : (U : Columns) (items : Items) (N : Rows) → set_of (rows_in U items) ≡ Ok N → AllFit U N
set_fits U items N e = let w = rows_of_set (rows_in U items) N e in subst (AllFit U) w.2 (sent_fit U items w.0 w.1)

-- its first bad row
pub set_refused : (which : Listed) (r : Result (List Row) BadRow) (index : ℕ) (name : List ℕ) → set_of r ≡ Err (index, name) → as_set which r ≡ Err (bad_row which index name)
set_refused which (Ok rows) index name e = cc
set_refused which (Err bad) index name e = let same : bad ≡ (index, name) = cc in ap (λ (b : BadRow). Err (bad_row which b.0 b.1)) same

-- the bad row that a fault tells
pub fault_told : (f : RowsFault) (index : ℕ) (name : List ℕ) (e : Result Rows BadRow) → f ≡ rows_fault.BadRow index name → RefusesBy bad_of f e → e ≡ Err (index, name)
fault_told f index name e is told = subst (λ g. RefusesBy bad_of g e) is told

-- ---- edited views

-- rows of a view, less some, and new rows that fit, fit too
pub new_fits : (L : Lens) (db : Tables) (R A : Rows) → IsTyped L → AreOf L db → AllFit (sort_of L).columns A → AllFit (sort_of L).columns (new_view (get L db) (record { remove = R; add = A }))
unfolding new_view
new_fits L db R A typed are new r i = elim (from_union (minus (get L db) R) A r i) [
  | inl j ↦ (get_sort L db typed are).columns r (from_minus (get L db) R r j).0
  | inr j ↦ new r j
]
