-- The record of a row reads back as it.
use Rattle.std.proofs.Common.{◌≡◌, ℕ, suc, true, false, cond, List, [], ◌∷◌, length, map, refl, sym, ap, ◌∙◌, arith, inl, inr, ◌||◌, ◌==◌, not, nat_eq, Some, None, option_map, Ok}
use Rattle.plain_values.proofs.Common.{Ordering, Less, Equal, option_and_then, AllByRecursion, list_all, list_any, zip, IsStrictlySortedBy, eq_by_cmp, is_eq, tied_itself, bytes_decides, nat_list_cmp_total, pointwise, and_parts, cases_Bool, or_right, nat_tests, length-map, bytes_cmp, pair_fits, row_cmp, Row, row_cmp_total, from_entries-entries, keys_of, keys_rise, values_of, is_nullable, fits_along, fits_keys}
use Rattle.std.specs.FinMap as finmap
use Rattle.plain_values.specs.declared.value.Kind.{Kind}
use Rattle.plain_values.specs.declared.value.Value.{Value}
use Rattle.lens_specs.specs.Common.{Columns, Fits, Name}
use Rattle.csv_specs.specs.Fields.{field_of, is_same, value_in}
use Rattle.csv_specs.specs.SheetLaws.{is_right}
use Rattle.csv_specs.specs.Sheets.{Record, all_there, field_under, record_of, row_in, row_of, rows_from, value_under, values_in, with_row}
use Rattle.csv_specs.proofs.Values.{value_back}

-- ---- values under the names of their columns

not_below_itself : {P : Type 0} (o : Ordering) → o ≡ Equal → o ≡ Less → P
not_below_itself o e f = cc (sym e ∙ f)

-- a name above another is another
other_name : (h n : Name) → bytes_cmp h n ≡ Less → is_same n h ≡ false
other_name h n less = elim (cases_Bool (is_same n h)) [
  | inl same ↦
      let equal : n ≡ h = (bytes_decides n h).0 same in
      not_below_itself (bytes_cmp h n) (ap (bytes_cmp h) equal ∙ tied_itself nat_list_cmp_total h) less
  | inr other ↦ other
]

-- the first field is of no later column
past_first : (h : Name) (header : Record) (f : List ℕ) (fields : Record) (es : List (Name × Kind)) → AllByRecursion (λ n. bytes_cmp h n ≡ Less) (keys_of es)
    → map (value_under (h ∷ header) (f ∷ fields)) es ≡ map (value_under header fields) es
past_first h header f fields [] above = refl
past_first h header f fields (e ∷ es) above = λ i.
    option_and_then (value_in e.1) (cond (other_name h e.0 above.0 i) (Some f) (field_under e.0 header fields)) ∷ past_first h header f fields es above.1 i

first_there : (n : Name) → is_same n n ≡ true
first_there n = (bytes_decides n n).1 refl

-- each value of a list is found under the name of its column
all_found : (es : List (Name × Kind)) (ps : List (Name × Value)) → list_all (λ c. not (is_nullable c.1)) es ≡ true → IsStrictlySortedBy bytes_cmp (keys_of es) → pointwise pair_fits ps es ≡ true → list_all is_right (values_of ps) ≡ true
    → all_there (map (value_under (keys_of es) (map field_of (values_of ps))) es) ≡ Some (values_of ps)
unfolding IsStrictlySortedBy
all_found [] [] plain rise fit right = refl
all_found [] (p ∷ ps) plain rise fit right = cc
all_found (e ∷ es) [] plain rise fit right = cc
all_found (e ∷ es) (p ∷ ps) plain rise fit right =
    let plain_first = and_parts (not (is_nullable e.1)) _ plain in
    let fits_first = and_parts (pair_fits p e) _ fit in
    let right_first = and_parts (is_right p.1) _ right in
    let value = value_back p.1 e.1 plain_first.0 right_first.0 (and_parts (pointwise nat_eq p.0 e.0) _ fits_first.0).1 in
    let first : value_under (e.0 ∷ keys_of es) (field_of p.1 ∷ map field_of (values_of ps)) e ≡ Some p.1 =
    ap (λ b. option_and_then (value_in e.1) (cond b (Some (field_of p.1)) (field_under e.0 (keys_of es) (map field_of (values_of ps))))) (first_there e.0) ∙ value in
    let rest = past_first e.0 (keys_of es) (field_of p.1) (map field_of (values_of ps)) es rise.0 in
    (λ i. all_there (first i ∷ rest i))
    ∙ ap (option_map (λ vs. p.1 ∷ vs)) (all_found es ps plain_first.1 rise.1 fits_first.1 right_first.1)

-- ---- a row

pairs_again : {A B : Type 0} (es : List (A × B)) → zip (keys_of es) (values_of es) ≡ es
pairs_again [] = refl
pairs_again (e ∷ es) = ap (λ l. e ∷ l) (pairs_again es)

eqb_yes : (m n : ℕ) → m ≡ n → (m == n) ≡ true
eqb_yes m n e = grind (arith, nat_tests)

-- a row is what its record reads as
pub row_back : (U : Columns) (row : Row) → list_all (λ c. not (is_nullable c.1)) (finmap.entries U) ≡ true → Fits U row → list_all is_right (finmap.values row) ≡ true → row_in U (finmap.keys U) (record_of row) ≡ Some row
row_back U row plain fit right =
    let along = (fits_along U row (finmap.entries row) (finmap.entries U) refl refl).1 fit in
    let keys = fits_keys U row fit in
    let long : length (record_of row) ≡ length (finmap.keys U) =
    length-map (finmap.values row) field_of ∙ length-map (finmap.entries row) (λ e. e.1) ∙ sym (length-map (finmap.entries row) (λ e. e.0)) ∙ ap length keys in
    ap (λ b. cond b (option_map (row_of U) (values_in U (finmap.keys U) (record_of row))) None) (eqb_yes _ _ long)
    ∙ ap (option_map (row_of U)) (all_found (finmap.entries U) (finmap.entries row) plain (keys_rise bytes_cmp U) along right)
    ∙ ap (λ l. Some (finmap.from_entries (zip l (finmap.values row)))) (sym keys)
    ∙ ap (λ l. Some (finmap.from_entries l)) (pairs_again (finmap.entries row))
    ∙ ap (λ r. Some r) (from_entries-entries bytes_cmp nat_list_cmp_total row)

-- ---- all rows

pub along_members : (P : Row → Type 0) (rows : List Row) → ((row : Row) → list_any (eq_by_cmp row_cmp row) rows ≡ true → P row) → AllByRecursion P rows
along_members P [] h = tt
along_members P (r ∷ rows) h = (
  h r (ap (λ b. b || list_any (eq_by_cmp row_cmp r) rows) (ap is_eq (tied_itself row_cmp_total r))),
  along_members P rows (λ row there. h row (or_right (eq_by_cmp row_cmp row r) _ there)),
)

pub rows_back : (U : Columns) (n : ℕ) (rows : List Row) → AllByRecursion (λ row. row_in U (finmap.keys U) (record_of row) ≡ Some row) rows
    → rows_from n U (finmap.keys U) (map record_of rows) ≡ Ok rows
rows_back U n [] all = refl
rows_back U n (row ∷ rows) all = λ i. with_row n (all.0 i) (rows_back U (suc n) rows all.1 i)
