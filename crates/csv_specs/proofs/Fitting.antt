-- Rows that are read fit their columns.
use Rattle.std.proofs.Common.{◌≡◌, ℕ, suc, Bool, true, false, cond, List, [], ◌∷◌, length, map, refl, sym, ap, subst, ◌∙◌, arith, inl, inr, ◌||◌, Option, Some, None, option_map, Result, Ok, Err}
use Rattle.plain_values.proofs.Common.{option_and_then, AllByRecursion, list_any, zip, IsStrictlySortedBy, eq_by_cmp, bytes_decides, nat_list_cmp_total, pointwise, and_from, cases_Bool, bytes_cmp, pair_fits, row_cmp, Row, row_cmp-IsAntisymmetric, row_cmp_total, entries-from_entries, keys_of, keys_rise, fits, fits_along, is_tie}
use Rattle.std.specs.FinMap as finmap
use Rattle.plain_values.specs.SortedSet as set
use Rattle.plain_values.specs.Value.{base_of, same_kind}
use Rattle.plain_values.specs.declared.value.Kind.{Kind}
use Rattle.plain_values.specs.declared.value.Kind.TheVariants as kind
use Rattle.plain_values.specs.declared.value.Value.{Value}
use Rattle.plain_values.specs.declared.value.Value.TheVariants.{Int, Text, Flag}
use Rattle.lens_specs.specs.Common.{Columns, Fits, Name, Rows, has}
use Rattle.csv.specs.Reading.{default_config, records, strip_bom}
use Rattle.csv_specs.specs.Fields.{flag_in, number_in, text_in, value_in}
use Rattle.csv_specs.specs.Sheets.{Record, all_there, as_set, is_header, row_in, row_of, rows_from, rows_of_records, unsheet, value_under, values_in, with_row}

-- ---- one value

int_fits : (k : Kind) (o : Option _) (v : Value) → same_kind kind.Int (base_of k) ≡ true → option_map Int o ≡ Some v → fits v k ≡ true
unfolding fits
int_fits k None v is e = cc
int_fits k (Some z) v is e =
    let same : Int z ≡ v = cc in
    subst (λ w. fits w k ≡ true) same is

text_fits : (k : Kind) (o : Option (List ℕ)) (v : Value) → same_kind kind.Text (base_of k) ≡ true → option_map Text o ≡ Some v → fits v k ≡ true
unfolding fits
text_fits k None v is e = cc
text_fits k (Some t) v is e =
    let same : Text t ≡ v = cc in
    subst (λ w. fits w k ≡ true) same is

flag_fits : (k : Kind) (o : Option Bool) (v : Value) → same_kind kind.Flag (base_of k) ≡ true → option_map Flag o ≡ Some v → fits v k ≡ true
unfolding fits
flag_fits k None v is e = cc
flag_fits k (Some b) v is e =
    let same : Flag b ≡ v = cc in
    subst (λ w. fits w k ≡ true) same is

value_fits : (k : Kind) (field : List ℕ) (v : Value) → value_in k field ≡ Some v → fits v k ≡ true
value_fits kind.Int field v e = int_fits kind.Int (number_in field) v refl e
value_fits kind.Text field v e = text_fits kind.Text (text_in field) v refl e
value_fits kind.Flag field v e = flag_fits kind.Flag (flag_in field) v refl e
value_fits kind.IntOrNull field v e = int_fits kind.IntOrNull (number_in field) v refl e
value_fits kind.TextOrNull field v e = text_fits kind.TextOrNull (text_in field) v refl e
value_fits kind.FlagOrNull field v e = flag_fits kind.FlagOrNull (flag_in field) v refl e

then_fits : (k : Kind) (field : Option (List ℕ)) (v : Value) → option_and_then (value_in k) field ≡ Some v → fits v k ≡ true
then_fits k None v e = cc
then_fits k (Some field) v e = value_fits k field v e

-- ---- the values of a record

-- the first of values that are all there, and the others
record First {A : Type 0} (o : Option A) (xs : List (Option A)) (ys : List A) : Type 0 where
  first : A
  rest : List A
  here : o ≡ Some first
  others : all_there xs ≡ Some rest
  all : ys ≡ first ∷ rest

mapped : {A : Type 0} (y : A) (xs : List (Option A)) (others : Option (List A)) (ys : List A) → all_there xs ≡ others → option_map (λ l. y ∷ l) others ≡ Some ys → First (Some y) xs ys
mapped y xs None ys is e = cc
mapped y xs (Some rest) ys is e =
    let same : y ∷ rest ≡ ys = cc in
    record { first = y; rest = rest; here = refl; others = is; all = sym same }

first_of_all : {A : Type 0} (o : Option A) (xs : List (Option A)) (ys : List A) → all_there (o ∷ xs) ≡ Some ys → First o xs ys
first_of_all None xs ys e = cc
first_of_all (Some y) xs ys e = mapped y xs (all_there xs) ys refl e

module _ (header fields : Record) where
  found_fit : (es : List (Name × Kind)) (vs : List Value) → all_there (map (value_under header fields) es) ≡ Some vs → (pointwise pair_fits (zip (keys_of es) vs) es ≡ true) × (length vs ≡ length es)
  found_fit [] [] e = (refl, refl)
  found_fit [] (v ∷ vs) e = cc
  found_fit (e ∷ es) vs is =
      let f = first_of_all (value_under header fields e) (map (value_under header fields) es) vs is in
      let rest = found_fit es f.rest f.others in
      let fit = and_from _ _ ((bytes_decides e.0 e.0).1 refl) (then_fits e.1 _ f.first f.here) in
      subst (λ l. (pointwise pair_fits (zip (keys_of (e ∷ es)) l) (e ∷ es) ≡ true) × (length l ≡ length (e ∷ es))) (sym f.all)
      (and_from _ _ fit rest.0, omega (arith, rest.1))

-- ---- a row

names_again : {A B C : Type 0} (es : List (A × B)) (vs : List C) → length vs ≡ length es → keys_of (zip (keys_of es) vs) ≡ keys_of es
names_again [] vs e = refl
names_again (e ∷ es) [] long = absurd (omega (arith, long))
names_again (e ∷ es) (v ∷ vs) long = ap (λ l. e.0 ∷ l) (names_again es vs (omega (arith, long)))

made : (o : Option (List Value)) (U : Columns) (row : Row) → option_map (row_of U) o ≡ Some row → (vs : List Value) × (o ≡ Some vs) × (row_of U vs ≡ row)
made None U row e = cc
made (Some vs) U row e =
    let same : row_of U vs ≡ row = cc in
    (vs, refl, same)

there : {A : Type 0} (b : Bool) (o : Option A) (x : A) → cond b o None ≡ Some x → o ≡ Some x
there true o x e = e
there false o x e = cc

row_fits : (U : Columns) (header fields : Record) (row : Row) → row_in U header fields ≡ Some row → Fits U row
row_fits U header fields row e =
    let (vs, is, same) = made (values_in U header fields) U row (there _ (option_map (row_of U) (values_in U header fields)) row e) in
    let fit = found_fit header fields (finmap.entries U) vs is in
    let names = names_again (finmap.entries U) vs fit.1 in
    let rise = subst (IsStrictlySortedBy bytes_cmp) (sym names) (keys_rise bytes_cmp U) in
    let pairs : zip (finmap.keys U) vs ≡ finmap.entries (row_of U vs) = sym (entries-from_entries bytes_cmp nat_list_cmp_total (zip (finmap.keys U) vs) rise) in
    subst (Fits U) same ((fits_along U (row_of U vs) (zip (finmap.keys U) vs) (finmap.entries U) pairs refl).0 fit.0)

-- ---- all rows

with_right : (n : ℕ) (o : Option Row) (later : Result (List Row) ℕ) (rows : List Row) → with_row n o later ≡ Ok rows
    → (row : Row) × (rest : List Row) × (o ≡ Some row) × (later ≡ Ok rest) × (rows ≡ row ∷ rest)
with_right n None later rows e = cc
with_right n (Some row) (Err m) rows e = cc
with_right n (Some row) (Ok rest) rows e =
    let same : row ∷ rest ≡ rows = cc in
    (row, rest, refl, refl, sym same)

each_fits : (U : Columns) (header : Record) (n : ℕ) (rs : List Record) (rows : List Row) → rows_from n U header rs ≡ Ok rows → AllByRecursion (Fits U) rows
each_fits U header n [] [] e = tt
each_fits U header n [] (row ∷ rows) e = cc
each_fits U header n (r ∷ rs) rows e =
    let (row, rest, here, later, all) = with_right n (row_in U header r) (rows_from (suc n) U header rs) rows e in
    subst (AllByRecursion (Fits U)) (sym all) (row_fits U header r row here, each_fits U header (suc n) rs rest later)

member_fits : (U : Columns) (rows : List Row) → AllByRecursion (Fits U) rows → (row : Row) → list_any (eq_by_cmp row_cmp row) rows ≡ true → Fits U row
member_fits U [] all row is = cc
member_fits U (r ∷ rows) all row is = elim (cases_Bool (eq_by_cmp row_cmp row r)) [
  | inl tie ↦ subst (Fits U) (sym (row_cmp-IsAntisymmetric row r (is_tie (row_cmp row r) tie))) all.0
  | inr other ↦ member_fits U rows all.1 row (sym (ap (λ b. b || list_any (eq_by_cmp row_cmp row) rows) other) ∙ is)
]

set_fits : (U : Columns) (x : Result (List Row) ℕ) (M : Rows) → as_set x ≡ Ok M → ((rows : List Row) → x ≡ Ok rows → AllByRecursion (Fits U) rows) → (row : Row) → has M row ≡ true → Fits U row
set_fits U (Err n) M e all row is = cc
set_fits U (Ok rows) M e all row is =
    let same : set.from_list rows ≡ M = cc in
    member_fits U rows (all rows refl) row (sym (set.contains-from_list row_cmp_total rows row) ∙ ap (λ s. has s row) same ∙ is)

no_rows : (M : Rows) → ◌≡◌ {A = Result Rows ℕ} (Err 0) (Ok M) → ⊥
no_rows M e = cc

under_header : (U : Columns) (rs : List Record) (M : Rows) → rows_of_records U rs ≡ Ok M → (row : Row) → has M row ≡ true → Fits U row
under_header U [] M e = cc
under_header U (header ∷ rs) M e = elim (cases_Bool (is_header U header)) [
  | inl good ↦ set_fits U (rows_from 1 U header rs) M (sym (ap (λ b. cond b (as_set (rows_from 1 U header rs)) (Err 0)) good) ∙ e) (each_fits U header 1 rs)
  | inr bad ↦ absurd (no_rows M (sym (ap (λ b. cond b (as_set (rows_from 1 U header rs)) (Err 0)) bad) ∙ e))
]

-- the rows of a text fit
pub unsheet_fits : (U : Columns) (text : List ℕ) (M : Rows) → unsheet U text ≡ Ok M → (row : Row) → has M row ≡ true → Fits U row
unfolding unsheet
unsheet_fits U text M e = under_header U (records default_config (strip_bom text)) M e
