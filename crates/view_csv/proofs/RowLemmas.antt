-- The rows of records, one more at a time.
use Rattle.std.proofs.Common.{◌≡◌, ◌+◌, ◌∙◌, ℕ, suc, true, false, cond, List, [], ◌∷◌, ◌++◌, length, refl, sym, ap, arith, ◌==◌, Option, Some, None, option_map, Result, Ok, Err}
use Rattle.plain_values.proofs.Common.{zip, nat_list_cmp_total, nat_tests, bytes_cmp, keys_rise, Row, Columns, names, Bor}
use Rattle.std.specs.FinMap as finmap
use Rattle.plain_values.specs.SortedSet as set
use Rattle.plain_values.specs.declared.value.Kind.{Kind}
use Rattle.csv_specs.specs.Sheets.{Record, as_set, is_header, row_in, row_of, rows_from, rows_of_records, unsheet, values_in, with_row}
use Rattle.view_csv.specs.Places.{ArePlaces, values_at}
use Rattle.view_csv.specs.Records.{HasRead, records_in}
use Rattle.view_csv.specs.Told.{told}
use Rattle.view_csv.specs.declared.fault.CsvFault.{CsvFault}
use Rattle.view_csv.specs.declared.fault.CsvFault.TheVariants.{BadRecord}
use Rattle.view_csv.proofs.RecordLemmas.{others_follow}
use Rattle.csv.specs.declared.reader.Reader.{Reader}

-- the names of the columns, as a set, are their keys
pub names_are : (U : Columns) → set.items (names U) ≡ finmap.keys U
unfolding names
names_are U = set.items-from_list nat_list_cmp_total (finmap.keys U) (keys_rise bytes_cmp U)

eqb_yes : (m n : ℕ) → m ≡ n → (m == n) ≡ true
eqb_yes m n e = grind (arith, nat_tests)

eqb_no : (m n : ℕ) → (m ≡ n → ⊥) → (m == n) ≡ false
eqb_no m n h = grind (arith, nat_tests)

-- ---- the row of a record, by the places of its fields

module _ (columns : Columns) (header : Record) (places : List (ℕ × Kind)) (are : ArePlaces columns header places) (fields : Record) where
  pub row_by_places : length fields ≡ length places → row_in columns header fields ≡ option_map (row_of columns) (values_at places fields)
  row_by_places long =
      ap (λ b. cond b (option_map (row_of columns) (values_in columns header fields)) None) (eqb_yes (length fields) (length header) (long ∙ are.as_long))
      ∙ ap (option_map (row_of columns)) (are.values fields)

  -- a record of another length is none
  pub no_row : (length fields ≡ length places → ⊥) → row_in columns header fields ≡ None
  no_row h = ap (λ b. cond b (option_map (row_of columns) (values_in columns header fields)) None) (eqb_no (length fields) (length header) (λ e. h (e ∙ sym are.as_long)))

  -- the row, with the names as a set
  pub row_made : (C : set.SortedSet bytes_cmp) (o : Option Row) → set.items C ≡ finmap.keys columns → length fields ≡ length places
      → o ≡ option_map (λ vs. finmap.from_entries (zip (set.items C) vs)) (values_at places fields) → row_in columns header fields ≡ o
  row_made C o keys long made =
      row_by_places long ∙ sym (made ∙ (λ i. option_map (λ vs. finmap.from_entries (zip (keys i) vs)) (values_at places fields)))

-- ---- the rows of records

with_ok : (n : ℕ) (o : Option Row) (later : Result (List Row) ℕ) (rows : List Row) → with_row n o later ≡ Ok rows
    → (row : Row) × (rest : List Row) × (o ≡ Some row) × (later ≡ Ok rest) × (rows ≡ row ∷ rest)
with_ok n None later rows e = cc
with_ok n (Some row) (Err m) rows e = cc
with_ok n (Some row) (Ok rest) rows e =
    let same : row ∷ rest ≡ rows = cc in
    (row, rest, refl, refl, sym same)

module _ (columns : Columns) (header : Record) where
  -- one more record that is right
  pub rows_more : (n : ℕ) (read : List Record) (rows : List Row) (r : Record) (row : Row) → rows_from n columns header read ≡ Ok rows → row_in columns header r ≡ Some row
      → rows_from n columns header (read ++ (r ∷ [])) ≡ Ok (rows ++ (row ∷ []))
  rows_more n [] rows r row e is =
      let none : rows ≡ [] = cc in
      rw (none, is) refl
  rows_more n (first ∷ read) rows r row e is =
      let (one, rest, here, later, all) = with_ok n (row_in columns header first) (rows_from (suc n) columns header read) rows e in
      (λ i. with_row n (here i) (rows_more (suc n) read rest r row later is i)) ∙ ap (λ (l : List Row). Ok (l ++ (row ∷ []))) (sym all)

  -- the first one that is wrong
  pub rows_stop : (n : ℕ) (read : List Record) (rows : List Row) (r : Record) (others : List Record) → rows_from n columns header read ≡ Ok rows → row_in columns header r ≡ None
      → rows_from n columns header ((read ++ (r ∷ [])) ++ others) ≡ Err (length read + n)
  rows_stop n [] rows r others e is =
      let place : length {A = Record} [] + n ≡ n = omega arith in
      rw (place, is) refl
  rows_stop n (first ∷ read) rows r others e is =
      let (one, rest, here, later, all) = with_ok n (row_in columns header first) (rows_from (suc n) columns header read) rows e in
      let place : length (first ∷ read) + n ≡ length read + suc n = omega arith in
      (λ i. with_row n (here i) (rows_stop (suc n) read rest r others later is i)) ∙ ap (λ m. Err m) (sym place)

-- ---- the rows of a text

same_rest : (h : Record) (rs others : List Record) (all : List Record) → all ≡ h ∷ rs → all ≡ h ∷ others → others ≡ rs
same_rest h rs others all e f = cc

-- where the records are those that were read
pub whole : (text : List ℕ) (header : Record) (read rs : List Record) → records_in text ≡ header ∷ read → records_in text ≡ header ∷ rs → rs ≡ read
whole text header read rs e f = same_rest header read rs (records_in text) e f

-- where others may follow those that were read
pub front : (text : List ℕ) (header r : Record) (read rs others : List Record) → records_in text ≡ ((header ∷ read) ++ (r ∷ [])) ++ others → records_in text ≡ header ∷ rs
    → rs ≡ (read ++ (r ∷ [])) ++ others
front text header r read rs others e f = same_rest header ((read ++ (r ∷ [])) ++ others) rs (records_in text) e f

-- the first wrong record is told
pub stopped : (columns : Columns) (header : Record) (reader : Reader (Bor (List ℕ))) (text : List ℕ) (read : List Record) (fields : Record) (rows : List Row) (rs : List Record) (place : ℕ)
    → HasRead reader text ((header ∷ read) ++ (fields ∷ [])) → rows_from 1 columns header read ≡ Ok rows → length read + 1 ≡ place → records_in text ≡ header ∷ rs
    → row_in columns header fields ≡ None → told (rows_from 1 columns header rs) ≡ Err (BadRecord place)
stopped columns header reader text read fields rows rs place on right here all wrong =
    let (others, follow) = others_follow reader text ((header ∷ read) ++ (fields ∷ [])) on in
    ap told (ap (rows_from 1 columns header) (front text header fields read rs others follow all) ∙ rows_stop columns header 1 read rows fields others right wrong)
    ∙ ap (λ n. Err (BadRecord n)) here

-- ---- the set of the rows

pub told_set : (x : Result (List Row) ℕ) (rows : List Row) → told x ≡ Ok rows → told (as_set x) ≡ Ok (set.from_list rows)
told_set (Ok list) rows e =
    let same : list ≡ rows = cc in
    ap (λ l. Ok (set.from_list l)) same
told_set (Err n) rows e = cc

pub told_ok : {A : Type 0} (x : Result A ℕ) (y : A) → told x ≡ Ok y → x ≡ Ok y
told_ok (Ok z) y e =
    let same : z ≡ y = cc in
    ap (λ w. Ok w) same
told_ok (Err n) y e = cc

pub told_fault : (x : Result (List Row) ℕ) (e : CsvFault) → told x ≡ Err e → told (as_set x) ≡ Err e
told_fault (Ok list) e is = cc
told_fault (Err n) e is =
    let same : BadRecord n ≡ e = cc in
    ap (λ f. Err f) same

-- a text with no record
pub unsheet_nothing : (columns : Columns) (text : List ℕ) → records_in text ≡ [] → unsheet columns text ≡ Err 0
unfolding unsheet
unsheet_nothing columns text e = ap (rows_of_records columns) e

-- a text whose first record is no header
pub unsheet_no_header : (columns : Columns) (text : List ℕ) (header : Record) (others : List Record) → records_in text ≡ header ∷ others → is_header columns header ≡ false → unsheet columns text ≡ Err 0
unfolding unsheet
unsheet_no_header columns text header others e h = ap (rows_of_records columns) e ∙ rw h refl

-- a text whose first record is one
pub unsheet_rows : (columns : Columns) (text : List ℕ) (header : Record) (others : List Record) → records_in text ≡ header ∷ others → is_header columns header ≡ true
    → unsheet columns text ≡ as_set (rows_from 1 columns header others)
unfolding unsheet
unsheet_rows columns text header others e h = ap (rows_of_records columns) e ∙ rw h refl
