-- The text of rows reads back as them.
use Rattle.std.proofs.Common.{◌≡◌, ◌≢◌, ℕ, true, cond, List, [], ◌∷◌, length, map, refl, sym, ap, ◌∙◌, arith, Ok, Err, Some, None}
use Rattle.plain_values.proofs.Common.{AllByRecursion, list_all, and_parts, length-map, is_name, row_cmp_total, row_cmp-IsAntisymmetric, Row, fits_keys}
use Rattle.std.specs.FinMap as finmap
use Rattle.csv.specs.Machine.{next_record}
use Rattle.csv.specs.Reading.{Reached, default_config, records, strip_bom}
use Rattle.csv.specs.Writing.{read_back}
use Rattle.csv.specs.declared.parser.State.TheVariants as st
use Rattle.csv.proofs.RoundTrip.{read-write}
use Rattle.plain_values.specs.SortedSet as set
use Rattle.lens_specs.specs.Common.{Columns, Fits}
use Rattle.csv_specs.specs.Fields.{field_of}
use Rattle.csv_specs.specs.SheetLaws.{SheetsReadBack}
use Rattle.csv_specs.specs.Sheets.{Record, as_set, record_of, records_of, row_in, rows_from, rows_of_records, sheet, text_of, unsheet}
use Rattle.csv_specs.proofs.Headers.{mark_free, names_head}
use Rattle.csv_specs.proofs.Readings.{all_records}
use Rattle.csv_specs.proofs.Rows.{along_members, row_back, rows_back}

-- ---- all records that were written are read, and no others

written : (rs : List Record) → Reached default_config st.StartRecord (text_of rs) (map read_back rs) st.StartRecord []
unfolding Reached
written [] = (refl, refl)
written (r ∷ rs) = ((read_back r, st.StartRecord, text_of rs), read-write r (text_of rs), refl, written rs)

nothing_left : next_record default_config st.StartRecord [] [] [] ≡ None
unfolding next_record
nothing_left = refl

written_are_read : (rs : List Record) → records default_config (text_of rs) ≡ map read_back rs
written_are_read rs = all_records default_config (text_of rs) (map read_back rs) (st.StartRecord, [], written rs, nothing_left)

-- a record with a field is read as it was
full : (r : Record) → r ≢ [] → read_back r ≡ r
full [] h = absurd (h refl)
full (f ∷ fs) h = refl

all_full : (rs : List Record) → AllByRecursion (λ r. r ≢ []) rs → map read_back rs ≡ rs
all_full [] all = refl
all_full (r ∷ rs) all = λ i. full r all.0 i ∷ all_full rs all.1 i

-- ---- the records of rows

no_length : {A B : Type 0} (xs : List A) (ys : List B) → length xs ≡ length ys → xs ≡ [] → ys ≡ []
no_length xs [] e none = refl
no_length xs (y ∷ ys) e none = absurd (omega (arith, e, ap length none))

some_fields : (U : Columns) (row : Row) → finmap.keys U ≢ [] → Fits U row → record_of row ≢ []
some_fields U row some fit none =
    let long : length (record_of row) ≡ length (finmap.keys U) =
    length-map (finmap.values row) field_of ∙ length-map (finmap.entries row) (λ e. e.1) ∙ sym (length-map (finmap.entries row) (λ e. e.0)) ∙ ap length (fits_keys U row fit) in
    some (no_length (record_of row) (finmap.keys U) long none)

mapped : (P : Record → Type 0) (rows : List Row) → AllByRecursion (λ row. P (record_of row)) rows → AllByRecursion P (map record_of rows)
mapped P [] all = tt
mapped P (row ∷ rows) all = (all.0, mapped P rows all.1)

no_bom : (names : List (List ℕ)) (rest : List Record) → names ≢ [] → list_all is_name names ≡ true → strip_bom (text_of (names ∷ rest)) ≡ text_of (names ∷ rest)
no_bom [] rest some all = absurd (some refl)
no_bom (n ∷ names) rest some all = mark_free n names (text_of rest) (and_parts (is_name n) _ all).0

-- ---- the law

pub sheets_read_back : SheetsReadBack
unfolding sheet unsheet
sheets_read_back U M h =
    let full_rows = along_members (λ row. record_of row ≢ []) (set.items M) (λ row there. some_fields U row h.some (h.fit row (set.contains-items M row ∙ there))) in
    let back = along_members (λ row. row_in U (finmap.keys U) (record_of row) ≡ Some row) (set.items M)
    (λ row there. row_back U row h.plain (h.fit row (set.contains-items M row ∙ there)) (h.right.values row (set.contains-items M row ∙ there))) in
    ap (λ t. rows_of_records U (records default_config t)) (no_bom (finmap.keys U) (map record_of (set.items M)) h.some h.right.names)
    ∙ ap (rows_of_records U) (written_are_read (records_of U (set.items M))
    ∙ all_full (records_of U (set.items M)) (h.some, mapped (λ r. r ≢ []) (set.items M) full_rows))
    ∙ ap (λ b. cond b (as_set (rows_from 1 U (finmap.keys U) (map record_of (set.items M)))) (Err 0)) (names_head U)
    ∙ ap as_set (rows_back U 1 (set.items M) back)
    ∙ ap (λ s. Ok s) (set.from_list-items row_cmp_total row_cmp-IsAntisymmetric M)
