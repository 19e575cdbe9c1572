-- The text of rows, one more at a time.
use Rattle.std.proofs.Common.{◌≡◌, ◌<◌, ◌≤◌, ◌+◌, ◌∙◌, ℕ, Bool, true, List, [], ◌∷◌, ◌++◌, length, map, get_or, take, refl, sym, ap, inl, inr, ◌&&◌, ◌||◌, IsUtf8, Result, Ok, Err, IfOk}
use Rattle.std.specs.FinMap as finmap
use Rattle.plain_values.proofs.Common.{list_all, list_any, eq_by_cmp, is_utf8, and_from, and_parts, cases_Bool, append-nil, map-append, take_all, take_more, list_all-append, is_utf8-from_IsUtf8, is_text, row_cmp, Row, row_cmp-IsAntisymmetric, is_tie}
use Rattle.std.proofs.lemmas.Grind.{flat_map-append}
use Rattle.csv.specs.Writing.{default_writer, row_text}
use Rattle.plain_values.specs.SortedSet as set
use Rattle.lens_specs.specs.Common.{Columns, Rows, has}
use Rattle.csv_specs.specs.SheetLaws.{is_right}
use Rattle.csv_specs.specs.Sheets.{Record, record_of, sheet, text_of, unsheet}

-- one more row
pub text_more : (first : Record) (rows : List Row) (i : ℕ) (row : Row) → i < length rows → row ≡ get_or rows i row
    → text_of (first ∷ map record_of (take i rows)) ++ row_text default_writer (record_of row) ≡ text_of (first ∷ map record_of (take (i + 1) rows))
text_more first rows i row h is =
    let end : row_text default_writer (record_of row) ≡ text_of (map record_of (get_or rows i row ∷ [])) =
    ap (λ r. row_text default_writer (record_of r)) is ∙ sym (append-nil (row_text default_writer (record_of (get_or rows i row)))) in
    ap (λ t. text_of (first ∷ map record_of (take i rows)) ++ t) end
    ∙ sym (flat_map-append (row_text default_writer) (first ∷ map record_of (take i rows)) (map record_of (get_or rows i row ∷ [])))
    ∙ ap (λ rs. text_of (first ∷ rs)) (sym (map-append record_of (take i rows) (get_or rows i row ∷ [])) ∙ ap (map record_of) (sym (take_more rows i row h)))

-- all rows
pub text_whole : (U : Columns) (M : Rows) (rows : List Row) (i : ℕ) → rows ≡ set.items M → length rows ≤ i → text_of (finmap.keys U ∷ map record_of (take i rows)) ≡ sheet U M
unfolding sheet
text_whole U M rows i is past = ap (λ rs. text_of (finmap.keys U ∷ map record_of rs)) (take_all i rows past ∙ is)

-- what a text is, where it is given
pub text_given : {S E : Type 0} (bytes : S → List ℕ) (Written : List ℕ → Type 0) (r : Result S E) (a b : List ℕ) → IfOk r (λ t. (w : List ℕ) → Written w → bytes t ≡ w) → Written a → a ≡ b
    → IfOk r (λ t. bytes t ≡ b)
text_given bytes Written (Ok t) a b h is e = h a is ∙ e
text_given bytes Written (Err f) a b h is e = tt

-- and what it reads as
pub text_reads : {S E : Type 0} (bytes : S → List ℕ) (r : Result S E) (U : Columns) (M : Rows) → IfOk r (λ t. bytes t ≡ sheet U M) → unsheet U (sheet U M) ≡ Ok M
    → IfOk r (λ t. unsheet U (bytes t) ≡ Ok M)
text_reads bytes (Ok t) U M is law = ap (unsheet U) is ∙ law
text_reads bytes (Err f) U M is law = tt

-- ---- values that are right

abbrev are_right : Row → Bool
are_right row = list_all is_right (finmap.values row)

pub right_more : (rows : List Row) (i : ℕ) (row : Row) → i < length rows → row ≡ get_or rows i row → list_all (λ row. list_all is_right (finmap.values row)) (take i rows) ≡ true
    → list_all is_right (finmap.values row) ≡ true → list_all (λ row. list_all is_right (finmap.values row)) (take (i + 1) rows) ≡ true
right_more rows i row h is before here =
    ap (list_all are_right) (take_more rows i row h) ∙ list_all-append are_right (take i rows) (get_or rows i row ∷ [])
    ∙ and_from _ _ before (and_from _ true (ap are_right (sym is) ∙ here) refl)

member_passes : (p : Row → Bool) (rows : List Row) → list_all p rows ≡ true → (row : Row) → list_any (eq_by_cmp row_cmp row) rows ≡ true → p row ≡ true
member_passes p [] all row is = cc
member_passes p (r ∷ rows) all row is = elim (cases_Bool (eq_by_cmp row_cmp row r)) [
  | inl tie ↦ ap p (row_cmp-IsAntisymmetric row r (is_tie (row_cmp row r) tie)) ∙ (and_parts (p r) _ all).0
  | inr other ↦ member_passes p rows (and_parts (p r) _ all).1 row (sym (ap (λ b. b || list_any (eq_by_cmp row_cmp row) rows) other) ∙ is)
]

pub all_right : (M : Rows) (rows : List Row) (i : ℕ) → rows ≡ set.items M → length rows ≤ i → list_all (λ row. list_all is_right (finmap.values row)) (take i rows) ≡ true
    → (row : Row) → has M row ≡ true → list_all is_right (finmap.values row) ≡ true
all_right M rows i is past all row there =
    member_passes are_right (set.items M) (ap (list_all are_right) (sym is ∙ sym (take_all i rows past)) ∙ all) row (sym (set.contains-items M row) ∙ there)

-- the bytes of a text
pub text_right : (bytes : List ℕ) → IsUtf8 bytes → is_text bytes ≡ true → (is_utf8 bytes && is_text bytes) ≡ true
text_right bytes u t = and_from _ _ (is_utf8-from_IsUtf8 bytes u) t
