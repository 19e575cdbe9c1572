-- The header that is written is one, and no byte order mark.
use Rattle.std.proofs.Common.{◌≡◌, ℕ, Bool, true, false, List, [], ◌∷◌, ◌++◌, length, refl, ap, ◌∙◌, arith, inl, inr, ◌&&◌, ◌||◌, ◌==◌, not, nat_le}
use Rattle.plain_values.proofs.Common.{list_all, list_any, bytes_decides, and_from, and_parts, cases_Bool, nat_tests, is_lower, is_name}
use Rattle.std.specs.FinMap as finmap
use Rattle.csv.specs.Reading.{strip_bom}
use Rattle.csv.specs.Writing.{default_writer, needs_byte, row_text}
use Rattle.lens_specs.specs.Common.{Columns, Name}
use Rattle.csv_specs.specs.Fields.{is_same}
use Rattle.csv_specs.specs.Sheets.{Record, is_header}

-- ---- the names of the columns are a header

same_itself : (name : Name) → is_same name name ≡ true
same_itself name = (bytes_decides name name).1 refl

or-true : (a : Bool) → (a || true) ≡ true
or-true true = refl
or-true false = refl

one_more : (header : Record) (h : Name) (names : List Name) → list_all (λ name. list_any (is_same name) header) names ≡ true → list_all (λ name. list_any (is_same name) (h ∷ header)) names ≡ true
one_more header h [] all = refl
one_more header h (n ∷ names) all =
    let parts = and_parts (list_any (is_same n) header) _ all in
    and_from _ _ (ap (λ b. is_same n h || b) parts.0 ∙ or-true (is_same n h)) (one_more header h names parts.1)

each_there : (names : List Name) → list_all (λ name. list_any (is_same name) names) names ≡ true
each_there [] = refl
each_there (n ∷ names) = and_from _ _ (ap (λ b. b || list_any (is_same n) names) (same_itself n)) (one_more names n names (each_there names))

eqb_itself : (n : ℕ) → (n == n) ≡ true
eqb_itself n = grind (arith, nat_tests)

pub names_head : (U : Columns) → is_header U (finmap.keys U) ≡ true
names_head U = and_from _ _ (eqb_itself (length (finmap.keys U))) (each_there (finmap.keys U))

-- ---- a text that begins with a name

no_mark : (a : ℕ) (xs : List ℕ) → (a == 239) ≡ false → strip_bom (a ∷ xs) ≡ a ∷ xs
unfolding strip_bom
no_mark a [] e = refl
no_mark a (b ∷ []) e = refl
no_mark a (b ∷ c ∷ rest) e = rw e refl

no_mark_first : (b : ℕ) → is_lower b ≡ true → (b == 239) ≡ false
no_mark_first b h = grind (arith, nat_tests)

first_byte : (b : ℕ) (bytes : List ℕ) → is_name (b ∷ bytes) ≡ true → is_lower b ≡ true
first_byte b bytes h = (and_parts (is_lower b) _ (and_parts (not (length (b ∷ bytes) == 0) && nat_le (length (b ∷ bytes)) 32) _ h).1).0

no_empty_name : {P : Type 0} → is_name [] ≡ true → P
no_empty_name h = cc

-- its first byte begins no byte order mark, in quotation marks or not
pub mark_free : (name : Name) (rest : Record) (tail : List ℕ) → is_name name ≡ true → strip_bom (row_text default_writer (name ∷ rest) ++ tail) ≡ row_text default_writer (name ∷ rest) ++ tail
mark_free [] rest tail h = no_empty_name h
mark_free (b ∷ bytes) rest tail h = elim (cases_Bool (list_any (needs_byte default_writer) (b ∷ bytes))) [
  | inl needs ↦ rw needs (no_mark 34 _ refl)
  | inr plain ↦ rw plain (no_mark b _ (no_mark_first b (first_byte b bytes h)))
]
