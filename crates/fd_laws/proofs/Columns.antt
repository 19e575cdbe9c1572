-- Laws of columns, by the kind that each has.
use Rattle.std.proofs.Common.{◌≡◌, true, false, cond, List, [], ◌∷◌, ◌++◌, Option, Some, None, refl, sym, ap, ◌∙◌, inl, inr, is_some}
use Rattle.plain_values.proofs.Common.{cases_Bool, true≢false, or_left, false_from_ne_true, eq_by_cmp, bytes_cmp, Row, absurd_false, fits_same, none_fits, same_bool}
use Rattle.std.specs.FinMap as map
use Rattle.plain_values.specs.SortedSet as set
use Rattle.plain_values.specs.declared.value.Kind.{Kind}
use Rattle.fd_laws.proofs.Names.{name_total, name_exact, name_itself, one_is, in_rest, from_rest, in_left, in_right, in_neither}
use Rattle.fd_laws.proofs.Rows.{at-cut, no_value}
use Rattle.lens_specs.specs.Common.{Name, Names, one, at, cut, Columns, names, Fits, without_column, both_columns}
use Rattle.plain_values.proofs.FitsLemmas.{fits_some}

-- a column is there where it has a kind
pub names-get : (U : Columns) (c : Name) → set.contains (names U) c ≡ is_some (map.get U c)
unfolding names
names-get U c = set.contains-from_list name_total (map.keys U) c ∙ sym (map.contains_key-keys U c)

-- a row that fits has a value in exactly the columns
pub fits_names : (U : Columns) (r : Row) → Fits U r → (c : Name) → is_some (at r c) ≡ set.contains (names U) c
fits_names U r h c = fits_some (at r c) (map.get U c) (h c) ∙ sym (names-get U c)

pub no_kind : (U : Columns) (c : Name) → set.contains (names U) c ≡ false → map.get U c ≡ None
no_kind U c o = none (map.get U c) (sym (names-get U c) ∙ o)
  where
    none : (k : Option Kind) → is_some k ≡ false → k ≡ None
    none None e = refl
    none (Some k) e = absurd (true≢false e)

-- a row that fits has no value elsewhere
pub fits_none : (U : Columns) (r : Row) → Fits U r → (c : Name) → set.contains (names U) c ≡ false → at r c ≡ None
fits_none U r h c o = no_value (at r c) (fits_names U r h c ∙ o)

-- ---- a column less
pub get-without : (U : Columns) (A c : Name) → map.get (without_column U A) c ≡ cond (eq_by_cmp bytes_cmp c A) None (map.get U c)
get-without U A c = map.get-remove name_total U A c

pub get-without_other : (U : Columns) (A c : Name) → set.contains (one A) c ≡ false → map.get (without_column U A) c ≡ map.get U c
get-without_other U A c o = get-without U A c ∙ ap (λ b. cond b None (map.get U c)) (false_from_ne_true (eq_by_cmp bytes_cmp c A) (λ t. absurd_false _ (set.contains-insert name_total set.empty A c ∙ or_left _ _ t) o))

pub get-without_same : (U : Columns) (A : Name) → map.get (without_column U A) A ≡ None
get-without_same U A = get-without U A A ∙ ap (λ b. cond b None (map.get U A)) (name_itself A)

pub names-without : (U : Columns) (A : Name) → names (without_column U A) ≡ set.difference (names U) (one A)
names-without U A = set.same_set name_total name_exact _ _ (λ c. names-get (without_column U A) c ∙ elim (cases_Bool (set.contains (one A) c)) [
  | inr o ↦ ap is_some (get-without_other U A c o) ∙ sym (names-get U c) ∙ sym (same_bool _ _ (λ i. (from_rest (names U) (one A) c i).0) (λ i. in_rest (names U) (one A) c i o))
  | inl t ↦ ap (λ d. is_some (map.get (without_column U A) d)) (one_is A c t) ∙ ap is_some (get-without_same U A)
      ∙ sym (false_from_ne_true _ (λ i. absurd_false _ t (from_rest (names U) (one A) c i).1))
])

-- ---- the columns of both
pub find-append : {X : Type 0} (es fs : List (Name × X)) (c : Name) → map.find bytes_cmp c (es ++ fs) ≡ cond (is_some (map.find bytes_cmp c es)) (map.find bytes_cmp c es) (map.find bytes_cmp c fs)
find-append [] fs c = refl
find-append (e ∷ es) fs c = elim (eq_by_cmp bytes_cmp c e.0) as (λ b. cond b (Some e.1) (map.find bytes_cmp c (es ++ fs)) ≡ cond (is_some (cond b (Some e.1) (map.find bytes_cmp c es))) (cond b (Some e.1) (map.find bytes_cmp c es)) (map.find bytes_cmp c fs)) [
  | true ↦ refl
  | false ↦ find-append es fs c
]

pub get-both : (U V : Columns) (c : Name) → map.get (both_columns U V) c ≡ cond (is_some (map.get U c)) (map.get U c) (map.get V c)
unfolding both_columns
get-both U V c = map.get-from_entries name_total (map.entries U ++ map.entries V) c ∙ find-append (map.entries U) (map.entries V) c
    ∙ ap (λ o. cond (is_some o) o (map.find bytes_cmp c (map.entries V))) (sym (map.get-entries U c))
    ∙ ap (λ o. cond (is_some (map.get U c)) (map.get U c) o) (sym (map.get-entries V c))

pub get-both_left : (U V : Columns) (c : Name) → set.contains (names U) c ≡ true → map.get (both_columns U V) c ≡ map.get U c
get-both_left U V c i = get-both U V c ∙ ap (λ b. cond b (map.get U c) (map.get V c)) (sym (names-get U c) ∙ i)

pub get-both_right : (U V : Columns) (c : Name) → set.contains (names U) c ≡ false → map.get (both_columns U V) c ≡ map.get V c
get-both_right U V c o = get-both U V c ∙ ap (λ b. cond b (map.get U c) (map.get V c)) (sym (names-get U c) ∙ o)

pub names-both : (U V : Columns) → names (both_columns U V) ≡ set.union (names U) (names V)
names-both U V = set.same_set name_total name_exact _ _ (λ c. names-get (both_columns U V) c ∙ elim (cases_Bool (set.contains (names U) c)) [
  | inl i ↦ ap is_some (get-both_left U V c i) ∙ sym (names-get U c) ∙ i ∙ sym (in_left (names U) (names V) c i)
  | inr o ↦ ap is_some (get-both_right U V c o) ∙ sym (names-get V c) ∙ elim (cases_Bool (set.contains (names V) c)) [
    | inl j ↦ j ∙ sym (in_right (names U) (names V) c j)
    | inr p ↦ p ∙ sym (in_neither (names U) (names V) c o p)
  ]
])

-- a row cut down, where W has the same kinds on C as U, and U has no others
pub fits_cut : (U W : Columns) (C : Names) (r : Row) → Fits W r → ((c : Name) → set.contains C c ≡ true → map.get W c ≡ map.get U c)
    → ((c : Name) → set.contains C c ≡ false → map.get U c ≡ None) → Fits U (cut C r)
fits_cut U W C r h inside outside c = elim (cases_Bool (set.contains C c)) [
  | inl i ↦ fits_same _ _ _ _ (sym (at-cut C r c ∙ ap (λ b. cond b (at r c) None) i)) (inside c i) (h c)
  | inr o ↦ none_fits _ _ (at-cut C r c ∙ ap (λ b. cond b (at r c) None) o) (outside c o)
]
