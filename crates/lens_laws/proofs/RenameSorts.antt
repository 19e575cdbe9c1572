-- A rename of sorts: the predicate and the tree with the new name say of a row what the old ones say of it turned back.
use Rattle.std.proofs.Common.{◌≡◌, true, false, cond, not, ◌&&◌, ◌||◌, List, [], ◌∷◌, ◌++◌, Some, None, refl, sym, ap, ◌∙◌, inl, inr, is_some, arith}
use Rattle.plain_values.proofs.Common.{cases_Bool, or_cases, true≢false, or_left, or_right, false_from_ne_true, eq_by_cmp, bytes_cmp, Row, absurd_false, in_append_left, in_append_right, from_append, same_bool, or_no}
use Rattle.std.specs.FinMap as finmap
use Rattle.plain_values.specs.SortedSet as set
use Rattle.fd_laws.proofs.Common.{names-get, name_total, name_exact, name_itself, tied_name, other_name, in_renamed, from_renamed, renamed_is_tree}
use Rattle.fd_laws.proofs.Renames.{renamed_edges_within}
use Rattle.lens_laws.proofs.Rename.{get-renamed, at-back, rename_lawful}
use Rattle.lens_laws.proofs.Sorts.{lawful_of}
use Rattle.lens_specs.specs.Common.{Columns, names, Name, is_among, Formula, truth, falsity, compare, compare_columns, one_of, null_at, negation, all_of, any_of, Formulas, no_formulas, formulas, holds, names_in, names_of_all, Predicate, mentions, formula_mentions, at, Sort, IsOf, renamed, renamed_names, renamed_row, renamed_columns, renamed_predicate, rename_get, rename_put, rename_sort, compared, has_null, is_one_of, formula_holds, all_hold, any_holds, renamed_formula, renamed_formulas}
use Rattle.lens_laws.specs.Passes.{IsSound}
use Rattle.lens_laws.specs.Rename.{CanRename, rename_shape}
use Rattle.lens_laws.specs.Shapes.{shape_of, IsLawfulNode}

-- ---- predicates
abbrev Lacks : List Name → Name → Type 0
Lacks ns B = (c : Name) → is_among c ns ≡ true → eq_by_cmp bytes_cmp c B ≡ false

lacks_first : (xs ys : List Name) (B : Name) → Lacks (xs ++ ys) B → Lacks xs B
lacks_first xs ys B h c i = h c (in_append_left (eq_by_cmp bytes_cmp) tied_name name_itself c xs ys i)

lacks_second : (xs ys : List Name) (B : Name) → Lacks (xs ++ ys) B → Lacks ys B
lacks_second xs ys B h c i = h c (in_append_right (eq_by_cmp bytes_cmp) tied_name name_itself c xs ys i)

mutual
  formula_renamed : (f : Formula) (A B : Name) (r : Row) → Lacks (names_in f) B → formula_holds (renamed_formula A B f) r ≡ formula_holds f (renamed_row B A r)
  formula_renamed truth A B r h = refl
  formula_renamed falsity A B r h = refl
  formula_renamed (compare c op v) A B r h = ap (λ o. compared op o (Some v)) (sym (at-back A B r c (h c (or_left _ _ (name_itself c)))))
  formula_renamed (compare_columns c op d) A B r h =
      ap (λ o. compared op o (at r (renamed A B d))) (sym (at-back A B r c (h c (or_left _ _ (name_itself c)))))
      ∙ ap (compared op (at (renamed_row B A r) c)) (sym (at-back A B r d (h d (or_right (eq_by_cmp bytes_cmp d c) _ (or_left _ _ (name_itself d))))))
  formula_renamed (one_of c vs) A B r h = ap (is_one_of vs) (sym (at-back A B r c (h c (or_left _ _ (name_itself c)))))
  formula_renamed (null_at c) A B r h = ap has_null (sym (at-back A B r c (h c (or_left _ _ (name_itself c)))))
  formula_renamed (negation f) A B r h = ap not (formula_renamed f A B r h)
  formula_renamed (all_of fs) A B r h = all_renamed fs A B r h
  formula_renamed (any_of fs) A B r h = any_renamed fs A B r h

  all_renamed : (fs : Formulas) (A B : Name) (r : Row) → Lacks (names_of_all fs) B → all_hold (renamed_formulas A B fs) r ≡ all_hold fs (renamed_row B A r)
  all_renamed no_formulas A B r h = refl
  all_renamed (formulas f fs) A B r h =
      ap (λ x. x && all_hold (renamed_formulas A B fs) r) (formula_renamed f A B r (lacks_first (names_in f) (names_of_all fs) B h))
      ∙ ap (λ x. formula_holds f (renamed_row B A r) && x) (all_renamed fs A B r (lacks_second (names_in f) (names_of_all fs) B h))

  any_renamed : (fs : Formulas) (A B : Name) (r : Row) → Lacks (names_of_all fs) B → any_holds (renamed_formulas A B fs) r ≡ any_holds fs (renamed_row B A r)
  any_renamed no_formulas A B r h = refl
  any_renamed (formulas f fs) A B r h =
      ap (λ x. x || any_holds (renamed_formulas A B fs) r) (formula_renamed f A B r (lacks_first (names_in f) (names_of_all fs) B h))
      ∙ ap (λ x. formula_holds f (renamed_row B A r) || x) (any_renamed fs A B r (lacks_second (names_in f) (names_of_all fs) B h))

pub predicate_renamed : (P : Predicate) (A B : Name) (r : Row) → ((c : Name) → mentions P c ≡ true → eq_by_cmp bytes_cmp c B ≡ false) → holds (renamed_predicate A B P) r ≡ holds P (renamed_row B A r)
predicate_renamed [] A B r h = refl
predicate_renamed (f ∷ fs) A B r h =
    ap (λ x. x && holds (renamed_predicate A B fs) r) (formula_renamed f A B r (λ c i. h c (or_left _ _ i)))
    ∙ ap (λ x. formula_holds f (renamed_row B A r) && x) (predicate_renamed fs A B r (λ c i. h c (or_right _ _ i)))

-- ---- what a renamed predicate mentions
abbrev From : Name → Name → List Name → Name → Type 0
From A B ns q = (c : Name) × (is_among c ns ≡ true) × (q ≡ renamed A B c)

from_one : (A B c q : Name) → eq_by_cmp bytes_cmp q (renamed A B c) ≡ true → From A B (c ∷ []) q
from_one A B c q e = (c, or_left _ _ (name_itself c), tied_name q (renamed A B c) e)

from_first : (A B : Name) (xs ys : List Name) (q : Name) → From A B xs q → From A B (xs ++ ys) q
from_first A B xs ys q w = (w.0, in_append_left (eq_by_cmp bytes_cmp) tied_name name_itself w.0 xs ys w.1, w.2)

from_second : (A B : Name) (xs ys : List Name) (q : Name) → From A B ys q → From A B (xs ++ ys) q
from_second A B xs ys q w = (w.0, in_append_right (eq_by_cmp bytes_cmp) tied_name name_itself w.0 xs ys w.1, w.2)

mutual
  names_renamed : (f : Formula) (A B q : Name) → is_among q (names_in (renamed_formula A B f)) ≡ true → From A B (names_in f) q
  names_renamed truth A B q i = absurd (true≢false (sym i))
  names_renamed falsity A B q i = absurd (true≢false (sym i))
  names_renamed (compare c op v) A B q i = from_one A B c q (or_no _ i)
  names_renamed (compare_columns c op d) A B q i = elim (or_cases (eq_by_cmp bytes_cmp q (renamed A B c)) (eq_by_cmp bytes_cmp q (renamed A B d) || false) i) [
    | inl e ↦ from_first A B (c ∷ []) (d ∷ []) q (from_one A B c q e)
    | inr e ↦ from_second A B (c ∷ []) (d ∷ []) q (from_one A B d q (or_no _ e))
  ]
  names_renamed (one_of c vs) A B q i = from_one A B c q (or_no _ i)
  names_renamed (null_at c) A B q i = from_one A B c q (or_no _ i)
  names_renamed (negation f) A B q i = names_renamed f A B q i
  names_renamed (all_of fs) A B q i = all_names_renamed fs A B q i
  names_renamed (any_of fs) A B q i = all_names_renamed fs A B q i

  all_names_renamed : (fs : Formulas) (A B q : Name) → is_among q (names_of_all (renamed_formulas A B fs)) ≡ true → From A B (names_of_all fs) q
  all_names_renamed no_formulas A B q i = absurd (true≢false (sym i))
  all_names_renamed (formulas f fs) A B q i = elim (from_append (eq_by_cmp bytes_cmp) tied_name name_itself q (names_in (renamed_formula A B f)) (names_of_all (renamed_formulas A B fs)) i) [
    | inl j ↦ from_first A B (names_in f) (names_of_all fs) q (names_renamed f A B q j)
    | inr j ↦ from_second A B (names_in f) (names_of_all fs) q (all_names_renamed fs A B q j)
  ]

pub mentions_renamed : (P : Predicate) (A B q : Name) → mentions (renamed_predicate A B P) q ≡ true → (c : Name) × (mentions P c ≡ true) × (q ≡ renamed A B c)
mentions_renamed [] A B q h = absurd (true≢false (sym h))
mentions_renamed (f ∷ fs) A B q h = elim (or_cases (formula_mentions (renamed_formula A B f) q) (mentions (renamed_predicate A B fs) q) h) [
  | inl i ↦ let w = names_renamed f A B q i in (w.0, or_left _ _ w.1, w.2)
  | inr i ↦ let w = mentions_renamed fs A B q i in (w.0, or_right (formula_mentions f w.0) _ w.1, w.2)
]

-- ---- columns
pub names-renamed : (A B : Name) (U : Columns) → set.contains (names U) A ≡ true → set.contains (names U) B ≡ false → names (renamed_columns A B U) ≡ renamed_names A B (names U)
names-renamed A B U a b = set.same_set name_total name_exact _ _ (λ c. names-get (renamed_columns A B U) c ∙ ap is_some (get-renamed A B U c) ∙ elim (cases_Bool (eq_by_cmp bytes_cmp c B)) [
  | inl t ↦
      ap (λ x. is_some (cond x (finmap.get U A) (cond (eq_by_cmp bytes_cmp c A) None (finmap.get U c)))) t ∙ sym (names-get U A) ∙ a
      ∙ sym (ap (set.contains (renamed_names A B (names U))) (tied_name c B t ∙ sym (ap (λ x. cond x B A) (name_itself A))) ∙ in_renamed A B (names U) A a)
  | inr f ↦
      ap (λ x. is_some (cond x (finmap.get U A) (cond (eq_by_cmp bytes_cmp c A) None (finmap.get U c)))) f
      ∙ elim (cases_Bool (eq_by_cmp bytes_cmp c A)) [
        | inl t ↦ ap (λ x. is_some (cond x None (finmap.get U c))) t ∙ sym (false_from_ne_true _ (λ i.
            let w = from_renamed A B (names U) c i in
            gone c w.0 w.1 t f w.2))
        | inr g ↦ ap (λ x. is_some (cond x None (finmap.get U c))) g ∙ sym (names-get U c) ∙ same_bool _ _
            (λ i. ap (set.contains (renamed_names A B (names U))) (sym (ap (λ x. cond x B c) g)) ∙ in_renamed A B (names U) c i)
            (λ i. let w = from_renamed A B (names U) c i in kept c w.0 w.1 f w.2)
      ]
])
  where
    -- the new name of a column is B or the column, and not A
    gone : (c d : Name) → set.contains (names U) d ≡ true → eq_by_cmp bytes_cmp c A ≡ true → eq_by_cmp bytes_cmp c B ≡ false → c ≡ renamed A B d → ⊥
    gone c d i t f is = elim (cases_Bool (eq_by_cmp bytes_cmp d A)) [
      | inl u ↦ absurd_false _ (ap (λ z. eq_by_cmp bytes_cmp z B) (is ∙ ap (λ x. cond x B d) u) ∙ name_itself B) f
      | inr u ↦ absurd_false _ (ap (λ z. eq_by_cmp bytes_cmp z A) (sym (is ∙ ap (λ x. cond x B d) u)) ∙ t) u
    ]

    kept : (c d : Name) → set.contains (names U) d ≡ true → eq_by_cmp bytes_cmp c B ≡ false → c ≡ renamed A B d → set.contains (names U) c ≡ true
    kept c d i f is = elim (cases_Bool (eq_by_cmp bytes_cmp d A)) [
      | inl u ↦ absurd_false _ (ap (λ z. eq_by_cmp bytes_cmp z B) (is ∙ ap (λ x. cond x B d) u) ∙ name_itself B) f
      | inr u ↦ ap (set.contains (names U)) (is ∙ ap (λ x. cond x B d) u) ∙ i
    ]

-- ---- sorts
module _ (s : Sort) (A B : Name) (sound : IsSound s) (column : set.contains (names s.columns) A ≡ true) (free : set.contains (names s.columns) B ≡ false) where
  pub can_rename : CanRename (shape_of s) A B
  can_rename = record { column = column; free = free; within = sound.within }

  pub rename_sort_is : shape_of (rename_sort s A B) ≡ rename_shape (shape_of s) A B
  rename_sort_is = grind (arith, predicate_renamed, other_name)

  pub rename_is_sound : IsSound (rename_sort s A B)
  rename_is_sound = grind (arith, renamed_is_tree, names-renamed, renamed_edges_within, mentions_renamed, in_renamed)

  pub rename_law : IsLawfulNode (λ M. IsOf M s) (λ N. IsOf N (rename_sort s A B)) (rename_get A B) (λ N M. rename_put A B N)
  rename_law = lawful_of s (rename_sort s A B) (rename_shape (shape_of s) A B) (rename_get A B) (λ N M. rename_put A B N) rename_sort_is (rename_lawful (shape_of s) A B can_rename)
