-- The test of the rule of sorts finds none exactly where all conjuncts are steady.
use Rattle.std.proofs.Common.{◌≡◌, Bool, true, false, cond, not, List, [], ◌∷◌, refl, ap, ◌∙◌, sym, inl, inr, None}
use Rattle.plain_values.proofs.Common.{or_cases, or_parts, and_parts, and_from, true≢false, not-true, not_from_false, or_left, or_right, false_from_ne_true, list_all, list_any, filter, find, eq_by_cmp, bytes_cmp, any_at, any_from, find_none, absurd_false}
use Rattle.plain_values.specs.SortedSet as set
use Rattle.fd_laws.proofs.Common.{name_itself, tied_name, Among}
use Rattle.lens_specs.specs.Common.{Edge, Name, is_among, Formula, Predicate, names_in, mentions, formula_mentions, unsteady, outputs, is_steady}
use Rattle.lens_laws.specs.Passes.{AllFormulas, IsSteady}

-- ---- all names of a list
all_at : (p : Name → Bool) (ns : List Name) → list_all p ns ≡ true → (c : Name) → is_among c ns ≡ true → p c ≡ true
all_at p [] h c i = absurd (true≢false (sym i))
all_at p (n ∷ ns) h c i =
    let w = and_parts (p n) (list_all p ns) h in
    elim (or_cases (eq_by_cmp bytes_cmp c n) (is_among c ns) i) [
      | inl t ↦ ap p (tied_name c n t) ∙ w.0
      | inr j ↦ all_at p ns w.1 c j
    ]

all_from : (p : Name → Bool) (ns : List Name) → ((c : Name) → is_among c ns ≡ true → p c ≡ true) → list_all p ns ≡ true
all_from p [] h = refl
all_from p (n ∷ ns) h = and_from (p n) (list_all p ns) (h n (or_left _ _ (name_itself n))) (all_from p ns (λ c i. h c (or_right (eq_by_cmp bytes_cmp c n) _ i)))

-- ---- one formula
from_right : (ns : List Name) (T : List Edge) → list_any (λ e. list_all (set.contains e.right) ns) T ≡ true
    → (e : Edge) × Among e T × ((c : Name) → is_among c ns ≡ true → set.contains e.right c ≡ true)
from_right ns [] h = absurd (true≢false (sym h))
from_right ns (e ∷ es) h = elim (or_cases (list_all (set.contains e.right) ns) (list_any (λ e. list_all (set.contains e.right) ns) es) h) [
  | inl i ↦ (e, inl refl, all_at (set.contains e.right) ns i)
  | inr i ↦ let w = from_right ns es i in (w.0, inr w.1, w.2)
]

in_right : (ns : List Name) (T : List Edge) (e : Edge) → Among e T → ((c : Name) → is_among c ns ≡ true → set.contains e.right c ≡ true) → list_any (λ e. list_all (set.contains e.right) ns) T ≡ true
in_right ns [] e i h = absurd i
in_right ns (k ∷ ks) e i h = elim i [
  | inl is ↦ or_left _ _ (ap (λ z. list_all (set.contains z.right) ns) (sym is) ∙ all_from (set.contains e.right) ns h)
  | inr j ↦ or_right (list_all (set.contains k.right) ns) _ (in_right ns ks e j h)
]

steady_if : (T : List Edge) (f : Formula) → is_steady T f ≡ true → IsSteady T f
steady_if T f h = elim (or_cases (not (list_any (set.contains (outputs T)) (names_in f))) (list_any (λ e. list_all (set.contains e.right) (names_in f)) T) h) [
  | inl n ↦ inl (λ c o. false_from_ne_true _ (λ m. absurd_false _ (any_at (eq_by_cmp bytes_cmp) tied_name name_itself (set.contains (outputs T)) (names_in f) c m o) (not-true _ n)))
  | inr j ↦ inr (from_right (names_in f) T j)
]

if_steady : (T : List Edge) (f : Formula) → IsSteady T f → is_steady T f ≡ true
if_steady T f h = elim h [
  | inl ignores ↦ or_left _ _ (not_from_false _ (false_from_ne_true _ (λ t. let w = any_from (eq_by_cmp bytes_cmp) tied_name name_itself (set.contains (outputs T)) (names_in f) t in absurd_false _ w.1 (ignores w.0 w.2))))
  | inr w ↦ or_right (not (list_any (set.contains (outputs T)) (names_in f))) _ (in_right (names_in f) T w.0 w.1 w.2)
]

-- ---- all conjuncts
abbrev others : List Edge → Predicate → Predicate
others T P = filter (λ f. not (is_steady T f)) P

all_steady : (P : Predicate) (T : List Edge) → ((c : Name) → set.contains (outputs T) c ≡ true → mentions (others T P) c ≡ false) → AllFormulas (IsSteady T) P
all_steady [] T h = tt
all_steady (f ∷ fs) T h =
    elim (is_steady T f) as (λ b. is_steady T f ≡ b → ((c : Name) → set.contains (outputs T) c ≡ true → mentions (cond (not b) (f ∷ others T fs) (others T fs)) c ≡ false) → AllFormulas (IsSteady T) (f ∷ fs)) [
      | true ↦ λ t i. (steady_if T f t, all_steady fs T i)
      | false ↦ λ _ i. (inl (λ c o. (or_parts (formula_mentions f c) _ (i c o)).0), all_steady fs T (λ c o. (or_parts (formula_mentions f c) _ (i c o)).1))
    ] refl h

no_others : (P : Predicate) (T : List Edge) → AllFormulas (IsSteady T) P → others T P ≡ []
no_others [] T h = refl
no_others (f ∷ fs) T h = ap (λ b. cond (not b) (f ∷ others T fs) (others T fs)) (if_steady T f h.0) ∙ no_others fs T h.1

none_mentioned : (ns : List Name) → find (mentions []) ns ≡ None
none_mentioned [] = refl
none_mentioned (n ∷ ns) = none_mentioned ns

pub steady_from : (P : Predicate) (T : List Edge) → unsteady P T ≡ None → AllFormulas (IsSteady T) P
steady_from P T e = all_steady P T (λ c o. find_none (eq_by_cmp bytes_cmp) tied_name name_itself (mentions (others T P)) (set.items (outputs T)) e c (sym (set.contains-items (outputs T) c) ∙ o))

pub from_steady : (P : Predicate) (T : List Edge) → AllFormulas (IsSteady T) P → unsteady P T ≡ None
from_steady P T h = ap (λ Q. find (mentions Q) (set.items (outputs T))) (no_others P T h) ∙ none_mentioned (set.items (outputs T))
