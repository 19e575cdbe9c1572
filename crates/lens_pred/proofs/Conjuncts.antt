-- Predicates, which are lists, beside the lists of formulas inside a formula.
use Rattle.std.proofs.Common.{◌≡◌, ℕ, suc, ◌+◌, ◌<◌, ◌≤◌, Bool, true, false, cond, List, [], ◌∷◌, ◌++◌, map, length, Option, Some, None, refl, sym, ap, ◌∙◌, arith, not, ◌&&◌, ◌||◌, find, is_some, filter, position, option_map}
use Rattle.plain_values.proofs.Common.{list_any, list_all, position_from, position_from-zero, option_or, eq_by_cmp, find-append, list_any-append, bytes_cmp, Row, first_holds, second_holds}
use Rattle.lens_specs.specs.Common.{Name, is_among, Columns, Formula, Predicate, holds, names_in, names_of, names_of_all, mentions, formula_mentions, unlike_kinds, first_mixed, formula_holds, all_hold, nodes_of_all, predicate_nodes, unlike, unlike_all, or_name, is_mixed}
use Rattle.lens_specs.specs.Predicate.{formula_nodes}
use Rattle.lens_pred.specs.NormalForm.{none_is, has_two}
use Rattle.lens_pred.specs.View.{list_view, predicate_view}
use Rattle.lens_pred.specs.declared.formula.Formula.{Formula as Declared}

-- ---- tests

-- ---- searches

-- what is found in front is found
pub find_front : {X : Type 0} (p : X → Bool) (xs ys : List X) (x : X) → find p xs ≡ Some x → find p (xs ++ ys) ≡ Some x
find_front p xs ys x h = find-append p xs ys ∙ ap (λ o. option_or o (find p ys)) h

-- where nothing is found in front, the rest decides
pub find_behind : {X : Type 0} (p : X → Bool) (xs ys : List X) → find p xs ≡ None → find p (xs ++ ys) ≡ find p ys
find_behind p xs ys h = find-append p xs ys ∙ ap (λ o. option_or o (find p ys)) h

is_some-cond : {X : Type 0} (b : Bool) (x : X) (o : Option X) → is_some (cond b (Some x) o) ≡ (b || is_some o)
is_some-cond true x o = refl
is_some-cond false x o = refl

-- something is found exactly where something passes
pub is_some-find : {X : Type 0} (p : X → Bool) (xs : List X) → is_some (find p xs) ≡ list_any p xs
is_some-find p [] = refl
is_some-find p (x ∷ xs) = is_some-cond (p x) x (find p xs) ∙ ap (λ b. p x || b) (is_some-find p xs)

either_fails : (a b : Bool) → (not a || not b) ≡ not (a && b)
either_fails true b = refl
either_fails false b = refl

some_fails : {X : Type 0} (p : X → Bool) (xs : List X) → is_some (find (λ x. not (p x)) xs) ≡ not (list_all p xs)
some_fails p [] = refl
some_fails p (x ∷ xs) = is_some-cond (not (p x)) x (find (λ x. not (p x)) xs) ∙ ap (λ b. not (p x) || b) (some_fails p xs) ∙ either_fails (p x) (list_all p xs)

same_not : (a b : Bool) → not a ≡ not b → b ≡ a
same_not true true e = refl
same_not true false e = cc
same_not false true e = cc
same_not false false e = refl

-- nothing that fails is found exactly where all pass
pub none_fails : {X : Type 0} (p : X → Bool) (xs : List X) (b : Bool) → is_some (find (λ x. not (p x)) xs) ≡ not b → b ≡ list_all p xs
none_fails p xs b e = same_not (list_all p xs) b (sym (some_fails p xs) ∙ e)

-- ---- a predicate has the rows, names, nodes and faults of kind that the list of its formulas has

pub holds-list_view : (P : Predicate) (r : Row) → all_hold (list_view P) r ≡ holds P r
holds-list_view [] r = refl
holds-list_view (f ∷ fs) r = ap (λ b. formula_holds f r && b) (holds-list_view fs r)

pub names-list_view : (P : Predicate) → names_of_all (list_view P) ≡ names_of P
names-list_view [] = refl
names-list_view (f ∷ fs) = ap (λ ns. names_in f ++ ns) (names-list_view fs)

pub nodes-list_view : (P : Predicate) → nodes_of_all (list_view P) ≡ predicate_nodes P
nodes-list_view [] = refl
nodes-list_view (f ∷ fs) = ap (λ n. formula_nodes f + n) (nodes-list_view fs)

pub unlike-list_view : (U : Columns) (P : Predicate) → unlike_all U (list_view P) ≡ unlike_kinds U P
unlike-list_view U [] = refl
unlike-list_view U (f ∷ fs) = ap (or_name (unlike U f)) (unlike-list_view U fs)

-- no formula of the list passes exactly where each fails
pub none_is-list_view : (p : Formula → Bool) (P : Predicate) → none_is p (list_view P) ≡ list_all (λ f. not (p f)) P
none_is-list_view p [] = refl
none_is-list_view p (f ∷ fs) = ap (λ b. not (p f) && b) (none_is-list_view p fs)

-- ---- mentions

-- a name is mentioned where it is among the names
pub among-names_of : (P : Predicate) (n : Name) → is_among n (names_of P) ≡ mentions P n
among-names_of [] n = refl
among-names_of (f ∷ fs) n = list_any-append (eq_by_cmp bytes_cmp n) (names_in f) (names_of fs) ∙ ap (λ b. formula_mentions f n || b) (among-names_of fs n)

-- ---- lengths

-- there are two formulas or more
pub has_two-list_view : (fs : List Declared) → 2 ≤ length fs → true ≡ has_two (list_view (predicate_view fs))
has_two-list_view [] h = absurd (omega arith)
has_two-list_view (f ∷ []) h = absurd (omega arith)
has_two-list_view (f ∷ g ∷ fs) h = refl

-- there are fewer
pub has_not_two-list_view : (fs : List Declared) → length fs < 2 → false ≡ has_two (list_view (predicate_view fs))
has_not_two-list_view [] h = refl
has_not_two-list_view (f ∷ []) h = refl
has_not_two-list_view (f ∷ g ∷ fs) h = absurd (omega arith)

-- ---- places

later : {X : Type 0} (p : X → Bool) (n : ℕ) (xs : List X) → position_from p (n + 1) xs ≡ option_map suc (position_from p n xs)
later p n [] = refl
later p n (x ∷ xs) = elim (p x) as (λ b. cond b (Some (n + 1)) (position_from p (n + 1 + 1) xs) ≡ option_map suc (cond b (Some n) (position_from p (n + 1) xs))) [
  | true ↦ ap Some (omega arith)
  | false ↦ later p (n + 1) xs
]

-- the first place of a list, from its first element and its rest
pub position-cons : {X : Type 0} (p : X → Bool) (x : X) (xs : List X) → position p (x ∷ xs) ≡ cond (p x) (Some 0) (option_map suc (position p xs))
position-cons p x xs =
    position_from-zero p (x ∷ xs)
    ∙ ap (λ o. cond (p x) (Some 0) o) (later p 0 xs ∙ ap (option_map suc) (sym (position_from-zero p xs)))

-- the first place of what f makes of a list
pub position-map : {X Y : Type 0} (p : Y → Bool) (f : X → Y) (xs : List X) → position p (map f xs) ≡ position (λ x. p (f x)) xs
position-map p f [] = refl
position-map p f (x ∷ xs) =
    position-cons p (f x) (map f xs) ∙ ap (λ o. cond (p (f x)) (Some 0) (option_map suc o)) (position-map p f xs) ∙ sym (position-cons (λ y. p (f y)) x xs)

-- the first mixed formula
pub position-is_mixed : (A : Name) (P : Predicate) → position (is_mixed A) P ≡ first_mixed A P
position-is_mixed A [] = refl
position-is_mixed A (f ∷ fs) = position-cons (is_mixed A) f fs ∙ ap (λ o. cond (is_mixed A f) (Some 0) (option_map suc o)) (position-is_mixed A fs)

none_out_at : (b : Bool) (o : Option ℕ) → cond (not b) (Some 0) (option_map suc o) ≡ None → (b ≡ true) × (o ≡ None)
none_out_at true None h = (refl, refl)
none_out_at true (Some n) h = cc
none_out_at false o h = cc

-- where none is out, all are in
pub all_in : {X : Type 0} (p : X → Bool) (xs : List X) → position (λ x. not (p x)) xs ≡ None → list_all p xs ≡ true
all_in p [] h = refl
all_in p (x ∷ xs) h =
    let both = none_out_at (p x) (position (λ y. not (p y)) xs) (sym (position-cons (λ y. not (p y)) x xs) ∙ h) in
    ap (λ b. b && list_all p xs) both.0 ∙ all_in p xs both.1

-- ---- parts

-- what holds of each holds of each that is kept
pub all_of_kept : {X : Type 0} (p q : X → Bool) (xs : List X) → list_all p xs ≡ true → list_all p (filter q xs) ≡ true
all_of_kept p q [] h = refl
all_of_kept p q (x ∷ xs) h =
    elim (q x) as (λ b. list_all p (cond b (x ∷ filter q xs) (filter q xs)) ≡ true) [
      | true ↦ ap (λ b. b && list_all p (filter q xs)) (first_holds (p x) (list_all p xs) h) ∙ all_of_kept p q xs (second_holds (p x) (list_all p xs) h)
      | false ↦ all_of_kept p q xs (second_holds (p x) (list_all p xs) h)
    ]
