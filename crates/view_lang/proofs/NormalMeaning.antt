-- What a predicate means is in normal form.
use Rattle.std.proofs.Common.{◌≡◌, ℕ, suc, zero, Bool, true, false, List, [], ◌∷◌, ◌++◌, length, refl, subst, not, ◌&&◌, codes, Option, Some, None}
use Rattle.plain_values.proofs.Common.{list_all, and_from, first_holds, second_holds}
use Rattle.plain_values.specs.declared.value.Value.{Value}
use Rattle.lens_specs.specs.Common.{Formula, truth, falsity, compare, compare_columns, one_of, null_at, negation, all_of, any_of, Formulas, no_formulas, formulas, Name}
use Rattle.grammar_specs.specs.Common.{Token, Placed, Part, literally, compares, compares_columns, is_in, tests_null, negated, grouped, All, only, joined, Pred, alone, either, is_some_list, list_of, formulas_of, conjuncts, disjuncts, conjunction, disjunction, part_meaning, all_conjuncts, pred_disjuncts, pred_meaning}
use Rattle.grammar_specs.specs.Meaning.{constant}
use Rattle.grammar_laws.specs.Tests.{is_keyword, free_in, op_in, flag_in, literal_in, is_open, is_close, is_comma}
use Rattle.grammar_laws.specs.Steps.{Outcome, read, stopped, too_deep, taken, picked, and_then, choose, need, passing, repeat_within}
use Rattle.grammar_laws.specs.PredRules.{comparison, closed, more_values, all_values, values, behind_name, part_of, more_parts, more_alls, pred_of, within, part, pred}
use Rattle.grammar_laws.specs.PredRules as rules
use Rattle.lens_pred.specs.NormalForm.{is_all_of, is_any_of, none_is, has_two, has_one, is_normal, are_normal, is_conjunct}

-- in normal form, and no disjunction
abbrev pub is_disjunct : Formula → Bool
is_disjunct f = is_normal f && not (is_any_of f)

-- ---- lists

all_append : {A : Type 0} (p : A → Bool) (xs ys : List A) → list_all p xs ≡ true → list_all p ys ≡ true → list_all p (xs ++ ys) ≡ true
all_append p [] ys h k = k
all_append p (x ∷ xs) ys h k = and_from (p x) (list_all p (xs ++ ys)) (first_holds (p x) (list_all p xs) h) (all_append p xs ys (second_holds (p x) (list_all p xs) h) k)

-- members that are normal and none of a kind
each_member : (kind : Formula → Bool) (fs : Formulas) → (none_is kind fs && are_normal fs) ≡ true → list_all (λ f. is_normal f && not (kind f)) (list_of fs) ≡ true
each_member kind no_formulas h = refl
each_member kind (formulas f fs) h =
    let none = first_holds (not (kind f) && none_is kind fs) (is_normal f && are_normal fs) h in
    let normal = second_holds (not (kind f) && none_is kind fs) (is_normal f && are_normal fs) h in
    and_from (is_normal f && not (kind f)) (list_all (λ f. is_normal f && not (kind f)) (list_of fs))
    (and_from (is_normal f) (not (kind f)) (first_holds (is_normal f) (are_normal fs) normal) (first_holds (not (kind f)) (none_is kind fs) none))
    (each_member kind fs (and_from (none_is kind fs) (are_normal fs) (second_holds (not (kind f)) (none_is kind fs) none) (second_holds (is_normal f) (are_normal fs) normal)))

listed_none : (kind : Formula → Bool) (fs : List Formula) → list_all (λ f. is_normal f && not (kind f)) fs ≡ true → none_is kind (formulas_of fs) ≡ true
listed_none kind [] h = refl
listed_none kind (f ∷ fs) h =
    let here = first_holds (is_normal f && not (kind f)) (list_all (λ f. is_normal f && not (kind f)) fs) h in
    and_from (not (kind f)) (none_is kind (formulas_of fs)) (second_holds (is_normal f) (not (kind f)) here) (listed_none kind fs (second_holds (is_normal f && not (kind f)) (list_all (λ f. is_normal f && not (kind f)) fs) h))

listed_normal : (kind : Formula → Bool) (fs : List Formula) → list_all (λ f. is_normal f && not (kind f)) fs ≡ true → are_normal (formulas_of fs) ≡ true
listed_normal kind [] h = refl
listed_normal kind (f ∷ fs) h =
    let here = first_holds (is_normal f && not (kind f)) (list_all (λ f. is_normal f && not (kind f)) fs) h in
    and_from (is_normal f) (are_normal (formulas_of fs)) (first_holds (is_normal f) (not (kind f)) here) (listed_normal kind fs (second_holds (is_normal f && not (kind f)) (list_all (λ f. is_normal f && not (kind f)) fs) h))

two_some : (fs : Formulas) → has_two fs ≡ true → is_some_list (list_of fs) ≡ true
two_some no_formulas h = cc
two_some (formulas f fs) h = refl

-- ---- members of a normal formula

pub conjuncts_normal : (f : Formula) → is_normal f ≡ true → (list_all is_conjunct (conjuncts f) ≡ true) × (is_some_list (conjuncts f) ≡ true)
conjuncts_normal truth h = (refl, refl)
conjuncts_normal falsity h = (refl, refl)
conjuncts_normal (compare c op v) h = (refl, refl)
conjuncts_normal (compare_columns c op d) h = (refl, refl)
conjuncts_normal (null_at c) h = (refl, refl)
conjuncts_normal (one_of c vs) h = (rw h refl, refl)
conjuncts_normal (negation f) h = (rw h refl, refl)
conjuncts_normal (all_of fs) h = (each_member is_all_of fs (second_holds (has_two fs) (none_is is_all_of fs && are_normal fs) h), two_some fs (first_holds (has_two fs) (none_is is_all_of fs && are_normal fs) h))
conjuncts_normal (any_of fs) h = (and_from (is_normal (any_of fs) && true) true (and_from (is_normal (any_of fs)) true h refl) refl, refl)

disjuncts_normal : (f : Formula) → is_normal f ≡ true → (list_all is_disjunct (disjuncts f) ≡ true) × (is_some_list (disjuncts f) ≡ true)
disjuncts_normal truth h = (refl, refl)
disjuncts_normal falsity h = (refl, refl)
disjuncts_normal (compare c op v) h = (refl, refl)
disjuncts_normal (compare_columns c op d) h = (refl, refl)
disjuncts_normal (null_at c) h = (refl, refl)
disjuncts_normal (one_of c vs) h = (rw h refl, refl)
disjuncts_normal (negation f) h = (rw h refl, refl)
disjuncts_normal (all_of fs) h = (and_from (is_normal (all_of fs) && true) true (and_from (is_normal (all_of fs)) true h refl) refl, refl)
disjuncts_normal (any_of fs) h = (each_member is_any_of fs (second_holds (has_two fs) (none_is is_any_of fs && are_normal fs) h), two_some fs (first_holds (has_two fs) (none_is is_any_of fs && are_normal fs) h))

conjunction_normal : (fs : List Formula) → list_all is_conjunct fs ≡ true → is_normal (conjunction fs) ≡ true
conjunction_normal [] h = refl
conjunction_normal (f ∷ []) h = first_holds (is_normal f) (not (is_all_of f)) (first_holds (is_conjunct f) true h)
conjunction_normal (f ∷ g ∷ fs) h = and_from (none_is is_all_of (formulas_of (f ∷ g ∷ fs))) (are_normal (formulas_of (f ∷ g ∷ fs))) (listed_none is_all_of (f ∷ g ∷ fs) h) (listed_normal is_all_of (f ∷ g ∷ fs) h)

disjunction_normal : (fs : List Formula) → list_all is_disjunct fs ≡ true → is_normal (disjunction fs) ≡ true
disjunction_normal [] h = refl
disjunction_normal (f ∷ []) h = first_holds (is_normal f) (not (is_any_of f)) (first_holds (is_disjunct f) true h)
disjunction_normal (f ∷ g ∷ fs) h = and_from (none_is is_any_of (formulas_of (f ∷ g ∷ fs))) (are_normal (formulas_of (f ∷ g ∷ fs))) (listed_none is_any_of (f ∷ g ∷ fs) h) (listed_normal is_any_of (f ∷ g ∷ fs) h)

-- ---- what the rules read

-- what is read has this
abbrev Good : {A : Type 0} → (A → Type 0) → Outcome A → Type 0
Good P (read a rest) = P a
Good P (stopped rest) = Unit {0}
Good P too_deep = Unit {0}

good_then : {A B : Type 0} (P : A → Type 0) (Q : B → Type 0) (o : Outcome A) (k : A → Placed → Outcome B) → Good P o → ((a : A) (ps : Placed) → P a → Good Q (k a ps)) → Good Q (and_then o k)
good_then P Q (read a rest) k h goes = goes a rest h
good_then P Q (stopped rest) k h goes = tt
good_then P Q too_deep k h goes = tt

good_picked : {A B : Type 0} (Q : B → Type 0) (o : Option (A × Placed)) (k : A → Placed → Outcome B) (e : Placed → Outcome B) (ps : Placed) → ((a : A) (qs : Placed) → Good Q (k a qs)) → Good Q (e ps) → Good Q (picked o k e ps)
good_picked Q None k e ps some none = none
good_picked Q (Some q) k e ps some none = some q.0 q.1

good_choose : {A B : Type 0} (Q : B → Type 0) (f : Token → Option A) (k : A → Placed → Outcome B) (e : Placed → Outcome B) (ps : Placed) → ((a : A) (qs : Placed) → Good Q (k a qs)) → Good Q (e ps) → Good Q (choose f k e ps)
good_choose Q f k e ps some none = good_picked Q (taken f ps) k e ps some none

good_repeat : {A B : Type 0} (P : A → Type 0) (turns : ℕ) (f : Token → Option B) (step : A → B → Placed → Outcome A) → ((a : A) (b : B) (ps : Placed) → P a → Good P (step a b ps)) → (a : A) (ps : Placed) → P a → Good P (repeat_within turns f step a ps)
good_repeat P zero f step goes a ps h = h
good_repeat P (suc turns) f step goes a ps h =
    good_choose P f (λ b qs. and_then (step a b qs) (repeat_within turns f step)) (read a) ps
    (λ b qs. good_then P P (step a b qs) (repeat_within turns f step) (goes a b qs h) (λ c rs g. good_repeat P turns f step goes c rs g)) h

abbrev AreSome : List Value → Type 0
AreSome vs = is_some_list vs ≡ true

abbrev IsNormal : Part → Type 0
IsNormal p = is_normal (part_meaning p) ≡ true

abbrev AreConjuncts : All → Type 0
AreConjuncts a = list_all is_conjunct (all_conjuncts a) ≡ true

abbrev AreDisjuncts : Pred → Type 0
AreDisjuncts o = list_all is_disjunct (pred_disjuncts o) ≡ true

constant_normal : (b : Bool) → is_normal (constant b) ≡ true
constant_normal true = refl
constant_normal false = refl

some_value : (vs : List Value) → is_some_list vs ≡ true → has_one vs ≡ true
some_value [] h = cc
some_value (v ∷ vs) h = refl

some_more : (vs : List Value) (v : Value) → AreSome (vs ++ v ∷ [])
some_more [] v = refl
some_more (w ∷ vs) v = refl

values_good : (ps : Placed) → Good AreSome (all_values ps)
values_good ps =
    good_choose AreSome literal_in (λ v. more_values (v ∷ [])) stopped ps
    (λ v qs. good_repeat AreSome (length qs) (passing is_comma) (λ vs _. need literal_in (λ v. read (vs ++ v ∷ [])))
    (λ vs _ rs h. good_choose AreSome literal_in (λ v. read (vs ++ v ∷ [])) stopped rs (λ v _. some_more vs v) tt) (v ∷ []) qs refl) tt

behind_good : (c : Name) (ps : Placed) → Good IsNormal (behind_name c ps)
behind_good c ps =
    let null = need (passing (is_keyword (codes "is"))) (λ _. need (passing (is_keyword (codes "null"))) (λ _. read (tests_null c))) in
    good_choose IsNormal op_in (comparison c) (choose (passing (is_keyword (codes "in"))) (λ _. values c) null) ps
    (λ op qs. good_choose IsNormal free_in (λ d. read (compares_columns c op d)) (need literal_in (λ v. read (compares c op v))) qs (λ d _. refl)
    (good_choose IsNormal literal_in (λ v. read (compares c op v)) stopped qs (λ v _. refl) tt))
    (good_choose IsNormal (passing (is_keyword (codes "in"))) (λ _. values c) null ps
    (λ _ qs. good_choose IsNormal (passing is_open) (λ _ rs. and_then (all_values rs) (λ vs. closed (is_in c vs))) stopped qs
    (λ _ rs. good_then AreSome IsNormal (all_values rs) (λ vs. closed (is_in c vs)) (values_good rs)
    (λ vs ts h. good_choose IsNormal (passing is_close) (λ _. read (is_in c vs)) stopped ts (λ _ _. some_value vs h) tt)) tt)
    (good_choose IsNormal (passing (is_keyword (codes "is"))) (λ _. need (passing (is_keyword (codes "null"))) (λ _. read (tests_null c))) stopped ps
    (λ _ qs. good_choose IsNormal (passing (is_keyword (codes "null"))) (λ _. read (tests_null c)) stopped qs (λ _ _. refl) tt) tt))

part_of_good : (inner : Placed → Outcome Part) (group : Placed → Outcome Pred) → ((ps : Placed) → Good IsNormal (inner ps)) → ((ps : Placed) → Good AreDisjuncts (group ps)) → (ps : Placed) → Good IsNormal (part_of inner group ps)
part_of_good inner group inners groups ps =
    let behind_not = λ (_ : Unit {0}) (qs : Placed). and_then (inner qs) (λ p. read (negated p)) in
    let parentheses = λ (_ : Unit {0}) (qs : Placed). and_then (group qs) (λ o. closed (grouped o)) in
    let last = need (passing is_open) parentheses in
    let third = choose (passing (is_keyword (codes "not"))) behind_not last in
    good_choose IsNormal free_in behind_name (choose flag_in (λ b. read (literally b)) third) ps behind_good
    (good_choose IsNormal flag_in (λ b. read (literally b)) third ps (λ b _. constant_normal b)
    (good_choose IsNormal (passing (is_keyword (codes "not"))) behind_not last ps
    (λ _ qs. good_then IsNormal IsNormal (inner qs) (λ p. read (negated p)) (inners qs) (λ p _ h. h))
    (good_choose IsNormal (passing is_open) parentheses stopped ps
    (λ _ qs. good_then AreDisjuncts IsNormal (group qs) (λ o. closed (grouped o)) (groups qs)
    (λ o rs h. good_choose IsNormal (passing is_close) (λ _. read (grouped o)) stopped rs (λ _ _. disjunction_normal (pred_disjuncts o) h) tt)) tt)))

all_of_good : (part : Placed → Outcome Part) → ((ps : Placed) → Good IsNormal (part ps)) → (ps : Placed) → Good AreConjuncts (rules.all_of part ps)
all_of_good part parts ps =
    good_then IsNormal AreConjuncts (part ps) (λ p. more_parts part (only p)) (parts ps)
    (λ p qs h. good_repeat AreConjuncts (length qs) (passing (is_keyword (codes "and"))) (λ a _ rs. and_then (part rs) (λ p. read (joined a p)))
    (λ a _ rs before. good_then IsNormal AreConjuncts (part rs) (λ p. read (joined a p)) (parts rs)
    (λ p _ k. all_append is_conjunct (all_conjuncts a) (conjuncts (part_meaning p)) before (conjuncts_normal (part_meaning p) k).0)) (only p) qs (conjuncts_normal (part_meaning p) h).0)

pred_of_good : (part : Placed → Outcome Part) → ((ps : Placed) → Good IsNormal (part ps)) → (ps : Placed) → Good AreDisjuncts (pred_of part ps)
pred_of_good part parts ps =
    let alls = all_of_good part parts in
    let normal : (a : All) → AreConjuncts a → list_all is_disjunct (disjuncts (conjunction (all_conjuncts a))) ≡ true = λ a h. (disjuncts_normal (conjunction (all_conjuncts a)) (conjunction_normal (all_conjuncts a) h)).0 in
    good_then AreConjuncts AreDisjuncts (rules.all_of part ps) (λ a. more_alls part (alone a)) (alls ps)
    (λ a qs h. good_repeat AreDisjuncts (length qs) (passing (is_keyword (codes "or"))) (λ o _ rs. and_then (rules.all_of part rs) (λ a. read (either o a)))
    (λ o _ rs before. good_then AreConjuncts AreDisjuncts (rules.all_of part rs) (λ a. read (either o a)) (alls rs)
    (λ a _ k. all_append is_disjunct (pred_disjuncts o) (disjuncts (conjunction (all_conjuncts a))) before (normal a k))) (alone a) qs (normal a h))

within_good : (n : ℕ) (ps : Placed) → Good IsNormal (within n ps)
within_good zero ps = tt
within_good (suc n) ps = part_of_good (within n) (pred_of (within n)) (within_good n) (pred_of_good (within n) (within_good n)) ps

-- the conjuncts of a predicate that was read are in normal form
pub is_read_normal : (n : ℕ) (ps rest : Placed) (o : Pred) → pred n ps ≡ read o rest → list_all is_conjunct (conjuncts (pred_meaning o)) ≡ true
is_read_normal n ps rest o e =
    let good : Good AreDisjuncts (read o rest) = subst (Good AreDisjuncts) e (pred_of_good (part n) (within_good (suc n)) ps) in
    (conjuncts_normal (pred_meaning o) (disjunction_normal (pred_disjuncts o) good)).0
