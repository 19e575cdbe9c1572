-- One turn of each loop of the rules.
use Rattle.std.proofs.Common.{◌≡◌, ℕ, ◌<◌, Bool, List, [], ◌∷◌, ◌++◌, length, refl, sym, ap, subst, ◌∙◌, arith, false, true, cond, codes, Option, Some, None, IsSome, option_map, option_and_then, Result, Ok, Err, IsErrAnd}
use Rattle.plain_values.proofs.Common.{then_some, same_Some}
use Rattle.plain_values.specs.declared.value.Value.{Value}
use Rattle.grammar_specs.specs.Common.{Token, Placed, All, joined, Pred, either, Dep, is_column_of}
use Rattle.grammar_laws.specs.Tests.{is_keyword, is_comma, literal_in}
use Rattle.grammar_laws.specs.Steps.{Outcome, read, stopped, too_deep, next, behind, taken, and_then, choose, need, passing}
use Rattle.grammar_laws.specs.PredRules.{more_values, more_parts, all_of, more_alls, part}
use Rattle.lens_specs.specs.Common.{Name}
use Rattle.view_lang.specs.declared.parsing.reader.Halt.{Halt}
use Rattle.view_lang.specs.declared.parsing.reader.Halt.TheVariants.{Stopped, TooDeep, NoMemory}
use Rattle.grammar_laws.specs.Tests.{free_in}
use Rattle.grammar_laws.specs.ExprRules.{more_names}
use Rattle.grammar_laws.specs.DefRules.{Columns, new_name, column, more_columns, dep, more_deps}
use Rattle.grammar_laws.specs.DefRules.{next_column, next_dep, at_last}
use Rattle.grammar_laws.proofs.Local.{repeat_turn}
use Rattle.grammar_laws.proofs.PredSound.{value_local, part_local, joined_local, either_local}
use Rattle.grammar_laws.proofs.ExprSound.{name_local}
use Rattle.grammar_laws.proofs.DefSound.{column_local, next_dep_local}
use Rattle.view_lang.specs.Outcomes.{Gives}

pub values_turn : (vs : List Value) (ps : Placed) → more_values vs ps ≡ choose (passing is_comma) (λ _ qs. and_then (need literal_in (λ v. read (vs ++ v ∷ [])) qs) more_values) (read vs) ps
values_turn vs ps = repeat_turn (passing is_comma) (λ vs _. need literal_in (λ v. read (vs ++ v ∷ []))) value_local vs ps

pub parts_turn : (n : ℕ) (a : All) (ps : Placed) → more_parts (part n) a ps ≡ choose (passing (is_keyword (codes "and"))) (λ _ qs. and_then (and_then (part n qs) (λ p. read (joined a p))) (more_parts (part n))) (read a) ps
parts_turn n a ps = repeat_turn (passing (is_keyword (codes "and"))) (λ a _ ps. and_then (part n ps) (λ p. read (joined a p))) (joined_local (part n) (part_local n)) a ps

pub alls_turn : (n : ℕ) (o : Pred) (ps : Placed) → more_alls (part n) o ps ≡ choose (passing (is_keyword (codes "or"))) (λ _ qs. and_then (and_then (all_of (part n) qs) (λ a. read (either o a))) (more_alls (part n))) (read o) ps
alls_turn n o ps = repeat_turn (passing (is_keyword (codes "or"))) (λ o _ ps. and_then (all_of (part n) ps) (λ a. read (either o a))) (either_local (part n) (part_local n)) o ps

pub names_turn : (names : List Name) (ps : Placed) → more_names names ps ≡ choose free_in (λ n qs. more_names (names ++ n ∷ []) qs) (read names) ps
names_turn names ps = repeat_turn free_in (λ names n. read (names ++ n ∷ [])) name_local names ps

pub columns_turn : (cs : Columns) (ps : Placed) → more_columns cs ps ≡ choose (passing is_comma) (λ _ qs. and_then (column cs qs) more_columns) (read cs) ps
columns_turn cs ps = repeat_turn (passing is_comma) next_column column_local cs ps

pub deps_turn : (ds : List Dep) (ps : Placed) → more_deps ds ps ≡ choose (passing is_comma) (λ _ qs. and_then (and_then (dep qs) (λ d. read (ds ++ d ∷ []))) more_deps) (read ds) ps
deps_turn ds ps = repeat_turn (passing is_comma) next_dep next_dep_local ds ps

-- fewer tokens are left behind one
pub fewer_behind : (ps : Placed) (t : Token) → Some t ≡ next ps → length (behind ps) < length ps
fewer_behind [] t e = cc
fewer_behind (p ∷ ps) t e = omega arith

new_name_at : (b : Bool) (c name : Name) → Some name ≡ cond b None (Some c) → (c ≡ name) × (b ≡ false)
new_name_at true c name e = cc
new_name_at false c name e = (cc, refl)

new_name_in : (cs : Columns) (o : Option Name) (name : Name) → Some name ≡ option_and_then (λ c. cond (is_column_of cs c) None (Some c)) o → is_column_of cs name ≡ false
new_name_in cs None name e = cc
new_name_in cs (Some c) name e = let h = new_name_at (is_column_of cs c) c name e in ap (is_column_of cs) (sym h.0) ∙ h.1

-- a new name is that of no column before it
pub new_column : (cs : Columns) (ps rest : Placed) (name : Name) → Some (name, rest) ≡ taken (new_name cs) ps → is_column_of cs name ≡ false
new_column cs [] rest name e = cc
new_column cs (p ∷ ps) rest name e = new_name_in cs (free_in p.1) name (named (option_and_then (λ c. cond (is_column_of cs c) None (Some c)) (free_in p.1)) (name, rest) e)
  where
    named : (o : Option Name) (q : Name × Placed) → Some q ≡ option_map (λ a. (a, ps)) o → Some q.0 ≡ o
    named None q e = cc
    named (Some c) q e = let here : Name × Placed = (c, ps) in ap (λ (p : Name × Placed). Some p.0) (same_Some q here e)

-- ---- one rule after another

-- what a rule gave that read
pub given_ok : {A B : Type 0} (Is : A → B → Type 0) (o : Outcome A) (b : B) (left : Placed) → Gives Is o (Ok b) left → (a : A) × (o ≡ read a left) × Is a b
given_ok Is (read a rest) b left h = (a, ap (read a) (sym h.1), h.0)
given_ok Is (stopped rest) b left h = absurd h
given_ok Is too_deep b left h = absurd h

-- where the first rule does not read, the second does not begin
pub then_err : {A B C D : Type 0} (Is : A → B → Type 0) (Js : C → D → Type 0) (o : Outcome A) (k : A → Placed → Outcome C) (why : Halt) (left : Placed) → Gives Is o (Err why) left → Gives Js (and_then o k) (Err why) left
then_err Is Js (read a rest) k Stopped left h = absurd h
then_err Is Js (read a rest) k TooDeep left h = absurd h
then_err Is Js (read a rest) k NoMemory left h = tt
then_err Is Js (stopped rest) k Stopped left h = h
then_err Is Js (stopped rest) k TooDeep left h = h
then_err Is Js (stopped rest) k NoMemory left h = tt
then_err Is Js too_deep k Stopped left h = h
then_err Is Js too_deep k TooDeep left h = h
then_err Is Js too_deep k NoMemory left h = tt

-- where the first rule does not read, both end with the fault that the answer has
pub stops : {A B C D : Type 0} (Is : A → B → Type 0) (Js : C → D → Type 0) (o : Outcome A) (k : A → Placed → Outcome C) (why : Halt) (left : Placed) (r : Result D Halt)
    → Gives Is o (Err why) left → IsErrAnd r (λ e. e ≡ why) → Gives Js (and_then o k) r left
stops Is Js o k why left (Ok d) h is = absurd is
stops Is Js o k why left (Err e) h is = subst (λ x. Gives Js (and_then o k) (Err x) left) (sym is) (then_err Is Js o k why left h)

-- the second rule begins behind what the first read
pub then_ok : {A B C D : Type 0} (Is : A → B → Type 0) (Js : C → D → Type 0) (o : Outcome A) (k : A → Placed → Outcome C) (b : B) (left : Placed) (r : Result D Halt) (end : Placed)
    → Gives Is o (Ok b) left → ((a : A) → Is a b → Gives Js (k a left) r end) → Gives Js (and_then o k) r end
then_ok Is Js o k b left r end h goes =
    let given = given_ok Is o b left h in
    subst (λ x. Gives Js (and_then x k) r end) (sym given.1) (goes given.0 given.2)

-- a token that the rule needs is not next
pub unread : {C D : Type 0} (Js : C → D → Type 0) (why : Halt) (left rest : Placed) (r : Result D Halt) → left ≡ rest → why ≡ Stopped → IsErrAnd r (λ e. e ≡ why) → Gives Js (stopped rest) r left
unread Js why left rest (Ok d) same is given = absurd given
unread Js why left rest (Err e) same is given = subst (λ x. Gives Js (stopped rest) (Err x) left) (sym (given ∙ is)) same

-- fewer are left behind what was taken
pub fewer : {A : Type 0} (found : Option A) (a : A) (m n : ℕ) → found ≡ Some a → (IsSome found → m < n) → m < n
fewer None a m n e h = cc
fewer (Some b) a m n e h = h refl

pub fewer_passed : (b : Bool) (m n : ℕ) → b ≡ true → (IsSome {T = Unit {0}} (then_some b tt) → m < n) → m < n
fewer_passed true m n e h = h refl
fewer_passed false m n e h = cc

-- a token is left behind what should stand alone, or none
pub more_follow : {A : Type 0} (a : A) (ps : Placed) (t : Token) → Some t ≡ next ps → at_last a ps ≡ stopped ps
more_follow a [] t e = cc
more_follow a (p ∷ ps) t e = refl

pub none_follow : {A : Type 0} (a : A) (ps : Placed) → None ≡ next ps → at_last a ps ≡ read a ps
none_follow a [] e = refl
none_follow a (p ∷ ps) e = cc
