-- What the rules of predicates read is spelled so, and where they stop a predicate begins.
use Rattle.std.proofs.Common.{◌≡◌, ℕ, zero, suc, ◌+◌, Bool, true, List, [], ◌∷◌, ◌++◌, length, refl, sym, ap, ◌∙◌, append_assoc, append-nil, arith, length-append, ◌&&◌, not, codes, nat_lt, flat_map, Option}
use Rattle.plain_values.proofs.Common.{list_all, nat_tests, map-append, length-map, is_null, list_all-append}
use Rattle.plain_values.specs.declared.value.Value.{Value}
use Rattle.plain_values.specs.declared.value.Value.TheVariants.{Flag}
use Rattle.lens_specs.specs.Common.{Name, Op, eq}
use Rattle.grammar_specs.specs.Common.{Token, word, open_paren, close_paren, comma, operator, is_free_name, Placed, part_nesting, all_nesting, pred_nesting, at_each, max_nesting, Part, literally, compares, is_in, tests_null, negated, grouped, All, only, joined, Pred, alone, either, literal, literals, part_tokens, all_tokens, pred_tokens, are_constants, is_part, is_all, is_pred}
use Rattle.grammar_laws.specs.Tests.{is_keyword, literal_in, is_open}
use Rattle.grammar_laws.specs.Steps.{Outcome, read, stopped, too_deep, and_then, choose, need, passing}
use Rattle.grammar_laws.specs.PredRules.{comparison, closed, all_values, values, behind_name, part_of, all_of, pred_of, part}
use Rattle.grammar_laws.proofs.Local.{IsLocal, local_read, local_stopped, local_then, local_choose, local_repeat}
use Rattle.grammar_laws.proofs.Sound.{Trees, begun, Sound, sound_read, sound_deep, sound_choose, sound_need, sound_then, within, sound_last, one_longer, sound_repeat}
use Rattle.grammar_laws.proofs.TokenKinds.{keyword_kind, open_kind, close_kind, comma_kind, name_kind, literal_kind, flag_kind, op_kind}

-- ---- the rules are local

pub need_local : {A B : Type 0} (f : Token → Option A) (k : A → Placed → Outcome B) → ((a : A) (ps : Placed) → IsLocal (k a) ps) → (ps : Placed) → IsLocal (need f k) ps
need_local f k h ps = local_choose f k stopped ps (λ a p qs e. h a qs) (local_stopped ps)

pub choose_local : {A B : Type 0} (f : Token → Option A) (k : A → Placed → Outcome B) (e : Placed → Outcome B) → ((a : A) (ps : Placed) → IsLocal (k a) ps) → ((ps : Placed) → IsLocal e ps) → (ps : Placed) → IsLocal (choose f k e) ps
choose_local f k e h l ps = local_choose f k e ps (λ a p qs _. h a qs) (l ps)

pub value_local : (vs : List Value) (b : Unit {0}) (ps : Placed) → IsLocal (need literal_in (λ v. read (vs ++ v ∷ []))) ps
value_local vs b = need_local _ _ (λ v. local_read)

pub closed_local : {A : Type 0} (a : A) (ps : Placed) → IsLocal (closed a) ps
closed_local a = need_local _ _ (λ _. local_read)

all_values_local : (ps : Placed) → IsLocal all_values ps
all_values_local = need_local _ _ (λ v. local_repeat _ _ value_local _)

values_local : (c : Name) (ps : Placed) → IsLocal (values c) ps
values_local c =
    need_local _ _ (λ _ ps.
    local_then all_values _ ps (all_values_local ps) (λ vs rest _. closed_local (is_in c vs) rest))

comparison_local : (c : Name) (op : Op) (ps : Placed) → IsLocal (comparison c op) ps
comparison_local c op = choose_local _ _ _ (λ d. local_read) (need_local _ _ (λ v. local_read))

behind_name_local : (c : Name) (ps : Placed) → IsLocal (behind_name c) ps
behind_name_local c =
    choose_local _ _ _ (comparison_local c) (choose_local _ _ _ (λ _. values_local c) (need_local _ _ (λ _.
    need_local _ _ (λ _. local_read))))

part_of_local : (inner : Placed → Outcome Part) (within : Placed → Outcome Pred) → ((ps : Placed) → IsLocal inner ps) → ((ps : Placed) → IsLocal within ps) → (ps : Placed) → IsLocal (part_of inner within) ps
part_of_local inner within in_part in_pred =
    let opened : Placed → Outcome Part = need (passing is_open) (λ _ ps. and_then (within ps) (λ o. closed (grouped o))) in
    let open_local : (ps : Placed) → IsLocal opened ps =
    need_local _ _ (λ _ ps. local_then within _ ps (in_pred ps) (λ o rest _. closed_local (grouped o) rest)) in
    choose_local _ _ _ behind_name_local (choose_local _ _ _ (λ b. local_read)
    (choose_local _ _ _ (λ _ ps. local_then inner _ ps (in_part ps) (λ p rest _. local_read rest)) open_local))

module _ (part : Placed → Outcome Part) (local : (ps : Placed) → IsLocal part ps) where
  pub joined_local : (a : All) (b : Unit {0}) (ps : Placed) → IsLocal (λ ps. and_then (part ps) (λ p. read (joined a p))) ps
  joined_local a b ps = local_then part _ ps (local ps) (λ p rest _. local_read rest)

  pub all_local : (ps : Placed) → IsLocal (all_of part) ps
  all_local ps = local_then part _ ps (local ps) (λ p rest _. local_repeat _ _ joined_local _ rest)

  pub either_local : (o : Pred) (b : Unit {0}) (ps : Placed) → IsLocal (λ ps. and_then (all_of part ps) (λ a. read (either o a))) ps
  either_local o b ps = local_then (all_of part) _ ps (all_local ps) (λ a rest _. local_read rest)

  pub pred_of_local : (ps : Placed) → IsLocal (pred_of part) ps
  pred_of_local ps = local_then (all_of part) _ ps (all_local ps) (λ a rest _. local_repeat _ _ either_local _ rest)

pub part_local : (n : ℕ) (ps : Placed) → IsLocal (part n) ps
part_local zero = part_of_local (λ _. too_deep) (λ _. too_deep) (λ ps. tt) (λ ps. tt)
part_local (suc n) = part_of_local (part n) (pred_of (part n)) (part_local n) (pred_of_local (part n) (part_local n))

-- ---- what the rules read

abbrev pub part_trees : ℕ → Trees Part
part_trees k = record { ok = is_part; tokens = part_tokens; nesting = part_nesting k }

abbrev pub all_trees : ℕ → Trees All
all_trees k = record { ok = is_all; tokens = all_tokens; nesting = all_nesting k }

abbrev pub pred_trees : ℕ → Trees Pred
pred_trees k = record { ok = is_pred; tokens = pred_tokens; nesting = pred_nesting k }

abbrev pub values_trees : ℕ → Trees (List Value)
values_trees k = record { ok = are_constants; tokens = literals; nesting = λ vs. at_each k (literals vs) }

-- a part to end with
yes : Value
yes = Flag true

-- ---- values

-- one more behind a comma
pub separated : {A : Type 0} (f : A → List Token) (front : List Token) (xs : List A) (x : A) → front ++ flat_map (λ y. comma ∷ f y) (xs ++ x ∷ []) ≡ ((front ++ flat_map (λ y. comma ∷ f y) xs) ++ comma ∷ []) ++ f x
separated f front [] x = simp (append-nil, append_assoc)
separated f front (y ∷ xs) x = sym (append_assoc front (comma ∷ f y) _) ∙ separated f (front ++ comma ∷ f y) xs x ∙ ap (λ l. (l ++ comma ∷ []) ++ f x) (append_assoc front (comma ∷ f y) _)

pub conj : {a b : Bool} → a ≡ true → b ≡ true → (a && b) ≡ true
conj {a} {b} h k = rw (h, k) refl

pub all_pushed : {A : Type 0} (p : A → Bool) (xs : List A) (x : A) → list_all p xs ≡ true → p x ≡ true → list_all p (xs ++ x ∷ []) ≡ true
all_pushed p xs x h good = list_all-append p xs (x ∷ []) ∙ conj h (conj good refl)

-- a value more
value_sound : (k : ℕ) (vs : List Value) (b : Unit {0}) (ps : Placed) → are_constants vs ≡ true → true ≡ true → Sound (values_trees k) (literals vs ++ comma ∷ []) ps (need literal_in (λ v. read (vs ++ v ∷ [])) ps)
unfolding yes
value_sound k [] b ps ok _ = cc
value_sound k (w ∷ vs) b ps ok _ =
    let more : (v : Value) → literals (w ∷ (vs ++ v ∷ [])) ≡ (literals (w ∷ vs) ++ comma ∷ []) ++ literal v ∷ [] = λ v. separated (λ v. literal v ∷ []) (literal w ∷ []) vs v in
    sound_need literal_kind _ (record { tree = w ∷ (vs ++ yes ∷ []); more = literal yes ∷ []; good = all_pushed (λ v. not (is_null v)) (w ∷ vs) yes ok refl; spelled = more yes })
    (λ v qs good _. sound_read (all_pushed (λ v. not (is_null v)) (w ∷ vs) v ok good) (more v))

-- behind ")"
closed_sound : (k : ℕ) (p : Part) (pre : List Token) (ps : Placed) → is_part p ≡ true → part_tokens p ≡ pre ++ close_paren ∷ [] → Sound (part_trees k) pre ps (closed p ps)
closed_sound k p pre ps good spelled = sound_need close_kind _ (begun p _ good spelled) (λ _ qs _ _. sound_read good spelled)

all_values_sound : (k : ℕ) (ps : Placed) → Sound (values_trees k) [] ps (all_values ps)
unfolding yes
all_values_sound k ps =
    sound_need literal_kind _ (record { tree = yes ∷ []; more = literal yes ∷ []; good = refl; spelled = refl }) (λ v qs good _.
    sound_repeat comma_kind _ value_local (value_sound k) _ (rw good refl))

values_sound : (k : ℕ) (c : Name) (ps : Placed) → is_free_name c ≡ true → Sound (part_trees k) (word c ∷ word (codes "in") ∷ []) ps (values c ps)
unfolding yes
values_sound k c ps free =
    sound_need open_kind _ (begun (is_in c (yes ∷ [])) _ (conj free refl) refl) (λ _ qs _ _.
    sound_then
    (within (is_in c) (close_paren ∷ []) (k ∷ k ∷ k ∷ []) (k ∷ []) refl (λ vs h. conj free h) (λ vs. refl) (λ vs. ap (λ x. k ∷ k ∷ k ∷ x) (map-append (λ _. k) (literals vs) (close_paren ∷ [])))) _ (all_values_sound k qs)
    (λ vs rest good _. closed_sound k (is_in c vs) (word c ∷ word (codes "in") ∷ open_paren ∷ literals vs) rest (conj free good) refl))

comparison_sound : (k : ℕ) (c : Name) (op : Op) (ps : Placed) → is_free_name c ≡ true → Sound (part_trees k) (word c ∷ operator op ∷ []) ps (comparison c op ps)
unfolding yes
comparison_sound k c op ps free =
    sound_choose name_kind _ _ (λ d qs good _. sound_read (conj free good) refl) (sound_need literal_kind _ (begun (compares c op yes) _ (conj free refl) refl)
    (λ v qs good _. sound_read (conj free good) refl))

behind_name_sound : (k : ℕ) (c : Name) (ps : Placed) → is_free_name c ≡ true → Sound (part_trees k) (word c ∷ []) ps (behind_name c ps)
unfolding yes
behind_name_sound k c ps free =
    let null : Placed → Outcome Part = need (passing (is_keyword (codes "is"))) (λ _. need (passing (is_keyword (codes "null"))) (λ _. read (tests_null c))) in
    sound_choose op_kind _ _ (λ op qs _ _. comparison_sound k c op qs free) (sound_choose (keyword_kind (codes "in")) _ _ (λ _ qs _ _. values_sound k c qs free)
    (sound_need (keyword_kind (codes "is")) _ (begun (compares c eq yes) _ (conj free refl) refl) (λ _ qs _ _.
    sound_need (keyword_kind (codes "null")) _ (begun (tests_null c) _ free refl) (λ _ rs _ _. sound_read free refl))))

-- ---- parts

-- a part, where this is known of what is read behind a "not" and a parenthesis
part_of_sound : (k : ℕ) (inner : Placed → Outcome Part) (within : Placed → Outcome Pred) (ps : Placed) → ((qs : Placed) → Sound (part_trees k) (word (codes "not") ∷ []) qs (and_then (inner qs) (λ p. read (negated p))))
    → ((qs : Placed) → Sound (part_trees k) (open_paren ∷ []) qs (and_then (within qs) (λ o. closed (grouped o)))) → Sound (part_trees k) [] ps (part_of inner within ps)
part_of_sound k inner within ps behind_not behind_open =
    sound_choose name_kind _ _ (λ c qs free _. behind_name_sound k c qs free) (sound_choose flag_kind _ _ (λ b qs _ _. sound_read refl refl)
    (sound_choose (keyword_kind (codes "not")) _ _ (λ _ qs _ _. behind_not qs) (sound_need open_kind _ (begun (literally true) _ refl refl) (λ _ qs _ _. behind_open qs))))

-- ---- all and pred, where a part is read so

mutual
  pub part_long : (k : ℕ) (p : Part) → length (part_nesting k p) ≡ length (part_tokens p)
  part_long k (is_in c vs) = simp length-map
  part_long k (negated p) = ap suc (part_long (suc k) p)
  part_long k (grouped o) = ap suc (omega (arith, pred_long (suc k) o, length-append (pred_nesting (suc k) o) (suc k ∷ []), length-append (pred_tokens o) (close_paren ∷ [])))
  part_long k other = refl

  pub all_long : (k : ℕ) (a : All) → length (all_nesting k a) ≡ length (all_tokens a)
  all_long k (only p) = part_long k p
  all_long k (joined a p) = omega (arith, all_long k a, part_long k p, length-append (all_nesting k a) (k ∷ part_nesting k p), length-append (all_tokens a) (word (codes "and") ∷ part_tokens p))

  pub pred_long : (k : ℕ) (o : Pred) → length (pred_nesting k o) ≡ length (pred_tokens o)
  pred_long k (alone a) = all_long k a
  pred_long k (either o a) = omega (arith, pred_long k o, all_long k a, length-append (pred_nesting k o) (k ∷ all_nesting k a), length-append (pred_tokens o) (word (codes "or") ∷ all_tokens a))

module _ (k : ℕ) (part : Placed → Outcome Part) (local : (ps : Placed) → IsLocal part ps) (sound : (ps : Placed) → Sound (part_trees k) [] ps (part ps)) where
  pub all_sound : (ps : Placed) → Sound (all_trees k) [] ps (all_of part ps)
  all_sound ps =
      sound_then (within only [] [] [] refl (λ p h. h) (λ p. sym (append-nil (part_tokens p))) (λ p. sym (append-nil (part_nesting k p)))) _ (sound ps) (λ p rest good _.
      sound_repeat (keyword_kind (codes "and")) _ (joined_local part local) (λ a b qs ok _.
      sound_last (joined a) (all_nesting k a ++ k ∷ []) (one_longer (all_nesting k a) (all_tokens a) k (word (codes "and")) (all_long k a)) (λ p h. conj ok h)
      (λ p. sym (append_assoc (all_tokens a) (word (codes "and") ∷ []) (part_tokens p))) (λ p. sym (append_assoc (all_nesting k a) (k ∷ []) (part_nesting k p))) (sound qs)) _ good)

  pub pred_of_sound : (ps : Placed) → Sound (pred_trees k) [] ps (pred_of part ps)
  pred_of_sound ps =
      sound_then (within alone [] [] [] refl (λ a h. h) (λ a. sym (append-nil (all_tokens a))) (λ a. sym (append-nil (all_nesting k a)))) _ (all_sound ps) (λ a rest good _.
      sound_repeat (keyword_kind (codes "or")) _ (either_local part local) (λ o b qs ok _.
      sound_last (either o) (pred_nesting k o ++ k ∷ []) (one_longer (pred_nesting k o) (pred_tokens o) k (word (codes "or")) (pred_long k o)) (λ a h. conj ok h)
      (λ a. sym (append_assoc (pred_tokens o) (word (codes "or") ∷ []) (all_tokens a))) (λ a. sym (append_assoc (pred_nesting k o) (k ∷ []) (all_nesting k a))) (all_sound qs)) _ good)

-- ---- within what may be open

pub over : (k : ℕ) → k + 0 ≡ max_nesting → nat_lt max_nesting (suc k) ≡ true
over k e = grind (arith, nat_tests)

-- what a part reads is spelled so, where so many stand open and so many more may be opened
pub part_sound : (n k : ℕ) (ps : Placed) → k + n ≡ max_nesting → Sound (part_trees k) [] ps (part n ps)
part_sound zero k ps e =
    part_of_sound k (λ _. too_deep) (λ _. too_deep) ps (λ qs. sound_deep (record { begun = begun (negated (literally true)) _ refl refl; deep = rw (over k e) refl }))
    (λ qs. sound_deep (record { begun = begun (grouped (alone (only (literally true)))) _ refl refl; deep = rw (over k e) refl }))
part_sound (suc n) k ps e =
    let deeper : suc k + n ≡ max_nesting = omega (arith, e) in
    part_of_sound k (part n) (pred_of (part n)) ps
    (λ qs. sound_last negated (suc k ∷ []) refl (λ p h. h) (λ p. refl) (λ p. refl) (part_sound n (suc k) qs deeper)) (λ qs.
    sound_then (within grouped (close_paren ∷ []) (suc k ∷ []) (suc k ∷ []) refl (λ o h. h) (λ o. refl) (λ o. refl)) _ (pred_of_sound (suc k) (part n) (part_local n) (λ rs. part_sound n (suc k) rs deeper) qs)
    (λ o rest good _. closed_sound k (grouped o) (open_paren ∷ pred_tokens o) rest good refl))
