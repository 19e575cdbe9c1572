-- What a rule reads is spelled by a tree, and where it stops a tree begins.
use Rattle.std.proofs.Common.{◌≡◌, ℕ, zero, suc, ◌+◌, ◌≤◌, ◌<◌, Bool, true, false, List, [], ◌∷◌, ◌++◌, length, take, refl, sym, ap, subst, ◌∙◌, append_assoc, append-nil, arith, length-append, Option, Some, None, ◌||◌, nat_lt}
use Rattle.plain_values.proofs.Common.{map-append, length-map}
use Rattle.grammar_specs.specs.Common.{Token, Placed, tokens_in, max_nesting, is_too_deep}
use Rattle.grammar_laws.specs.Steps.{Outcome, read, stopped, too_deep, and_then, chosen, choose, need, repeat}
use Rattle.grammar_laws.proofs.Local.{IsLocal, repeat_turn}

-- which trees there are, what spells each, and how many stand open at its tokens
pub record Trees (A : Type 0) : Type 0 where
  pub ok : A → Bool
  pub tokens : A → List Token
  pub nesting : A → List ℕ

-- a tree begins with these tokens
pub record Begun {A : Type 0} (m : Trees A) (ts : List Token) : Type 0 where
  pub tree : A
  pub more : List Token
  pub good : m.ok tree ≡ true
  pub spelled : m.tokens tree ≡ ts ++ more

abbrev pub begun : {A : Type 0} {m : Trees A} {ts : List Token} (tree : A) (more : List Token) → m.ok tree ≡ true → m.tokens tree ≡ ts ++ more → Begun m ts
begun {A} {m} {ts} tree more good spelled = record { tree = tree; more = more; good = good; spelled = spelled }

-- and too many stand open in them
pub record BegunDeep {A : Type 0} (m : Trees A) (ts : List Token) : Type 0 where
  pub begun : Begun m ts
  pub deep : is_too_deep (take (length ts) (m.nesting begun.tree)) ≡ true

-- the tree is spelled by these tokens
pub record Done {A : Type 0} (m : Trees A) (a : A) (ts : List Token) : Type 0 where
  pub good : m.ok a ≡ true
  pub spelled : m.tokens a ≡ ts

-- some tokens, before which these stand
pub record Front (pre : List Token) (ps rest : Placed) (Is : List Token → Type 0) : Type 0 where
  pub front : Placed
  pub split : ps ≡ front ++ rest
  pub is : Is (pre ++ tokens_in front)

-- what the outcome says, if these tokens were read before
abbrev Says : {A : Type 0} → Trees A → List Token → Placed → Outcome A → Type 0
Says m pre ps (read a rest) = Front pre ps rest (Done m a)
Says m pre ps (stopped rest) = Front pre ps rest (Begun m)
Says m pre ps too_deep = (rest : Placed) × Front pre ps rest (BegunDeep m)

pub record Sound {A : Type 0} (m : Trees A) (pre : List Token) (ps : Placed) (o : Outcome A) : Type 0 where
  pub holds : Says m pre ps o

here : (pre : List Token) (ps : Placed) (Is : List Token → Type 0) → Is pre → Front pre ps ps Is
here pre ps Is h = record { front = []; split = refl; is = subst Is (sym (append-nil pre)) h }

pub sound_read : {A : Type 0} {m : Trees A} {pre : List Token} {a : A} {ps : Placed} → m.ok a ≡ true → m.tokens a ≡ pre → Sound m pre ps (read a ps)
sound_read {A} {m} {pre} {a} {ps} good spelled = record { holds = here pre ps (Done m a) (record { good = good; spelled = spelled }) }

pub sound_stopped : {A : Type 0} {m : Trees A} {pre : List Token} {ps : Placed} → Begun m pre → Sound m pre ps (stopped ps)
sound_stopped {A} {m} {pre} {ps} h = record { holds = here pre ps (Begun m) h }

pub sound_deep : {A : Type 0} {m : Trees A} {pre : List Token} {ps : Placed} → BegunDeep m pre → Sound m pre ps too_deep
sound_deep {A} {m} {pre} {ps} h = record { holds = (ps, here pre ps (BegunDeep m) h) }

-- the same for trees of which more are good
pub sound_weaker : {A : Type 0} (m : Trees A) (ok : A → Bool) → ((a : A) → m.ok a ≡ true → ok a ≡ true) → (pre : List Token) (ps : Placed) (o : Outcome A) → Sound m pre ps o → Sound (record { ok = ok; tokens = m.tokens; nesting = m.nesting }) pre ps o
sound_weaker m ok f pre ps (read a rest) h = let x = h.holds in record { holds = record { front = x.front; split = x.split; is = record { good = f a x.is.good; spelled = x.is.spelled } } }
sound_weaker m ok f pre ps (stopped rest) h = let x = h.holds in record { holds = record { front = x.front; split = x.split; is = begun x.is.tree x.is.more (f x.is.tree x.is.good) x.is.spelled } }
sound_weaker m ok f pre ps too_deep h =
    let x = h.holds.1 in
    let b = x.is.begun in
    record { holds = (h.holds.0, record { front = x.front; split = x.split; is = record { begun = begun b.tree b.more (f b.tree b.good) b.spelled; deep = x.is.deep } }) }

-- ---- further on

further : (pre ts : List Token) (ps qs rest front : Placed) (Is : List Token → Type 0) → ps ≡ front ++ qs → tokens_in front ≡ ts → Front (pre ++ ts) qs rest Is → Front pre ps rest Is
further pre ts ps qs rest front Is e same h = record {
  front = front ++ h.front;
  split = e ∙ ap (λ x. front ++ x) h.split ∙ sym (append_assoc front h.front rest);
  is = subst Is (append_assoc pre ts (tokens_in h.front) ∙ ap (λ x. pre ++ x) (ap (λ x. x ++ tokens_in h.front) (sym same) ∙ sym (map-append (λ p. p.1) front h.front))) h.is;
}

pub sound_further : {A : Type 0} (m : Trees A) (pre ts : List Token) (ps qs front : Placed) (o : Outcome A) → ps ≡ front ++ qs → tokens_in front ≡ ts → Sound m (pre ++ ts) qs o → Sound m pre ps o
sound_further m pre ts ps qs front (read a rest) e same h = record { holds = further pre ts ps qs rest front (Done m a) e same h.holds }
sound_further m pre ts ps qs front (stopped rest) e same h = record { holds = further pre ts ps qs rest front (Begun m) e same h.holds }
sound_further m pre ts ps qs front too_deep e same h = record { holds = (h.holds.0, further pre ts ps qs h.holds.0 front (BegunDeep m) e same h.holds.1) }

-- a test of tokens, and the one token for each of its answers
pub record Kind (A : Type 0) (f : Token → Option A) : Type 0 where
  pub spell : A → Token
  pub good : A → Bool
  pub is : (t : Token) (a : A) → f t ≡ Some a → (t ≡ spell a) × (good a ≡ true)
  pub found : (a : A) → good a ≡ true → f (spell a) ≡ Some a

sound_chosen : {A B : Type 0} (m : Trees B) (pre : List Token) (f : Token → Option A) (d : Kind A f) (k : A → Placed → Outcome B) (e : Placed → Outcome B) (p : ℕ × Token) (ps : Placed) (o : Option A) → f p.1 ≡ o
    → ((a : A) → d.good a ≡ true → Sound m (pre ++ d.spell a ∷ []) ps (k a ps)) → Sound m pre (p ∷ ps) (e (p ∷ ps)) → Sound m pre (p ∷ ps) (chosen o k e p ps)
sound_chosen m pre f d k e p ps None is h l = l
sound_chosen m pre f d k e p ps (Some a) is h l =
    let one = d.is p.1 a is in
    sound_further m pre (d.spell a ∷ []) (p ∷ ps) ps (p ∷ []) (k a ps) refl (ap (λ t. t ∷ []) one.0) (h a one.1)

pub sound_choose : {A B : Type 0} {m : Trees B} {pre : List Token} {f : Token → Option A} (d : Kind A f) (k : A → Placed → Outcome B) (e : Placed → Outcome B) {ps : Placed}
    → ((a : A) (qs : Placed) → d.good a ≡ true → suc (length qs) ≤ length ps → Sound m (pre ++ d.spell a ∷ []) qs (k a qs)) → Sound m pre ps (e ps) → Sound m pre ps (choose f k e ps)
sound_choose d k e {ps = []} h l = l
sound_choose {A} {B} {m} {pre} {f} d k e {ps = p ∷ ps} h l = sound_chosen m pre f d k e p ps (f p.1) refl (λ a g. h a ps g (omega arith)) l

pub sound_need : {A B : Type 0} {m : Trees B} {pre : List Token} {f : Token → Option A} (d : Kind A f) (k : A → Placed → Outcome B) {ps : Placed} → Begun m pre
    → ((a : A) (qs : Placed) → d.good a ≡ true → suc (length qs) ≤ length ps → Sound m (pre ++ d.spell a ∷ []) qs (k a qs)) → Sound m pre ps (need f k ps)
sound_need d k b h = sound_choose d k stopped h (sound_stopped b)

-- ---- a rule within a rule

deep_front : (n : ℕ) (ns more : List ℕ) → is_too_deep (take n ns) ≡ true → is_too_deep (take n (ns ++ more)) ≡ true
deep_front zero ns more h = cc
deep_front (suc n) [] more h = cc
deep_front (suc n) (x ∷ ns) more h =
    elim (nat_lt max_nesting x) as (λ b. (b || is_too_deep (take n ns)) ≡ true → (b || is_too_deep (take n (ns ++ more))) ≡ true) [ true ↦ λ _. refl | false ↦ λ h. deep_front n ns more h ] h

deep_behind : (ms ns : List ℕ) (n k : ℕ) → k ≡ length ms + n → is_too_deep (take n ns) ≡ true → is_too_deep (take k (ms ++ ns)) ≡ true
deep_behind [] ns n k e h = let same : n ≡ k = omega (arith, e) in subst (λ x. is_too_deep (take x ns) ≡ true) same h
deep_behind (x ∷ ms) ns n zero e h = absurd (omega (arith, e))
deep_behind (x ∷ ms) ns n (suc k) e h =
    elim (nat_lt max_nesting x) as (λ b. (b || is_too_deep (take k (ms ++ ns))) ≡ true) [ true ↦ refl | false ↦ deep_behind ms ns n k (omega (arith, e)) h ]

-- each tree of the one stands in a tree of the other, between these tokens
pub record Within {A B : Type 0} (inner : Trees A) (outer : Trees B) (pre : List Token) : Type 0 where
  pub wrap : A → B
  pub after : List Token
  pub levels : List ℕ
  pub levels_after : List ℕ
  pub good : (a : A) → inner.ok a ≡ true → outer.ok (wrap a) ≡ true
  pub spelled : (a : A) → outer.tokens (wrap a) ≡ pre ++ (inner.tokens a ++ after)
  pub nested : (a : A) → outer.nesting (wrap a) ≡ levels ++ (inner.nesting a ++ levels_after)
  pub long : length levels ≡ length pre

abbrev begun_within : {A B : Type 0} (inner : Trees A) (outer : Trees B) (pre ts : List Token) → Within inner outer pre → Begun inner ts → Begun outer (pre ++ ts)
begun_within inner outer pre ts w h =
    begun (w.wrap h.tree) (h.more ++ w.after) (w.good h.tree h.good) (w.spelled h.tree ∙ ap (λ x. pre ++ x) (ap (λ x. x ++ w.after) h.spelled ∙ append_assoc ts h.more w.after) ∙ sym (append_assoc pre ts (h.more ++ w.after)))

deep_within : {A B : Type 0} (inner : Trees A) (outer : Trees B) (pre ts : List Token) → Within inner outer pre → BegunDeep inner ts → BegunDeep outer (pre ++ ts)
deep_within inner outer pre ts w h =
    let a = h.begun.tree in
    record {
      begun = begun_within inner outer pre ts w h.begun;
      deep =
          subst (λ x. is_too_deep (take (length (pre ++ ts)) x) ≡ true) (sym (w.nested a))
          (deep_behind w.levels (inner.nesting a ++ w.levels_after) (length ts) (length (pre ++ ts)) (omega (arith, length-append pre ts, w.long)) (deep_front (length ts) (inner.nesting a) w.levels_after h.deep));
    }

pub sound_then : {A B : Type 0} {inner : Trees A} {outer : Trees B} {pre : List Token} (w : Within inner outer pre) {ps : Placed} {o : Outcome A} (k : A → Placed → Outcome B) → Sound inner [] ps o
    → ((a : A) (rest : Placed) → inner.ok a ≡ true → length rest ≤ length ps → Sound outer (pre ++ inner.tokens a) rest (k a rest)) → Sound outer pre ps (and_then o k)
sound_then {A} {B} {inner} {outer} {pre} w {ps} {o = read a rest} k h next =
    let x = h.holds in
    let done : Done inner a (tokens_in x.front) = x.is in
    sound_further outer pre (inner.tokens a) ps rest x.front (k a rest) x.split (sym done.spelled) (next a rest done.good (omega (arith, ap length x.split, length-append x.front rest)))
sound_then {A} {B} {inner} {outer} {pre} w {ps} {o = stopped rest} k h next =
    let x = h.holds in record { holds = record { front = x.front; split = x.split; is = begun_within inner outer pre (tokens_in x.front) w x.is } }
sound_then {A} {B} {inner} {outer} {pre} w {ps} {o = too_deep} k h next =
    let x = h.holds in record { holds = (x.0, record { front = x.1.front; split = x.1.split; is = deep_within inner outer pre (tokens_in x.1.front) w x.1.is }) }

-- between these tokens
pub within : {A B : Type 0} {inner : Trees A} {outer : Trees B} {pre : List Token} (wrap : A → B) (after : List Token) (levels levels_after : List ℕ) → length levels ≡ length pre → ((a : A) → inner.ok a ≡ true → outer.ok (wrap a) ≡ true)
    → ((a : A) → outer.tokens (wrap a) ≡ pre ++ (inner.tokens a ++ after)) → ((a : A) → outer.nesting (wrap a) ≡ levels ++ (inner.nesting a ++ levels_after)) → Within inner outer pre
within {A} {B} {inner} {outer} {pre} wrap after levels levels_after long good spelled nested =
    record { wrap = wrap; after = after; levels = levels; levels_after = levels_after; good = good; spelled = spelled; nested = nested; long = long }

-- the tree that is read is the last part of another
pub sound_last : {A B : Type 0} {inner : Trees A} {outer : Trees B} {pre : List Token} (wrap : A → B) (levels : List ℕ) → length levels ≡ length pre → ((a : A) → inner.ok a ≡ true → outer.ok (wrap a) ≡ true)
    → ((a : A) → outer.tokens (wrap a) ≡ pre ++ inner.tokens a) → ((a : A) → outer.nesting (wrap a) ≡ levels ++ inner.nesting a) → {ps : Placed} {o : Outcome A} → Sound inner [] ps o → Sound outer pre ps (and_then o (λ a. read (wrap a)))
sound_last {A} {B} {inner} {outer} {pre} wrap levels long good spelled nested h =
    sound_then
    (within wrap [] levels [] long good (λ a. spelled a ∙ ap (λ x. pre ++ x) (sym (append-nil (inner.tokens a)))) (λ a. nested a ∙ ap (λ x. levels ++ x) (sym (append-nil (inner.nesting a))))) _ h
    (λ a rest fine _. sound_read (good a fine) (spelled a))

-- one level and one token more
pub one_longer : (ns : List ℕ) (ts : List Token) (n : ℕ) (t : Token) → length ns ≡ length ts → length (ns ++ n ∷ []) ≡ length (ts ++ t ∷ [])
one_longer ns ts n t e = omega (arith, e, length-append ns (n ∷ []), length-append ts (t ∷ []))

-- ---- again and again

-- with fewer tokens than so many in all
module _ {A B : Type 0} (m : Trees A) (f : Token → Option B) (d : Kind B f) (step : A → B → Placed → Outcome A) (local : (a : A) (b : B) (ps : Placed) → IsLocal (step a b) ps) (total : ℕ)
    (each : (a : A) (b : B) (qs : Placed) → m.ok a ≡ true → d.good b ≡ true → length (m.tokens a) < total → Sound m (m.tokens a ++ d.spell b ∷ []) qs (step a b qs)) where
  abbrev Turns : ℕ → Type 0
  Turns n = (a : A) (ps : Placed) → length ps ≤ n → length (m.tokens a) + length ps < total → m.ok a ≡ true → Sound m (m.tokens a) ps (repeat f step a ps)

  goes_on : (n : ℕ) → Turns n → (pre : List Token) (qs : Placed) (o : Outcome A) → length qs ≤ n → length pre + length qs < total → Sound m pre qs o → Sound m pre qs (and_then o (repeat f step))
  goes_on n again pre qs (read c rest) few fits sound =
      let h = sound.holds in
      let done : Done m c (pre ++ tokens_in h.front) = h.is in
      let long : length (tokens_in h.front) ≡ length h.front = length-map h.front (λ p. p.1) in
      sound_further m pre (tokens_in h.front) qs rest h.front (repeat f step c rest) h.split refl
      (subst (λ x. Sound m x rest (repeat f step c rest)) done.spelled
      (again c rest (omega (arith, few, ap length h.split, length-append h.front rest)) (omega (arith, fits, long, ap length done.spelled, length-append pre (tokens_in h.front), ap length h.split, length-append h.front rest)) done.good))
  goes_on n again pre qs (stopped rest) few fits h = record { holds = h.holds }
  goes_on n again pre qs too_deep few fits h = record { holds = h.holds }

  turns : (n : ℕ) → Turns n
  turns zero a [] few fits ok = sound_read ok refl
  turns zero a (p ∷ ps) few fits ok = absurd (omega arith)
  turns (suc n) a ps few fits ok =
      subst (Sound m (m.tokens a) ps) (sym (repeat_turn f step local a ps))
      (sound_choose d _ _
      (λ b qs good short. goes_on n (turns n) (m.tokens a ++ d.spell b ∷ []) qs (step a b qs) (omega (arith, short, few)) (omega (arith, short, fits, length-append (m.tokens a) (d.spell b ∷ []))) (each a b qs ok good (omega (arith, fits))))
      (sound_read ok refl))

  -- behind what a rule read
  pub sound_more : (pre : List Token) (qs : Placed) (o : Outcome A) → length pre + length qs < total → Sound m pre qs o → Sound m pre qs (and_then o (repeat f step))
  sound_more pre qs o fits h = goes_on (length qs) (turns (length qs)) pre qs o (omega arith) fits h

pub sound_repeat : {A B : Type 0} {m : Trees A} {f : Token → Option B} (d : Kind B f) (step : A → B → Placed → Outcome A) → ((a : A) (b : B) (ps : Placed) → IsLocal (step a b) ps)
    → ((a : A) (b : B) (qs : Placed) → m.ok a ≡ true → d.good b ≡ true → Sound m (m.tokens a ++ d.spell b ∷ []) qs (step a b qs)) → (a : A) {ps : Placed} → m.ok a ≡ true → Sound m (m.tokens a) ps (repeat f step a ps)
sound_repeat {A} {B} {m} {f} d step local each a {ps} ok = turns m f d step local (suc (length (m.tokens a) + length ps)) (λ a b qs ok good _. each a b qs ok good) (length ps) a ps (omega arith) (omega arith) ok
