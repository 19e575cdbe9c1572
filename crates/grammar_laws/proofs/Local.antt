-- A rule reads the same tokens wherever they stand, and the next one behind them decides.
use Rattle.std.proofs.Common.{◌≡◌, ℕ, zero, suc, ◌≤◌, [], ◌∷◌, ◌++◌, length, refl, sym, ap, subst, ◌∙◌, append_assoc, arith, length-append, Option, Some, None, option_and_then}
use Rattle.grammar_specs.specs.Common.{Token, Placed}
use Rattle.grammar_laws.specs.Steps.{next, Outcome, read, stopped, too_deep, and_then, chosen, choose, repeat_within, repeat}

-- the same tokens, perhaps at other places
pub data Alike : Placed → Placed → Type 0 where
  none : Alike [] []
  more : {p q : ℕ × Token} {ps qs : Placed} → p.1 ≡ q.1 → Alike ps qs → Alike (p ∷ ps) (q ∷ qs)

-- Behind these tokens, wherever they stand, comes the same outcome, as long as the next token is the same.
pub record Same {A : Type 0} (P : Placed → Outcome A) (ps rest : Placed) (again : Placed → Outcome A) : Type 0 where
  pub front : Placed
  pub split : ps ≡ front ++ rest
  pub same : (qs others : Placed) → Alike front qs → next rest ≡ next others → P (qs ++ others) ≡ again others

abbrev pub Local : {A : Type 0} → (Placed → Outcome A) → Placed → Outcome A → Type 0
Local P ps (read a rest) = Same P ps rest (read a)
Local P ps (stopped rest) = Same P ps rest stopped
Local P ps too_deep = Unit {0}

-- the rule is so at these tokens
abbrev pub IsLocal : {A : Type 0} → (Placed → Outcome A) → Placed → Type 0
IsLocal P ps = Local P ps (P ps)

same_here : {A : Type 0} (P : Placed → Outcome A) (qs others : Placed) → Alike [] qs → P (qs ++ others) ≡ P others
same_here P _ others none = refl

pub local_read : {A : Type 0} {a : A} (ps : Placed) → IsLocal (read a) ps
local_read {A} {a} ps = record { front = []; split = refl; same = λ qs others alike e. same_here (read a) qs others alike }

pub local_stopped : {A : Type 0} (ps : Placed) → IsLocal {A = A} stopped ps
local_stopped ps = record { front = []; split = refl; same = λ qs others alike e. same_here stopped qs others alike }

-- ---- one after the other

record Halves (f g qs : Placed) : Type 0 where
  first : Placed
  second : Placed
  split : qs ≡ first ++ second
  front : Alike f first
  behind : Alike g second

halves : (f g qs : Placed) → Alike (f ++ g) qs → Halves f g qs
halves [] g qs alike = record { first = []; second = qs; split = refl; front = none; behind = alike }
halves (p ∷ f) g [] alike = elim alike [ ]
halves (p ∷ f) g (q ∷ qs) (more e alike) =
    let h = halves f g qs alike in
    record { first = q ∷ h.first; second = h.second; split = ap (λ x. q ∷ x) h.split; front = more e h.front; behind = h.behind }

next_alike : (f qs rest others : Placed) → Alike f qs → next rest ≡ next others → next (f ++ rest) ≡ next (qs ++ others)
next_alike _ _ rest others none e = e
next_alike _ _ rest others (more same alike) e = ap (λ t. Some t) same

same_then : {A B : Type 0} (P : Placed → Outcome A) (Q : A → Placed → Outcome B) (ps : Placed) (a : A) (rest last : Placed) (again : Placed → Outcome B)
    → Same P ps rest (read a) → Same (Q a) rest last again → Same (λ qs. and_then (P qs) Q) ps last again
same_then P Q ps a rest last again s t = record {
  front = s.front ++ t.front;
  split = s.split ∙ ap (λ x. s.front ++ x) t.split ∙ sym (append_assoc s.front t.front last);
  same = λ qs others alike e.
      let h = halves s.front t.front qs alike in
      let first : P (qs ++ others) ≡ read a (h.second ++ others) =
      ap P (ap (λ x. x ++ others) h.split ∙ append_assoc h.first h.second others)
      ∙ s.same h.first (h.second ++ others) h.front (ap next t.split ∙ next_alike t.front h.second last others h.behind e) in
      ap (λ o. and_then o Q) first ∙ t.same h.second others h.behind e;
}

local_as : {A : Type 0} (P Q : Placed → Outcome A) (ps qs : Placed) → ((rest : Placed) (again : Placed → Outcome A) → Same P ps rest again → Same Q qs rest again) → (o : Outcome A) → Local P ps o → Local Q qs o
local_as P Q ps qs f (read b rest) s = f rest (read b) s
local_as P Q ps qs f (stopped rest) s = f rest stopped s
local_as P Q ps qs f too_deep s = tt

local_first : {A B : Type 0} (P : Placed → Outcome A) (Q : A → Placed → Outcome B) (ps : Placed) (o : Outcome A) → P ps ≡ o → Local P ps o → ((a : A) (rest : Placed) → P ps ≡ read a rest → IsLocal (Q a) rest)
    → Local (λ qs. and_then (P qs) Q) ps (and_then o Q)
local_first P Q ps (read a rest) e s k = local_as (Q a) (λ qs. and_then (P qs) Q) rest ps (λ last again t. same_then P Q ps a rest last again s t) (Q a rest) (k a rest e)
local_first P Q ps (stopped rest) e s k = record { front = s.front; split = s.split; same = λ qs others alike n. ap (λ o. and_then o Q) (s.same qs others alike n) }
local_first P Q ps too_deep e s k = tt

pub local_then : {A B : Type 0} (P : Placed → Outcome A) (Q : A → Placed → Outcome B) (ps : Placed) → IsLocal P ps → ((a : A) (rest : Placed) → P ps ≡ read a rest → IsLocal (Q a) rest) → IsLocal (λ qs. and_then (P qs) Q) ps
local_then P Q ps s k = local_first P Q ps (P ps) refl s k

-- ---- by the next token

choose_else : {A B : Type 0} (f : Token → Option A) (k : A → Placed → Outcome B) (e : Placed → Outcome B) (qs : Placed) → option_and_then f (next qs) ≡ None → choose f k e qs ≡ e qs
choose_else f k e [] miss = refl
choose_else f k e (q ∷ qs) miss = ap (λ o. chosen o k e q qs) miss

same_else : {A B : Type 0} (f : Token → Option A) (k : A → Placed → Outcome B) (e : Placed → Outcome B) (ps rest : Placed) (again : Placed → Outcome B) → option_and_then f (next ps) ≡ None → Same e ps rest again → Same (choose f k e) ps rest again
same_else f k e ps rest again miss s = record {
  front = s.front;
  split = s.split;
  same = λ qs others alike n. choose_else f k e (qs ++ others) (ap (option_and_then f) (sym (ap next s.split ∙ next_alike s.front qs rest others alike n)) ∙ miss) ∙ s.same qs others alike n;
}

same_behind : {A B : Type 0} (f : Token → Option A) (k : A → Placed → Outcome B) (e : Placed → Outcome B) (p : ℕ × Token) (ps rest : Placed) (a : A) (again : Placed → Outcome B) → f p.1 ≡ Some a → Same (k a) ps rest again
    → Same (choose f k e) (p ∷ ps) rest again
same_behind f k e p ps rest a again is s = record { front = p ∷ s.front; split = ap (λ x. p ∷ x) s.split; same = behind }
  where
    behind : (qs others : Placed) → Alike (p ∷ s.front) qs → next rest ≡ next others → choose f k e (qs ++ others) ≡ again others
    behind [] others alike n = elim alike [ ]
    behind (q ∷ qs) others (more same alike) n = ap (λ o. chosen o k e q (qs ++ others)) (sym (ap f same) ∙ is) ∙ s.same qs others alike n

local_chosen : {A B : Type 0} (f : Token → Option A) (k : A → Placed → Outcome B) (e : Placed → Outcome B) (p : ℕ × Token) (ps : Placed) (o : Option A) → f p.1 ≡ o
    → ((a : A) → f p.1 ≡ Some a → IsLocal (k a) ps) → IsLocal e (p ∷ ps) → Local (choose f k e) (p ∷ ps) (chosen o k e p ps)
local_chosen f k e p ps None is s t = local_as e (choose f k e) (p ∷ ps) (p ∷ ps) (λ rest again h. same_else f k e (p ∷ ps) rest again is h) (e (p ∷ ps)) t
local_chosen f k e p ps (Some a) is s t = local_as (k a) (choose f k e) ps (p ∷ ps) (λ rest again h. same_behind f k e p ps rest a again is h) (k a ps) (s a is)

pub local_choose : {A B : Type 0} (f : Token → Option A) (k : A → Placed → Outcome B) (e : Placed → Outcome B) (ps : Placed) → ((a : A) (p : ℕ × Token) (qs : Placed) → ps ≡ p ∷ qs → IsLocal (k a) qs) → IsLocal e ps
    → IsLocal (choose f k e) ps
local_choose f k e [] s t = local_as e (choose f k e) [] [] (λ rest again h. same_else f k e [] rest again refl h) (e []) t
local_choose f k e (p ∷ ps) s t = local_chosen f k e p ps (f p.1) refl (λ a _. s a p ps refl) t

-- ---- again and again

module _ {A B : Type 0} (f : Token → Option B) (step : A → B → Placed → Outcome A) (local : (a : A) (b : B) (ps : Placed) → IsLocal (step a b) ps) where
  shorter : (P : Placed → Outcome A) (ps : Placed) (a : A) (rest : Placed) → IsLocal P ps → P ps ≡ read a rest → length rest ≤ length ps
  shorter P ps a rest s e =
      let t : Same P ps rest (read a) = subst (Local P ps) e s in
      omega (arith, ap length t.split, length-append t.front rest)

  abbrev Turns : ℕ → ℕ → Type 0
  Turns n m = (a : A) (ps : Placed) → length ps ≤ n → length ps ≤ m → repeat_within n f step a ps ≡ repeat_within m f step a ps

  goes_on : (n m : ℕ) → Turns n m → (qs : Placed) (o : Outcome A) → ((a : A) (rest : Placed) → o ≡ read a rest → length rest ≤ length qs) → length qs ≤ n → length qs ≤ m
      → and_then o (repeat_within n f step) ≡ and_then o (repeat_within m f step)
  goes_on n m same qs (read a rest) short low high = let few = short a rest refl in same a rest (omega arith) (omega arith)
  goes_on n m same qs (stopped rest) short low high = refl
  goes_on n m same qs too_deep short low high = refl

  enough : (n m : ℕ) → Turns n m
  enough zero zero a ps low high = refl
  enough zero (suc m) a [] low high = refl
  enough zero (suc m) a (p ∷ ps) low high = absurd (omega arith)
  enough (suc n) zero a [] low high = refl
  enough (suc n) zero a (p ∷ ps) low high = absurd (omega arith)
  enough (suc n) (suc m) a [] low high = refl
  enough (suc n) (suc m) a (p ∷ ps) low high =
      elim (f p.1) as (λ o. chosen o (λ b qs. and_then (step a b qs) (repeat_within n f step)) (read a) p ps ≡ chosen o (λ b qs. and_then (step a b qs) (repeat_within m f step)) (read a) p ps) [
        | None ↦ refl
        | Some b ↦ goes_on n m (enough n m) ps (step a b ps) (λ c rest e. shorter (step a b) ps c rest (local a b ps) e) (omega arith) (omega arith)
      ]

  -- one turn
  pub repeat_turn : (a : A) (ps : Placed) → repeat f step a ps ≡ choose f (λ b qs. and_then (step a b qs) (repeat f step)) (read a) ps
  repeat_turn a [] = refl
  repeat_turn a (p ∷ ps) =
      elim (f p.1) as (λ o. chosen o (λ b qs. and_then (step a b qs) (repeat_within (length ps) f step)) (read a) p ps ≡ chosen o (λ b qs. and_then (step a b qs) (repeat f step)) (read a) p ps) [
        | None ↦ refl
        | Some b ↦ again (step a b ps) (λ c rest e. shorter (step a b) ps c rest (local a b ps) e)
      ]
    where
      again : (o : Outcome A) → ((c : A) (rest : Placed) → o ≡ read c rest → length rest ≤ length ps) → and_then o (repeat_within (length ps) f step) ≡ and_then o (repeat f step)
      again (read c rest) short = enough (length ps) (length rest) c rest (short c rest refl) (omega arith)
      again (stopped rest) short = refl
      again too_deep short = refl

  turned : (a : A) (ps : Placed) → IsLocal (λ (qs : Placed). choose f (λ b qs. and_then (step a b qs) (repeat f step)) (read a) qs) ps → IsLocal (repeat f step a) ps
  turned a ps s =
      let turn : (λ (qs : Placed). choose f (λ b qs. and_then (step a b qs) (repeat f step)) (read a) qs) ≡ repeat f step a = λ i qs. sym (repeat_turn a qs) i in
      subst (λ (F : Placed → Outcome A). IsLocal F ps) turn s

  local_turns : (n : ℕ) (a : A) (ps : Placed) → length ps ≤ n → IsLocal (repeat f step a) ps
  local_turns zero a [] few = turned a [] (local_choose f (λ b qs. and_then (step a b qs) (repeat f step)) (read a) [] (λ b p qs e. cc) (local_read []))
  local_turns zero a (p ∷ ps) few = absurd (omega arith)
  local_turns (suc n) a ps few =
      turned a ps
      (local_choose f (λ b qs. and_then (step a b qs) (repeat f step)) (read a) ps
      (λ b p qs e. local_then (step a b) (repeat f step) qs (local a b qs) (λ c rest is.
      local_turns n c rest (omega (arith, few, ap length e, shorter (step a b) qs c rest (local a b qs) is))))
      (local_read ps))

  pub local_repeat : (a : A) (ps : Placed) → IsLocal (repeat f step a) ps
  local_repeat a ps = local_turns (length ps) a ps (omega arith)
