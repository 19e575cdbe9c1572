-- What spells a tree is read as it, up to the first token at which too many stand open.
use Rattle.std.proofs.Common.{◌≡◌, ℕ, Bool, true, false, List, [], ◌∷◌, ◌++◌, length, refl, sym, ap, subst, ◌∙◌, append_assoc, arith, cond, Option, Some, None, option_map, nat_lt, map, is_some, not}
use Rattle.plain_values.proofs.Common.{map-append}
use Rattle.grammar_specs.specs.Common.{Token, Placed, max_nesting}
use Rattle.grammar_laws.specs.Steps.{next, Outcome, read, stopped, too_deep, and_then, chosen, choose, repeat_within, repeat}

-- the tokens up to the first at which too many stand open, if there is one
abbrev pub until : List ℕ → List Token → Option (List Token)
until [] ts = None
until (n ∷ ns) [] = None
until (n ∷ ns) (t ∷ ts) = cond (nat_lt max_nesting n) (Some (t ∷ [])) (option_map (λ us. t ∷ us) (until ns ts))

-- the first of these, or behind them the first of those
abbrev pub before_or : Option (List Token) → List Token → Option (List Token) → Option (List Token)
before_or (Some us) ts o = Some us
before_or None ts o = option_map (λ us. ts ++ us) o

ahead : (t : Token) (ts : List Token) (o p : Option (List Token)) → option_map (λ us. t ∷ us) (before_or o ts p) ≡ before_or (option_map (λ us. t ∷ us) o) (t ∷ ts) p
ahead t ts (Some us) p = refl
ahead t ts None None = refl
ahead t ts None (Some us) = refl

map_nothing : (o : Option (List Token)) → o ≡ option_map (λ us. us) o
map_nothing None = refl
map_nothing (Some us) = refl

until_append : (ns ms : List ℕ) (ts us : List Token) → length ns ≡ length ts → until (ns ++ ms) (ts ++ us) ≡ before_or (until ns ts) ts (until ms us)
until_append [] ms [] us e = map_nothing (until ms us)
until_append [] ms (t ∷ ts) us e = absurd (omega (arith, e))
until_append (n ∷ ns) ms [] us e = absurd (omega (arith, e))
until_append (n ∷ ns) ms (t ∷ ts) us e =
    elim (nat_lt max_nesting n) as (λ b. cond b (Some (t ∷ [])) (option_map (λ vs. t ∷ vs) (until (ns ++ ms) (ts ++ us))) ≡ before_or (cond b (Some (t ∷ [])) (option_map (λ vs. t ∷ vs) (until ns ts))) (t ∷ ts) (until ms us)) [
      | true ↦ refl
      | false ↦ ap (option_map (λ vs. t ∷ vs)) (until_append ns ms ts us (omega (arith, e))) ∙ ahead t ts (until ns ts) (until ms us)
    ]

-- none of them is too deep
pub until_flat : (k : ℕ) (ts : List Token) → nat_lt max_nesting k ≡ false → until (map (λ _. k) ts) ts ≡ None
until_flat k [] flat = refl
until_flat k (t ∷ ts) flat = rw flat (ap (option_map (λ us. t ∷ us)) (until_flat k ts flat))

-- the tokens in some place
abbrev pub placed : List Token → Placed
placed ts = map (λ t. (0, t)) ts

-- nothing is left where the rule has read or stops
abbrev pub AtEnd : {A : Type 0} → Outcome A → Type 0
AtEnd (read a rest) = rest ≡ []
AtEnd (stopped rest) = rest ≡ []
AtEnd too_deep = ⊥

-- The rule is too deep at the last of these tokens, and not before it.
pub record Deepens {A : Type 0} (P : Placed → Outcome A) (us : List Token) : Type 0 where
  pub deep : (rest : Placed) → P (placed us ++ rest) ≡ too_deep
  pub before : List Token
  pub last : Token
  pub split : us ≡ before ++ last ∷ []
  pub calm : AtEnd (P (placed before))

-- The rule reads these tokens, and goes on behind them as it does again; or it is too deep at the last of those.
abbrev pub ReadsTo : {A : Type 0} → (Placed → Outcome A) → Option (List Token) → List Token → (Option Token → Bool) → (Placed → Outcome A) → Type 0
ReadsTo P None ts follows again = (rest : Placed) → follows (next rest) ≡ true → P (placed ts ++ rest) ≡ again rest
ReadsTo P (Some us) ts follows again = Deepens P us

-- The same, where so many stand open at the tokens.
pub record Reads {A : Type 0} (P : Placed → Outcome A) (ns : List ℕ) (ts : List Token) (follows : Option Token → Bool) (again : Placed → Outcome A) : Type 0 where
  pub holds : ReadsTo P (until ns ts) ts follows again

-- whatever follows
abbrev pub anything : Option Token → Bool
anything _ = true

-- no token for which the test has an answer
abbrev pub no : {A : Type 0} → (Token → Option A) → Option Token → Bool
no f None = true
no f (Some t) = not (is_some (f t))

none_is : {A : Type 0} (o : Option A) → not (is_some o) ≡ true → o ≡ None
none_is None h = refl
none_is (Some a) h = cc

pub choose_end : {A B : Type 0} (f : Token → Option A) (k : A → Placed → Outcome B) (e : Placed → Outcome B) (rest : Placed) → no f (next rest) ≡ true → choose f k e rest ≡ e rest
choose_end f k e [] h = refl
choose_end f k e (p ∷ rest) h = ap (λ o. chosen o k e p rest) (none_is (f p.1) h)

pub repeat_end : {A B : Type 0} (f : Token → Option B) (step : A → B → Placed → Outcome A) (a : A) (rest : Placed) → no f (next rest) ≡ true → repeat f step a rest ≡ read a rest
repeat_end f step a [] h = refl
repeat_end f step a (p ∷ rest) h = ap (λ o. chosen o (λ b qs. and_then (step a b qs) (repeat_within (length rest) f step)) (read a) p rest) (none_is (f p.1) h)

-- too deep at the first token
pub reads_deep : {A : Type 0} {P : Placed → Outcome A} {ns : List ℕ} {n : ℕ} {t : Token} {ts : List Token} {follows : Option Token → Bool} {again : Placed → Outcome A} → nat_lt max_nesting n ≡ true
    → ((rest : Placed) → P ((0, t) ∷ rest) ≡ too_deep) → AtEnd (P []) → Reads P (n ∷ ns) (t ∷ ts) follows again
reads_deep {t = t} over deep calm = record { holds = rw over (record { deep = deep; before = []; last = t; split = refl; calm = calm }) }

-- tokens at one level that is not too deep
pub reads_flat : {A : Type 0} {P : Placed → Outcome A} {ts : List Token} {follows : Option Token → Bool} {again : Placed → Outcome A} (k : ℕ) → nat_lt max_nesting k ≡ false
    → ((rest : Placed) → follows (next rest) ≡ true → P (placed ts ++ rest) ≡ again rest) → Reads P (map (λ _. k) ts) ts follows again
reads_flat {A} {P} {ts} {follows} {again} k flat h = record { holds = subst (λ o. ReadsTo P o ts follows again) (sym (until_flat k ts flat)) h }

end_then : {A B : Type 0} (o : Outcome A) (k : A → Placed → Outcome B) → ((a : A) → AtEnd (k a [])) → AtEnd o → AtEnd (and_then o k)
end_then (read a rest) k ends h = subst (λ ps. AtEnd (k a ps)) (sym h) (ends a)
end_then (stopped rest) k ends h = h
end_then too_deep k ends h = h

map_to : {A B : Type 0} (P R : Placed → Outcome A) (o : Option (List Token)) (ts : List Token) (follows : Option Token → Bool) (k : A → Placed → Outcome B) → ((a : A) → AtEnd (k a [])) → ReadsTo P o ts follows R
    → ReadsTo (λ ps. and_then (P ps) k) o ts follows (λ ps. and_then (R ps) k)
map_to P R None ts follows k ends h = λ rest ok. ap (λ o. and_then o k) (h rest ok)
map_to P R (Some us) ts follows k ends h =
    record { deep = λ rest. ap (λ o. and_then o k) (h.deep rest); before = h.before; last = h.last; split = h.split; calm = end_then (P (placed h.before)) k ends h.calm }

-- what goes on reads or stops at the end of the tokens
pub reads_map : {A B : Type 0} {P R : Placed → Outcome A} {ns : List ℕ} {ts : List Token} {follows : Option Token → Bool} (k : A → Placed → Outcome B) → ((a : A) → AtEnd (k a [])) → Reads P ns ts follows R
    → Reads (λ ps. and_then (P ps) k) ns ts follows (λ ps. and_then (R ps) k)
reads_map {A} {B} {P} {R} {ns} {ts} {follows} k ends h = record { holds = map_to P R (until ns ts) ts follows k ends h.holds }

pub placed_append : (xs ys : List Token) (rest : Placed) → placed (xs ++ ys) ++ rest ≡ placed xs ++ (placed ys ++ rest)
placed_append xs ys rest = ap (λ x. x ++ rest) (map-append (λ t. (0, t)) xs ys) ∙ append_assoc (placed xs) (placed ys) rest

joins : {A : Type 0} (P R : Placed → Outcome A) (o p : Option (List Token)) (xs : List Token) (t : Token) (ys : List Token) (first follows : Option Token → Bool) (again : Placed → Outcome A) → ReadsTo P o xs first R → first (Some t) ≡ true
    → ReadsTo (λ ps. R ((0, t) ∷ ps)) p ys follows again → ReadsTo P (before_or o xs (option_map (λ us. t ∷ us) p)) (xs ++ t ∷ ys) follows again
joins P R (Some us) p xs t ys first follows again h ok l = h
joins P R None None xs t ys first follows again h ok l = λ rest more. ap P (placed_append xs (t ∷ ys) rest) ∙ h ((0, t) ∷ (placed ys ++ rest)) ok ∙ l rest more
joins P R None (Some us) xs t ys first follows again h ok l = record {
  deep = λ rest. ap P (placed_append xs (t ∷ us) rest) ∙ h ((0, t) ∷ (placed us ++ rest)) ok ∙ l.deep rest;
  before = xs ++ t ∷ l.before;
  last = l.last;
  split = ap (λ vs. xs ++ t ∷ vs) l.split ∙ sym (append_assoc xs (t ∷ l.before) (l.last ∷ []));
  calm = subst (λ o. AtEnd o) (sym (ap P (map-append (λ t. (0, t)) xs (t ∷ l.before)) ∙ h ((0, t) ∷ placed l.before) ok)) l.calm;
}

-- some tokens, one that is not too deep, and more
pub reads_then : {A : Type 0} {P R : Placed → Outcome A} {ns ms : List ℕ} {xs ys : List Token} {first follows : Option Token → Bool} {again : Placed → Outcome A} (n : ℕ) (t : Token) → Reads P ns xs first R
    → first (Some t) ≡ true → length ns ≡ length xs → nat_lt max_nesting n ≡ false → Reads (λ ps. R ((0, t) ∷ ps)) ms ys follows again → Reads P (ns ++ n ∷ ms) (xs ++ t ∷ ys) follows again
reads_then {A} {P} {R} {ns} {ms} {xs} {ys} {first} {follows} {again} n t h ok long flat l =
    let whole : until (ns ++ n ∷ ms) (xs ++ t ∷ ys) ≡ before_or (until ns xs) xs (option_map (λ us. t ∷ us) (until ms ys)) =
    until_append ns (n ∷ ms) xs (t ∷ ys) long ∙ ap (λ b. before_or (until ns xs) xs (cond b (Some (t ∷ [])) (option_map (λ us. t ∷ us) (until ms ys)))) flat in
    record { holds = subst (λ o. ReadsTo P o (xs ++ t ∷ ys) follows again) (sym whole) (joins P R (until ns xs) (until ms ys) xs t ys first follows again h.holds ok l.holds) }

-- one token that is not too deep, and more
pub reads_token : {A : Type 0} {P : Placed → Outcome A} {ms : List ℕ} {n : ℕ} {t : Token} {ys : List Token} {follows : Option Token → Bool} {again : Placed → Outcome A} → nat_lt max_nesting n ≡ false
    → Reads (λ ps. P ((0, t) ∷ ps)) ms ys follows again → Reads P (n ∷ ms) (t ∷ ys) follows again
reads_token {A} {P} {ms} {n} {t} {ys} {follows} {again} flat l =
    let nothing : Reads P [] [] anything P = record { holds = λ rest ok. refl } in
    reads_then n t nothing refl refl flat l

end_to : {A : Type 0} (P R : Placed → Outcome A) (o : Option (List Token)) (ts : List Token) (first follows : Option Token → Bool) (again : Placed → Outcome A) → ReadsTo P o ts first R
    → ((rest : Placed) → follows (next rest) ≡ true → (first (next rest) ≡ true) × (R rest ≡ again rest)) → ReadsTo P o ts follows again
end_to P R None ts first follows again h end = λ rest ok. h rest (end rest ok).0 ∙ (end rest ok).1
end_to P R (Some us) ts first follows again h end = h

-- where what follows ends it
pub reads_end : {A : Type 0} {P R : Placed → Outcome A} {ns : List ℕ} {ts : List Token} {first follows : Option Token → Bool} {again : Placed → Outcome A} → Reads P ns ts first R
    → ((rest : Placed) → follows (next rest) ≡ true → (first (next rest) ≡ true) × (R rest ≡ again rest)) → Reads P ns ts follows again
reads_end {A} {P} {R} {ns} {ts} {first} {follows} {again} h end = record { holds = end_to P R (until ns ts) ts first follows again h.holds end }

-- the same by another rule
pub reads_as : {A : Type 0} {P Q : Placed → Outcome A} {ns : List ℕ} {ts : List Token} {follows : Option Token → Bool} {again : Placed → Outcome A} → ((ps : Placed) → P ps ≡ Q ps) → Reads P ns ts follows again → Reads Q ns ts follows again
reads_as {A} {P} {Q} {ns} {ts} {follows} {again} same h = subst (λ F. Reads F ns ts follows again) (λ i ps. same ps i) h
