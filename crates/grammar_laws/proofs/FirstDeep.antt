-- The first token at which too many stand open is one, whatever definition the tokens begin.
use Rattle.plain_values.proofs.Common.{nat_tests, map-append, take-append-drop, take-take, list_any-append, same_Some}
use Rattle.std.proofs.Common.{◌≡◌, ◌⊎◌, inl, inr, ℕ, ◌+◌, ◌≤◌, Bool, true, false, cond, List, [], ◌∷◌, ◌++◌, length, take, drop, refl, sym, ap, subst, ◌∙◌, append_assoc, append-nil, arith, length-append, ◌||◌, Option, Some, None, option_map, nat_lt}
use Rattle.grammar_specs.specs.Common.{Token, Placed, nesting, max_nesting, is_too_deep, Written, written_tokens, is_definition, Begins, BeginsTooDeep}
use Rattle.grammar_laws.specs.Steps.{Outcome, read, too_deep}
use Rattle.grammar_laws.specs.DefRules.{alone}
use Rattle.grammar_laws.proofs.Options.{map_then, cond_then}
use Rattle.grammar_laws.proofs.Completes.{AtEnd, Deepens, ReadsTo, until, placed}
use Rattle.grammar_laws.proofs.DefCompletes.{at_end, alone_read}

-- ---- up to the first token at which too many stand open

-- it is among the tokens, and too many stand open in them up to it
pub record FirstDeep (ns : List ℕ) (ts us : List Token) : Type 0 where
  pub tail : List Token
  pub split : ts ≡ us ++ tail
  pub deep : is_too_deep (take (length us) ns) ≡ true

deep_here : (n : ℕ) (ns : List ℕ) (t : Token) (ts us : List Token) → nat_lt max_nesting n ≡ true → t ∷ [] ≡ us → FirstDeep (n ∷ ns) (t ∷ ts) us
deep_here n ns t ts us here one = subst (λ vs. FirstDeep (n ∷ ns) (t ∷ ts) vs) one (record { tail = ts; split = refl; deep = rw here refl })

or_true : (b c : Bool) → c ≡ true → (b || c) ≡ true
or_true b c h = grind (arith, nat_tests)

deep_later : (n : ℕ) (ns : List ℕ) (t : Token) (ts us vs : List Token) → FirstDeep ns ts vs → t ∷ vs ≡ us → FirstDeep (n ∷ ns) (t ∷ ts) us
deep_later n ns t ts us vs h same =
    subst (λ xs. FirstDeep (n ∷ ns) (t ∷ ts) xs) same (record { tail = h.tail; split = ap (λ x. t ∷ x) h.split; deep = or_true (nat_lt max_nesting n) (is_too_deep (take (length vs) ns)) h.deep })

pub first_deep : (ns : List ℕ) (ts us : List Token) → until ns ts ≡ Some us → FirstDeep ns ts us
first_deep [] ts us e = cc
first_deep (n ∷ ns) [] us e = cc
first_deep (n ∷ ns) (t ∷ ts) us e =
    cond_then (nat_lt max_nesting n) (Some (t ∷ [])) (option_map (λ vs. t ∷ vs) (until ns ts)) us e
    (λ here one. deep_here n ns t ts us here (same_Some (t ∷ []) us one))
    (λ _ others. map_then (λ vs. t ∷ vs) (until ns ts) us others (λ vs is same. deep_later n ns t ts us vs (first_deep ns ts vs is) same))

-- where too many stand open in the front, that is in it
abbrev DeepIn : Option (List Token) → List Token → Type 0
DeepIn o xs = (us : List Token) × (tail : List Token) × (o ≡ Some us) × (xs ≡ us ++ tail)

deep_in : (ns : List ℕ) (xs ts : List Token) → is_too_deep (take (length xs) ns) ≡ true → DeepIn (until ns (xs ++ ts)) xs
deep_in ns [] ts h = cc
deep_in [] (x ∷ xs) ts h = cc
deep_in (n ∷ ns) (x ∷ xs) ts h =
    elim (nat_lt max_nesting n) as (λ b. (b || is_too_deep (take (length xs) ns)) ≡ true → DeepIn (cond b (Some (x ∷ [])) (option_map (λ us. x ∷ us) (until ns (xs ++ ts)))) (x ∷ xs)) [
      | true ↦ λ _. (x ∷ [], xs, refl, refl)
      | false ↦ λ h. let later = deep_in ns xs ts h in (x ∷ later.0, later.1, ap (option_map (λ us. x ∷ us)) later.2, ap (λ y. x ∷ y) later.3)
    ] h

-- too many stand open in all where they do in the front
pub deep_whole : (k : ℕ) (ns : List ℕ) → is_too_deep (take k ns) ≡ true → is_too_deep ns ≡ true
deep_whole k ns h =
    ap is_too_deep (sym (take-append-drop k ns)) ∙ list_any-append (λ n. nat_lt max_nesting n) (take k ns) (drop k ns) ∙ ap (λ b. b || is_too_deep (drop k ns)) h

deep_more : (j k : ℕ) (ns : List ℕ) → j ≤ k → is_too_deep (take j ns) ≡ true → is_too_deep (take k ns) ≡ true
deep_more j k ns few h = deep_whole j (take k ns) (ap is_too_deep (take-take j k ns few) ∙ h)

-- ---- there is one

-- of two fronts of a list one goes on from the other
fronts : (us vs xs ys : List Token) → us ++ xs ≡ vs ++ ys → ((c : List Token) × (vs ≡ us ++ c)) ⊎ ((t : Token) × (c : List Token) × (us ≡ vs ++ t ∷ c))
fronts [] vs xs ys e = inl (vs, refl)
fronts (u ∷ us) [] xs ys e = inr (u, us, refl)
fronts (u ∷ us) (v ∷ vs) xs ys e =
    let same : u ≡ v = cc in
    elim (fronts us vs xs ys (cc)) [
      | inl h ↦ inl (h.0, ap (λ ts. v ∷ ts) h.1 ∙ ap (λ t. t ∷ (us ++ h.0)) (sym same))
      | inr h ↦ inr (h.0, h.1, ap (λ ts. u ∷ ts) h.2 ∙ ap (λ t. t ∷ (vs ++ h.0 ∷ h.1)) same)
    ]

-- so it is in those that begin with them
pub deep_at : {A : Type 0} (P : Placed → Outcome A) (us vs more : List Token) → Deepens P us → vs ≡ us ++ more → P (placed vs) ≡ too_deep
deep_at P us vs more h e = ap (λ x. P (placed x)) e ∙ ap P (map-append (λ t. (0, t)) us more) ∙ h.deep (placed more)

-- where the rule is too deep at the last of these tokens, it is not so first at a later one
no_later : {A : Type 0} (P : Placed → Outcome A) (us vs xs ys : List Token) → Deepens P us → Deepens P vs → us ++ xs ≡ vs ++ ys → length vs ≤ length us
no_later P us vs xs ys h k e =
    elim (fronts us k.before xs (k.last ∷ ys) (e ∙ ap (λ x. x ++ ys) k.split ∙ append_assoc k.before (k.last ∷ []) ys)) [
      | inl f ↦ absurd (subst (λ o. AtEnd o) (deep_at P us k.before f.0 h f.1) k.calm)
      | inr f ↦ omega (arith, ap length f.2, length-append k.before (f.0 ∷ f.1), ap length k.split, length-append k.before (k.last ∷ []))
    ]

-- ---- in definitions

-- tokens in which a definition begins too deep, up to where it is so first
pub record BeginsDeep (P : Placed → Outcome Written) (xs : List Token) : Type 0 where
  pub front : List Token
  pub tail : List Token
  pub split : xs ≡ front ++ tail
  pub deepens : Deepens P front

module _ (n : ℕ) (e : 0 + n ≡ max_nesting) where
  pub begins_deep : (xs : List Token) → BeginsTooDeep xs → BeginsDeep (alone n) xs
  begins_deep xs h =
      let found = deep_in (nesting h.0) xs h.1 h.4 in record {
        front = found.0;
        tail = found.1;
        split = found.3;
        deepens = subst (λ o. ReadsTo (alone n) o (written_tokens h.0) at_end (read h.0)) (ap (until (nesting h.0)) h.3 ∙ found.2) (alone_read n e h.0 h.2).holds;
      }

  -- it is read, or too deep in some of its tokens
  abbrev ReadOrDeep : Written → Type 0
  ReadOrDeep w = (alone n (placed (written_tokens w)) ≡ read w []) ⊎ ((us : List Token) × FirstDeep (nesting w) (written_tokens w) us × Deepens (alone n) us)

  by_first : (w : Written) (o : Option (List Token)) → until (nesting w) (written_tokens w) ≡ o → ReadsTo (alone n) o (written_tokens w) at_end (read w) → ReadOrDeep w
  by_first w None is h = inl (ap (alone n) (sym (append-nil (placed (written_tokens w)))) ∙ h [] refl)
  by_first w (Some us) is h = inr (us, first_deep (nesting w) (written_tokens w) us is, h)

  pub read_or_deep : (w : Written) → is_definition w ≡ true → ReadOrDeep w
  read_or_deep w good = by_first w (until (nesting w) (written_tokens w)) refl (alone_read n e w good).holds

  flat_read : (w : Written) → is_definition w ≡ true → (BeginsTooDeep (written_tokens w) → ⊥) → alone n (placed (written_tokens w)) ≡ read w []
  flat_read w good flat = elim (read_or_deep w good) [
    | inl reads ↦ reads
    | inr d ↦
        let few : length d.0 ≤ length (written_tokens w) = omega (arith, ap length d.1.split, length-append d.0 d.1.tail) in
        absurd (flat (w, [], good, sym (append-nil (written_tokens w)), deep_more (length d.0) (length (written_tokens w)) (nesting w) few d.1.deep))
  ]

  -- the same tokens spell one definition, unless too many stand open in them
  pub one_flat : (v w : Written) → is_definition v ≡ true → is_definition w ≡ true → written_tokens v ≡ written_tokens w → (BeginsTooDeep (written_tokens v) → ⊥) → v ≡ w
  one_flat v w good_v good_w same flat =
      let one : read v [] ≡ read w [] = sym (flat_read v good_v flat) ∙ ap (λ x. alone n (placed x)) same ∙ flat_read w good_w (λ deep. flat (subst BeginsTooDeep (sym same) deep)) in
      cc

  -- where a definition is too deep in some tokens, each that begins with them is
  pub deep_too : (xs ts : List Token) (w : Written) → BeginsTooDeep xs → is_definition w ≡ true → written_tokens w ≡ xs ++ ts → is_too_deep (take (length xs) (nesting w)) ≡ true
  deep_too xs ts w deep good spelled =
      let d = begins_deep xs deep in
      let behind : written_tokens w ≡ d.front ++ (d.tail ++ ts) = spelled ∙ ap (λ x. x ++ ts) d.split ∙ append_assoc d.front d.tail ts in
      elim (read_or_deep w good) [
        | inl reads ↦ let clash : too_deep ≡ read w [] = sym (deep_at (alone n) d.front (written_tokens w) (d.tail ++ ts) d.deepens behind) ∙ reads in cc
        | inr f ↦
            let few = no_later (alone n) d.front f.0 (d.tail ++ ts) f.1.tail d.deepens f.2 (sym behind ∙ f.1.split) in
            deep_more (length f.0) (length xs) (nesting w) (omega (arith, few, ap length d.split, length-append d.front d.tail)) f.1.deep
      ]

  -- and so are more tokens, if a definition begins with them
  pub deep_on : (xs more : List Token) → BeginsTooDeep xs → Begins (xs ++ more) → BeginsTooDeep (xs ++ more)
  deep_on xs more deep (w, ts, good, spelled) =
      (w, ts, good, spelled, deep_more (length xs) (length (xs ++ more)) (nesting w) (omega (arith, length-append xs more)) (deep_too xs (more ++ ts) w deep good (spelled ∙ append_assoc xs more ts)))
