-- What each outcome of reading tokens says of the definitions that begin with them.
use Rattle.std.proofs.Common.{◌≡◌, inl, inr, ℕ, ◌+◌, ◌^◌, ◌<◌, true, List, [], ◌∷◌, ◌++◌, length, refl, sym, ap, subst, ◌∙◌, append_assoc, append-nil}
use Rattle.plain_values.proofs.Common.{map-append}
use Rattle.std.proofs.lemmas.List.{append_cancel_right}
use Rattle.grammar_specs.specs.Common.{Token, Placed, tokens_in, max_nesting, Written, written_tokens, is_definition, Begins, BeginsTooDeep}
use Rattle.grammar_laws.specs.Steps.{next, Outcome, read, stopped, too_deep, and_then}
use Rattle.grammar_laws.specs.DefRules.{definition, at_last, alone}
use Rattle.grammar_laws.proofs.Local.{Alike, none, more, Same, Local}
use Rattle.grammar_laws.proofs.Sound.{Begun, BegunDeep, Done, Front, Sound}
use Rattle.grammar_laws.proofs.Completes.{placed, placed_append}
use Rattle.grammar_laws.proofs.DefSound.{written_trees, alone_local, alone_sound}
use Rattle.grammar_laws.proofs.FirstDeep.{deep_at, begins_deep, read_or_deep}

-- ---- the same tokens wherever they stand

alike_placed : (front : Placed) → Alike front (placed (tokens_in front))
alike_placed [] = none
alike_placed (p ∷ front) = more refl (alike_placed front)

-- what is read alone is read to its end
pub read_to_end : (o : Outcome Written) (w : Written) (rest : Placed) → and_then o at_last ≡ read w rest → rest ≡ []
read_to_end (read v []) w rest e = cc
read_to_end (read v (p ∷ ps)) w rest e = cc
read_to_end (stopped ps) w rest e = cc
read_to_end too_deep w rest e = cc

-- a definition begins with the tokens in front, goes on as these do in no way, and none of those is too deep
pub record StopsBefore (ps rest : Placed) : Type 0 where
  pub front : Placed
  pub split : ps ≡ front ++ rest
  pub begins : Begins (tokens_in front)
  pub last : (w : Written) (ts : List Token) → is_definition w ≡ true → written_tokens w ≡ tokens_in front ++ ts → next rest ≡ next (placed ts) → ⊥
  pub flat : (xs ys : List Token) → tokens_in front ≡ xs ++ ys → BeginsTooDeep xs → ⊥

-- these tokens spell the definition, and none of them is too deep
pub record Spelled (ps : Placed) (w : Written) : Type 0 where
  pub good : is_definition w ≡ true
  pub spelled : written_tokens w ≡ tokens_in ps
  pub flat : (xs ys : List Token) → tokens_in ps ≡ xs ++ ys → BeginsTooDeep xs → ⊥

module _ (n : ℕ) (e : 0 + n ≡ max_nesting) where
  -- no definition goes on as the tokens do that stop
  no_more : (ps rest : Placed) (s : Same (alone n) ps rest stopped) (w : Written) (ts : List Token) → is_definition w ≡ true → written_tokens w ≡ tokens_in s.front ++ ts → next rest ≡ next (placed ts) → ⊥
  no_more ps rest s w ts good spelled same =
      let stops : alone n (placed (written_tokens w)) ≡ stopped (placed ts) =
      ap (λ x. alone n (placed x)) spelled ∙ ap (alone n) (map-append (λ t. (0, t)) (tokens_in s.front) ts) ∙ s.same (placed (tokens_in s.front)) (placed ts) (alike_placed s.front) same in
      elim (read_or_deep n e w good) [
        | inl reads ↦ let clash : read w [] ≡ stopped (placed ts) = sym reads ∙ stops in cc
        | inr d ↦ let clash : too_deep ≡ stopped (placed ts) = sym (deep_at (alone n) d.0 (written_tokens w) d.1.tail d.2 d.1.split) ∙ stops in cc
      ]

  -- where the rule was not too deep, none of what is in front is
  flat_before : (ps rest : Placed) (again : Placed → Outcome Written) (s : Same (alone n) ps rest again) → (too_deep ≡ again rest → ⊥) → (xs ys : List Token) → tokens_in s.front ≡ xs ++ ys → BeginsTooDeep xs → ⊥
  flat_before ps rest again s calm xs ys split deep =
      let d = begins_deep n e xs deep in
      let tokens : tokens_in s.front ≡ d.front ++ (d.tail ++ ys) = split ∙ ap (λ x. x ++ ys) d.split ∙ append_assoc d.front d.tail ys in
      calm
      (sym (ap (λ x. alone n (placed x ++ rest)) tokens ∙ ap (alone n) (placed_append d.front (d.tail ++ ys) rest) ∙ d.deepens.deep (placed (d.tail ++ ys) ++ rest))
      ∙ s.same (placed (tokens_in s.front)) rest (alike_placed s.front) refl)

  -- ---- the three outcomes

  -- the tokens stop before these
  pub stops : (ps rest : Placed) → length ps < 2 ^ 64 → alone n ps ≡ stopped rest → StopsBefore ps rest
  stops ps rest few is =
      let s : Same (alone n) ps rest stopped = subst (Local (alone n) ps) is (alone_local n ps) in
      let h : Front [] ps rest (Begun written_trees) = (subst (Sound written_trees [] ps) is (alone_sound n e ps few)).holds in
      record {
        front = s.front;
        split = s.split;
        begins = subst (λ x. Begins (tokens_in x)) (append_cancel_right h.front s.front rest (sym h.split ∙ s.split)) (h.is.tree, h.is.more, h.is.good, h.is.spelled);
        last = no_more ps rest s;
        flat = flat_before ps rest stopped s (λ e. cc);
      }

  -- some of them are too deep
  pub goes_deep : (ps : Placed) → length ps < 2 ^ 64 → alone n ps ≡ too_deep → (front rest : Placed) × (ps ≡ front ++ rest) × BeginsTooDeep (tokens_in front)
  goes_deep ps few is =
      let h : (rest : Placed) × Front [] ps rest (BegunDeep written_trees) = (subst (Sound written_trees [] ps) is (alone_sound n e ps few)).holds in
      let b = h.1.is.begun in
      (h.1.front, h.0, h.1.split, (b.tree, b.more, b.good, b.spelled, h.1.is.deep))

  -- they spell this definition
  pub reads : (ps : Placed) (w : Written) (rest : Placed) → length ps < 2 ^ 64 → alone n ps ≡ read w rest → Spelled ps w
  reads ps w rest few is =
      let s : Same (alone n) ps rest (read w) = subst (Local (alone n) ps) is (alone_local n ps) in
      let h : Front [] ps rest (Done written_trees w) = (subst (Sound written_trees [] ps) is (alone_sound n e ps few)).holds in
      let last : rest ≡ [] = read_to_end (definition n ps) w rest is in
      let whole : (f : Placed) → ps ≡ f ++ rest → f ≡ ps = λ f split. sym (split ∙ ap (λ x. f ++ x) last ∙ append-nil f) in
      record {
        good = h.is.good;
        spelled = h.is.spelled ∙ ap tokens_in (whole h.front h.split);
        flat = λ xs ys split. flat_before ps rest (read w) s (λ e. cc) xs ys (ap tokens_in (whole s.front s.split) ∙ split);
      }
