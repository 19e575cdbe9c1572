-- Cutting a text into tokens from an offset on.
use Rattle.std.proofs.Common.{◌≡◌, ℕ, zero, suc, ◌+◌, ◌-◌, ◌<◌, ◌≤◌, true, false, cond, List, [], ◌∷◌, ◌++◌, length, take, drop, refl, sym, ap, ◌∙◌, arith, length-drop, append_assoc, append-nil, Option, Some, None}
use Rattle.plain_values.proofs.Common.{prefix_len, drop_all, prefix_len-le-length}
use Rattle.grammar_specs.specs.Common.{Token, is_blank, Placed}
use Rattle.grammar_laws.specs.Front.{drop_while, token_at, token_in_front}
use Rattle.grammar_laws.proofs.FrontLists.{drop_while_is}
use Rattle.grammar_laws.specs.Reading.{Cut, with_first, cut_within, cut}
use Rattle.view_lang.proofs.Fronts.{rest_is}

-- ---- blanks

drop_twice : (i j : ℕ) (xs : List ℕ) → drop j (drop i xs) ≡ drop (i + j) xs
drop_twice zero j xs = ap (λ n. drop n xs) (none_more j)
  where
    none_more : (j : ℕ) → j ≡ 0 + j
    none_more j = omega arith
drop_twice (suc i) j [] = nothing j
  where
    empty : (n : ℕ) → drop {A = ℕ} n [] ≡ []
    empty zero = refl
    empty (suc n) = refl

    nothing : (j : ℕ) → drop j [] ≡ drop {A = ℕ} (suc i + j) []
    nothing j = empty j ∙ sym (empty (suc i + j))
drop_twice (suc i) j (x ∷ xs) = drop_twice i j xs ∙ ap (λ n. drop n (x ∷ xs)) (one_more i j)
  where
    one_more : (i j : ℕ) → suc (i + j) ≡ suc i + j
    one_more i j = omega arith

-- behind the blanks from an offset on
behind_blanks : (text : List ℕ) (at next : ℕ) → next ≡ at + prefix_len is_blank (drop at text) → drop next text ≡ drop_while is_blank (drop at text)
behind_blanks text at next e =
    ap (λ n. drop n text) e ∙ sym (drop_twice at (prefix_len is_blank (drop at text)) text) ∙ sym (drop_while_is is_blank (drop at text))

blanks_within : (text : List ℕ) (at next : ℕ) → at ≤ length text → next ≡ at + prefix_len is_blank (drop at text) → next ≤ length text
blanks_within text at next h e = omega (arith, prefix_len-le-length is_blank (drop at text), length-drop at text)

-- the blanks from an offset on end within the text
pub blanks_end : (text bytes : List ℕ) (at n : ℕ) → at ≤ length text → bytes ≡ text → n ≡ prefix_len is_blank (take (length bytes - at) (drop at bytes)) → at + n ≤ length text
blanks_end text bytes at n h same e =
    let count : n ≡ prefix_len is_blank (drop at text) = e ∙ ap (prefix_len is_blank) (rest_is at bytes ∙ ap (drop at) same) in
    omega (arith, blanks_within text at (at + n) h (ap (λ k. at + k) count))

-- no blank is left behind the blanks
none_left : (xs : List ℕ) → drop_while is_blank (drop_while is_blank xs) ≡ drop_while is_blank xs
none_left [] = refl
none_left (x ∷ xs) =
    elim (is_blank x) as (λ v. is_blank x ≡ v → drop_while is_blank (cond v (drop_while is_blank xs) (x ∷ xs)) ≡ cond v (drop_while is_blank xs) (x ∷ xs)) [
      | true ↦ λ e. none_left xs
      | false ↦ λ e. rw e refl
    ] refl

-- ---- turns

-- what the token that was found gives
abbrev at_token : ℕ → ℕ → ℕ → Option (Token × List ℕ) → Cut
at_token turns size at None = ([], Some at)
at_token turns size at (Some f) = with_first (at, f.0) (cut_within turns size f.1)

-- what a turn gives where no blank stands in front
abbrev in_turn : ℕ → ℕ → List ℕ → Cut
in_turn turns size [] = ([], None)
in_turn turns size (b ∷ rest) = at_token turns size (size - length (b ∷ rest)) (token_at b rest)

a_turn : (turns size : ℕ) (bytes left : List ℕ) → drop_while is_blank bytes ≡ left → cut_within (suc turns) size bytes ≡ in_turn turns size left
a_turn turns size bytes left e = let opened : cut_within (suc turns) size bytes ≡ in_turn turns size (drop_while is_blank bytes) = refl in opened ∙ ap (in_turn turns size) e

-- blanks take no turn
blanks_skipped : (turns size : ℕ) (bytes : List ℕ) → cut_within turns size bytes ≡ cut_within turns size (drop_while is_blank bytes)
blanks_skipped zero size bytes = refl
blanks_skipped (suc turns) size bytes =
    a_turn turns size bytes (drop_while is_blank bytes) refl ∙ sym (a_turn turns size (drop_while is_blank bytes) (drop_while is_blank bytes) (none_left bytes))

token_turn : (turns size : ℕ) (bytes : List ℕ) (t : Token) (left : List ℕ) → Some (t, left) ≡ token_in_front bytes → in_turn turns size bytes ≡ with_first (size - length bytes, t) (cut_within turns size left)
token_turn turns size [] t left found = cc
token_turn turns size (b ∷ rest) t left found = ap (at_token turns size (size - length (b ∷ rest))) (sym found)

wrong_turn : (turns size : ℕ) (bytes : List ℕ) → 0 < length bytes → None ≡ token_in_front bytes → in_turn turns size bytes ≡ ([], Some (size - length bytes))
wrong_turn turns size [] some none = absurd (omega arith)
wrong_turn turns size (b ∷ rest) some none = ap (at_token turns size (size - length (b ∷ rest))) (sym none)

-- ---- how far a text was cut

-- these tokens, and then what is cut behind them
abbrev before : Placed → Cut → Cut
before ps c = (ps ++ c.0, c.1)

-- The text is cut into these tokens, and what it is cut into from this offset on, which stands behind all blanks.
pub record IsCut (text : List ℕ) (at : ℕ) (ps : Placed) : Type 0 where
  pub turns : ℕ
  pub enough : length text < at + turns
  pub answer : cut text ≡ before ps (cut_within turns (length text) (drop at text))
  pub within : at ≤ length text
  pub visible : drop_while is_blank (drop at text) ≡ drop at text

-- nothing but blanks
pub cut_none : (text : List ℕ) (at : ℕ) → at ≡ 0 + prefix_len is_blank (drop 0 text) → IsCut text at []
cut_none text at e =
    let behind = behind_blanks text 0 at e in
    record {
      turns = suc (length text);
      enough = omega arith;
      answer = blanks_skipped (suc (length text)) (length text) text ∙ ap (cut_within (suc (length text)) (length text)) (sym behind);
      within = blanks_within text 0 at (omega arith) e;
      visible = ap (drop_while is_blank) behind ∙ none_left text ∙ sym behind;
    }

one_less : (n : ℕ) → 0 < n → (m : ℕ) × (n ≡ suc m)
one_less zero h = absurd (omega arith)
one_less (suc m) h = (m, refl)

-- a turn is left
record Turn (text : List ℕ) (at : ℕ) (ps : Placed) : Type 0 where
  turns : ℕ
  enough : length text < at + suc turns
  answer : cut text ≡ before ps (in_turn turns (length text) (drop at text))

turn_left : (text : List ℕ) (at : ℕ) (ps : Placed) → IsCut text at ps → Turn text at ps
turn_left text at ps r =
    let m = one_less r.turns (omega (arith, r.enough, r.within)) in
    record {
      turns = m.0;
      enough = omega (arith, r.enough, m.1);
      answer = r.answer ∙ ap (λ n. before ps (cut_within n (length text) (drop at text))) m.1 ∙ ap (before ps) (a_turn m.0 (length text) (drop at text) (drop at text) r.visible);
    }

offset_is : (text : List ℕ) (at : ℕ) → at ≤ length text → length text - length (drop at text) ≡ at
offset_is text at h = omega (arith, length-drop at text)

-- one token more, and the blanks behind it
pub cut_more : (text : List ℕ) (at next : ℕ) (ps : Placed) (t : Token) (len : ℕ) → IsCut text at ps → Some (t, drop len (drop at text)) ≡ token_in_front (drop at text) → 0 < len → len ≤ length (drop at text)
    → next ≡ at + len + prefix_len is_blank (drop (at + len) text) → IsCut text next (ps ++ (at, t) ∷ [])
cut_more text at next ps t len r found some fits e =
    let turn = turn_left text at ps r in
    let behind = behind_blanks text (at + len) next e in
    let rest : Cut = cut_within turn.turns (length text) (drop len (drop at text)) in
    record {
      turns = turn.turns;
      enough = omega (arith, turn.enough, e);
      answer = turn.answer ∙ ap (before ps) (token_turn turn.turns (length text) (drop at text) t (drop len (drop at text)) found ∙ ap (λ n. with_first (n, t) rest) (offset_is text at r.within))
          ∙ ap (λ qs. (qs, rest.1)) (sym (append_assoc ps ((at, t) ∷ []) rest.0))
          ∙ ap (before (ps ++ (at, t) ∷ [])) (ap (cut_within turn.turns (length text)) (drop_twice at len text) ∙ blanks_skipped turn.turns (length text) (drop (at + len) text)
          ∙ ap (cut_within turn.turns (length text)) (sym behind));
      within = blanks_within text (at + len) next (omega (arith, fits, length-drop at text, r.within)) e;
      visible = ap (drop_while is_blank) behind ∙ none_left (drop (at + len) text) ∙ sym behind;
    }

-- no token stands there
pub cut_wrong : (text : List ℕ) (at : ℕ) (ps : Placed) → IsCut text at ps → at < length text → None ≡ token_in_front (drop at text) → (ps, Some at) ≡ cut text
cut_wrong text at ps r h none =
    let turn = turn_left text at ps r in
    sym (turn.answer ∙ ap (before ps) (wrong_turn turn.turns (length text) (drop at text) (omega (arith, length-drop at text)) none)
    ∙ (λ i. (append-nil ps i, Some (offset_is text at r.within i))))

-- the text ends there
pub cut_end : (text : List ℕ) (at : ℕ) (ps : Placed) → IsCut text at ps → length text ≤ at → (ps, None) ≡ cut text
cut_end text at ps r h =
    let turn = turn_left text at ps r in
    sym (turn.answer ∙ ap (λ bytes. before ps (in_turn turn.turns (length text) bytes)) (drop_all at text h) ∙ ap (λ qs. (qs, None)) (append-nil ps))
