-- The text that begins with a quote, in front of what is left.
use Rattle.std.proofs.Common.{◌≡◌, ℕ, suc, ◌+◌, ◌-◌, ◌<◌, ◌≤◌, List, ◌∷◌, ◌++◌, length, drop, get_or, sym, ap, subst, ◌∙◌, arith, length-append, length-drop, MatchOption, Option, Some, None}
use Rattle.plain_values.proofs.Common.{drop-cons}
use Rattle.grammar_specs.specs.Common.{Token}
use Rattle.grammar_laws.specs.Front.{text_at, token_in_front}
use Rattle.grammar_laws.proofs.FrontTokens.{spelled_some, drop_front}
use Rattle.grammar_laws.proofs.Longest.{Stands, token_stands}
use Rattle.view_lang.specs.declared.parsing.token.Token as code
use Rattle.view_lang.specs.TokenViews.{token_view}

one_more : (n : ℕ) → n + 1 ≡ suc n
one_more n = omega arith

-- at the quote
quote_front : (bs : List ℕ) (at : ℕ) → at < length bs → get_or bs at 0 ≡ 39 → drop at bs ≡ 39 ∷ drop (at + 1) bs
quote_front bs at h e = drop-cons bs at 0 h ∙ (λ i. e i ∷ drop (sym (one_more at) i) bs)

-- what was found from a quote on
pub record QuoteFront (bs : List ℕ) (at left : ℕ) (t : Token) : Type 0 where
  pub value : Some (t, drop (length bs - at - left) (drop at bs)) ≡ token_in_front (drop at bs)
  pub some : 0 < length bs - at - left
  pub within : length bs - at - left ≤ length (drop at bs)
  pub left_within : left ≤ length bs - at

-- what is left behind all of the bytes
drop_whole : (xs bytes rest : List ℕ) (n : ℕ) → n ≡ length bytes → xs ≡ bytes ++ rest → drop n xs ≡ rest
drop_whole xs bytes rest n len shape = ap (λ n. drop n xs) len ∙ ap (drop (length bytes)) shape ∙ drop_front bytes rest

stands_front : (bs : List ℕ) (at left : ℕ) (t : Token) (rest : List ℕ) → at < length bs → get_or bs at 0 ≡ 39 → text_at (drop (at + 1) bs) ≡ Some (t, rest) → left ≡ length rest
    → Stands (39 ∷ drop (at + 1) bs) (t, rest) → QuoteFront bs at left t
stands_front bs at left t rest h e found is stands =
    let shape : drop at bs ≡ stands.bytes ++ rest = ◌∙◌ {b = 39 ∷ drop (at + 1) bs} (quote_front bs at h e) stands.shape in
    let some : 0 < length stands.bytes = spelled_some t stands.bytes stands.spells in
    let count : length bs - at ≡ length stands.bytes + left = omega (arith, length-drop at bs, ap length shape, length-append stands.bytes rest, is) in
    let len : length bs - at - left ≡ length stands.bytes = omega (arith, count) in
    let behind : drop (length bs - at - left) (drop at bs) ≡ rest = drop_whole (drop at bs) stands.bytes rest (length bs - at - left) len shape in
    let front : Some (t, rest) ≡ token_in_front (drop at bs) = sym found ∙ ap token_in_front (sym (quote_front bs at h e)) in
    record {
      value = ap (λ x. Some (t, x)) behind ∙ front;
      some = omega (arith, len, some);
      within = omega (arith, len, length-drop at bs);
      left_within = omega (arith, count);
    }

text_front : (bs : List ℕ) (at left : ℕ) (t : Token) (rest : List ℕ) → at < length bs → get_or bs at 0 ≡ 39 → text_at (drop (at + 1) bs) ≡ Some (t, rest) → left ≡ length rest → QuoteFront bs at left t
text_front bs at left t rest h e found is = stands_front bs at left t rest h e found is (token_stands 39 (drop (at + 1) bs) (t, rest) found)

-- what the call behind the quote found
abbrev pub FoundText : List ℕ → Option (code.Token × ℕ) → Type 0
FoundText behind found = MatchOption found (text_at behind ≡ None) (λ f. (rest : List ℕ) × (text_at behind ≡ Some (token_view f.0, rest)) × (f.1 ≡ length rest))

pub found_text : (bs behind : List ℕ) (at : ℕ) (found : Option (code.Token × ℕ)) (t : code.Token) (left : ℕ) → at < length bs → get_or bs at 0 ≡ 39 → behind ≡ drop (at + 1) bs
    → FoundText behind found → found ≡ Some (t, left) → QuoteFront bs at left (token_view t)
found_text bs behind at found t left h e is answer some =
    let f : FoundText behind (Some (t, left)) = subst (FoundText behind) some answer in
    text_front bs at left (token_view t) f.0 h e (ap text_at (sym is) ∙ f.1) f.2
