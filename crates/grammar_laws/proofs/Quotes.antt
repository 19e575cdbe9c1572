-- The value of a text behind its first quote.
use Rattle.grammar_laws.proofs.FrontLists.{Stops}
use Rattle.std.proofs.Math.Seq.{drop-append-add, get_or-append_seam}
use Rattle.std.proofs.Common.{◌≡◌, ◌≢◌, ℕ, suc, ◌<◌, true, false, cond, List, [], ◌∷◌, ◌++◌, length, get_or, ◌+◌, lit<, length-append, refl, sym, ap, subst, ◌∙◌, append_assoc, append-nil, arith, eqb-true, Option, Some, None, option_map}
use Rattle.plain_values.proofs.Common.{nat_tests, IsUtf8, IsCharBoundary-after_ascii, same_Some}
use Rattle.grammar_specs.specs.Common.{is_quote, quotes_doubled}
use Rattle.std.proofs.lemmas.Str.{IsUtf8-drop}
use Rattle.grammar_laws.specs.Front.{with_front, quoted_in}
use Rattle.grammar_laws.proofs.Options.{map_then}

-- the rest does not begin with a quote
abbrev pub Unquoted : List ℕ → Type 0
Unquoted = Stops is_quote

quote_is : (b : ℕ) → is_quote b ≡ true → b ≡ 39
quote_is b e = eqb-true b 39 e

-- ---- pieces

-- no byte is a quote
abbrev pub NoQuote : List ℕ → Type 0
NoQuote [] = Unit {0}
NoQuote (b ∷ bytes) = (is_quote b ≡ false) × NoQuote bytes

not_quote : (b : ℕ) → (b ≡ 39 → ⊥) → is_quote b ≡ false
not_quote b h = grind (arith, nat_tests)

pub no_quote : (xs : List ℕ) → ((i : ℕ) → i < length xs → get_or xs i 0 ≢ 39) → NoQuote xs
no_quote [] h = tt
no_quote (x ∷ xs) h = (not_quote x (h 0 (omega arith)), no_quote xs (λ i l. h (suc i) (omega arith)))

-- a byte that is no quote is the value's
unquoted_step : (b : ℕ) (rest : List ℕ) → is_quote b ≡ false → quoted_in (b ∷ rest) ≡ option_map (with_front (b ∷ [])) (quoted_in rest)
unquoted_step b [] e = ap (λ v. cond v (Some ([], [])) None) e
unquoted_step b (c ∷ rest) e =
    ap (λ v. cond v (cond (is_quote c) (option_map (with_front (39 ∷ [])) (quoted_in rest)) (Some ([], c ∷ rest))) (option_map (with_front (b ∷ [])) (quoted_in (c ∷ rest)))) e

with_nothing : (o : Option (List ℕ × List ℕ)) → o ≡ option_map (with_front []) o
with_nothing None = refl
with_nothing (Some q) = refl

with_both : (xs ys : List ℕ) (o : Option (List ℕ × List ℕ)) → option_map (with_front xs) (option_map (with_front ys) o) ≡ option_map (with_front (xs ++ ys)) o
with_both xs ys None = refl
with_both xs ys (Some q) = ap (λ x. Some (x, q.1)) (sym (append_assoc xs ys q.0))

-- a piece with no quote is the value's
pub piece_in : (xs rest : List ℕ) → NoQuote xs → quoted_in (xs ++ rest) ≡ option_map (with_front xs) (quoted_in rest)
piece_in [] rest h = with_nothing (quoted_in rest)
piece_in (x ∷ xs) rest h = unquoted_step x (xs ++ rest) h.0 ∙ ap (option_map (with_front (x ∷ []))) (piece_in xs rest h.1) ∙ with_both (x ∷ []) xs (quoted_in rest)

pub never_closed : (xs : List ℕ) → NoQuote xs → quoted_in xs ≡ None
never_closed xs h = ap quoted_in (sym (append-nil xs)) ∙ piece_in xs [] h

-- behind a closing quote
pub closing_quote : (rest : List ℕ) → Unquoted rest → quoted_in (39 ∷ rest) ≡ Some ([], rest)
closing_quote [] h = refl
closing_quote (c ∷ rest) h = ap (λ v. cond v (option_map (with_front (39 ∷ [])) (quoted_in rest)) (Some ([], c ∷ rest))) h

pub unquoted : (rest : List ℕ) → ((more : List ℕ) → rest ≢ 39 ∷ more) → Unquoted rest
unquoted [] h = tt
unquoted (b ∷ rest) h = not_quote b (λ e. h rest (ap (λ x. x ∷ rest) e))

-- ---- the loop over the pieces

-- the value so far stands before the rest's
abbrev pub Gathers : List ℕ → List ℕ → List ℕ → Type 0
Gathers text value rest = quoted_in text ≡ option_map (with_front value) (quoted_in rest)

pub gathers_none : (text value : List ℕ) → value ≡ [] → Gathers text value text
gathers_none text value e = subst (λ v. Gathers text v text) (sym e) (with_nothing (quoted_in text))

-- a piece and a doubled quote more
pub gathers_more : (text value rest piece more next : List ℕ) → Gathers text value rest → rest ≡ piece ++ 39 ∷ 39 ∷ more → NoQuote piece → next ≡ (value ++ piece) ++ 39 ∷ [] → Gathers text next more
gathers_more text value rest piece more next g e none is =
    g ∙ ap (λ r. option_map (with_front value) (quoted_in r)) e
    ∙ ap (option_map (with_front value)) (piece_in piece (39 ∷ 39 ∷ more) none)
    ∙ with_both value piece (option_map (with_front (39 ∷ [])) (quoted_in more)) ∙ with_both (value ++ piece) (39 ∷ []) (quoted_in more)
    ∙ ap (λ v. option_map (with_front v) (quoted_in more)) (sym is)

-- a piece and the closing quote
pub gathers_last : (text value rest piece behind next : List ℕ) → Gathers text value rest → rest ≡ piece ++ 39 ∷ behind → NoQuote piece → Unquoted behind → next ≡ value ++ piece → quoted_in text ≡ Some (next, behind)
gathers_last text value rest piece behind next g e none end is =
    g ∙ ap (λ r. option_map (with_front value) (quoted_in r)) e
    ∙ ap (option_map (with_front value)) (piece_in piece (39 ∷ behind) none ∙ ap (option_map (with_front piece)) (closing_quote behind end))
    ∙ ap (λ x. Some (value ++ x, behind)) (append-nil piece) ∙ ap (λ x. Some (x, behind)) (sym is)

pub gathers_open : (text value rest : List ℕ) → Gathers text value rest → NoQuote rest → quoted_in text ≡ None
gathers_open text value rest g none = g ∙ ap (option_map (with_front value)) (never_closed rest none)

-- ---- what is quoted is a value with its quotes doubled

pub quoted_again : (value rest : List ℕ) → Unquoted rest → quoted_in (quotes_doubled value ++ 39 ∷ rest) ≡ Some (value, rest)
quoted_again [] rest h = closing_quote rest h
quoted_again (b ∷ value) rest h =
    elim (is_quote b) as (λ v. is_quote b ≡ v → quoted_in (cond v (b ∷ b ∷ quotes_doubled value) (b ∷ quotes_doubled value) ++ 39 ∷ rest) ≡ Some (b ∷ value, rest)) [
      | true ↦ λ e.
          let P : ℕ → Type 0 = λ x. quoted_in (x ∷ x ∷ (quotes_doubled value ++ 39 ∷ rest)) ≡ Some (x ∷ value, rest) in
          subst P (sym (quote_is b e)) (ap (option_map (with_front (39 ∷ []))) (quoted_again value rest h))
      | false ↦ λ e. unquoted_step b (quotes_doubled value ++ 39 ∷ rest) e ∙ ap (option_map (with_front (b ∷ []))) (quoted_again value rest h)
    ] refl

-- the bytes are the value with its quotes doubled, a quote, and what follows it
pub record Quotes (bytes : List ℕ) (q : List ℕ × List ℕ) : Type 0 where
  pub shape : bytes ≡ quotes_doubled q.0 ++ 39 ∷ q.1
  pub ends : Unquoted q.1

doubled : (bytes : List ℕ) (q : List ℕ × List ℕ) → Quotes bytes q → Quotes (39 ∷ 39 ∷ bytes) (39 ∷ q.0, q.1)
doubled bytes q h = record { shape = ap (λ x. 39 ∷ 39 ∷ x) h.shape; ends = h.ends }

single : (b : ℕ) (bytes : List ℕ) (q : List ℕ × List ℕ) → is_quote b ≡ false → Quotes bytes q → Quotes (b ∷ bytes) (b ∷ q.0, q.1)
single b bytes q e h = record {
  shape = ap (λ x. b ∷ x) h.shape ∙ sym (ap (λ v. cond v (b ∷ b ∷ quotes_doubled q.0) (b ∷ quotes_doubled q.0) ++ 39 ∷ q.1) e);
  ends = h.ends;
}

closed : (rest : List ℕ) → Unquoted rest → Quotes (39 ∷ rest) ([], rest)
closed rest h = record { shape = refl; ends = h }

from_quote : (b : ℕ) (rest : List ℕ) (q : List ℕ × List ℕ) → is_quote b ≡ true → Quotes (39 ∷ rest) q → Quotes (b ∷ rest) q
from_quote b rest q e h = let P : ℕ → Type 0 = λ x. Quotes (x ∷ rest) q in subst P (sym (quote_is b e)) h

pub quoted_found : (bytes : List ℕ) (q : List ℕ × List ℕ) → quoted_in bytes ≡ Some q → Quotes bytes q
quoted_found [] q e = cc
quoted_found (b ∷ []) q e =
    elim (is_quote b) as (λ v. is_quote b ≡ v → cond v (Some ([], [])) None ≡ Some q → Quotes (b ∷ []) q) [
      | true ↦ λ is h. from_quote b [] q is (subst (Quotes (39 ∷ [])) (same_Some ([], []) q h) (closed [] tt))
      | false ↦ λ is h. cc
    ] refl e
quoted_found (b ∷ c ∷ rest) q e =
    elim (is_quote b) as (λ v. is_quote b ≡ v → cond v (cond (is_quote c) (option_map (with_front (39 ∷ [])) (quoted_in rest)) (Some ([], c ∷ rest))) (option_map (with_front (b ∷ [])) (quoted_in (c ∷ rest))) ≡ Some q → Quotes (b ∷ c ∷ rest) q) [
      | true ↦ λ is h. from_quote b (c ∷ rest) q is
          (elim (is_quote c) as (λ v. is_quote c ≡ v → cond v (option_map (with_front (39 ∷ [])) (quoted_in rest)) (Some ([], c ∷ rest)) ≡ Some q → Quotes (39 ∷ c ∷ rest) q) [
            | true ↦ λ second k.
                let P : ℕ → Type 0 = λ x. Quotes (39 ∷ x ∷ rest) q in
                subst P (sym (quote_is c second)) (map_then (with_front (39 ∷ [])) (quoted_in rest) q k (λ p found same. subst (Quotes (39 ∷ 39 ∷ rest)) same (doubled rest p (quoted_found rest p found))))
            | false ↦ λ second k. subst (Quotes (39 ∷ c ∷ rest)) (same_Some ([], c ∷ rest) q k) (closed (c ∷ rest) second)
          ] refl h)
      | false ↦ λ is h. map_then (with_front (b ∷ [])) (quoted_in (c ∷ rest)) q h (λ p found same. subst (Quotes (b ∷ c ∷ rest)) same (single b (c ∷ rest) p is (quoted_found (c ∷ rest) p found)))
    ] refl e

-- ---- what follows an ASCII byte of a text is text

text_behind : (xs ys : List ℕ) (q : ℕ) → IsUtf8 (xs ++ q ∷ ys) → q < 128 → IsUtf8 ys
text_behind xs ys q u small =
    let bs : List ℕ = xs ++ q ∷ ys in
    let inside : length xs < length bs = omega (arith, length-append xs (q ∷ ys)) in
    let ascii : get_or bs (length xs) 0 < 128 = omega (arith, small, get_or-append_seam xs q ys 0) in
    subst IsUtf8 (drop-append-add xs (q ∷ ys) 1) (IsUtf8-drop bs (length xs + 1) u (IsCharBoundary-after_ascii bs (length xs) u inside ascii))

-- behind a piece and two quotes
pub text_more : (rest piece behind more : List ℕ) → IsUtf8 rest → rest ≡ piece ++ 39 ∷ behind → behind ≡ 39 ∷ more → IsUtf8 more
text_more rest piece behind more u e f =
    text_behind [] more 39 (subst IsUtf8 f (text_behind piece behind 39 (subst IsUtf8 e u) (lit< tt))) (lit< tt)
