-- The token in front of a text is the longest that is spelled there.
use Rattle.std.proofs.Common.{Option, ◌≡◌, ℕ, suc, Bool, true, false, cond, List, [], ◌∷◌, ◌++◌, length, refl, sym, ap, subst, ◌∙◌, arith, inl, inr, eqb-true, ◌&&◌, ◌==◌, not, ◌^◌, ℤ, pos, nat_le, nat_lt, Some, None, option_map, take_while, append_assoc, option_and_then}
use Rattle.plain_values.proofs.Common.{list_all, nat_tests, take_while-cons, is_lower, is_name, is_name_byte, is_text, none-some, and-false, first_holds, second_holds}
use Rattle.lens_specs.specs.Common.{eq, ne, lt, le, gt, ge}
use Rattle.grammar_specs.specs.Common.{Token, word, integer, open_paren, close_paren, comma, arrow, operator, is_digit, digits_value, minus, Spells, SpellsInteger, AreDigits, Ends, goes_on, is_quote, quotes_doubled}
use Rattle.grammar_specs.specs.Tokens as tokens
use Rattle.grammar_laws.specs.Front.{drop_while, word_of, positive_of, negative_of, sign_of, dash_of, plain_at, quoted_in, text_token, text_at, token_at}
use Rattle.grammar_laws.proofs.Quotes.{Unquoted, quoted_found, quoted_again}
use Rattle.grammar_laws.proofs.FrontLists.{Stops, word_is, front_passes, not_digit}

-- what stands in front: a token's bytes, which what follows does not lengthen
pub record Stands (text : List ℕ) (f : Token × List ℕ) : Type 0 where
  pub bytes : List ℕ
  pub shape : text ≡ bytes ++ f.1
  pub spells : Spells f.0 bytes
  pub ends : Ends f.0 f.1

pub parted : (p : ℕ → Bool) (xs : List ℕ) → xs ≡ take_while p xs ++ drop_while p xs
parted p [] = refl
parted p (x ∷ xs) =
    rw (take_while-cons p x xs) (elim (p x) as (λ b. x ∷ xs ≡ cond b (x ∷ take_while p xs) [] ++ cond b (drop_while p xs) (x ∷ xs)) [ true ↦ ap (λ t. x ∷ t) (parted p xs) | false ↦ refl ])

pub stops : (p : ℕ → Bool) (xs : List ℕ) → Stops p (drop_while p xs)
stops p [] = tt
stops p (x ∷ xs) = elim (p x) as (λ b. p x ≡ b → Stops p (cond b (drop_while p xs) (x ∷ xs))) [ true ↦ λ e. stops p xs | false ↦ λ e. e ] refl

-- ---- what is found is spelled

ends_as : (t : Token) (p : ℕ → Bool) → ((b : ℕ) → goes_on t b ≡ p b) → (rest : List ℕ) → Stops p rest → Ends t rest
ends_as t p same [] h = tt
ends_as t p same (b ∷ rest) h = same b ∙ h

ends_never : (t : Token) → ((b : ℕ) → goes_on t b ≡ false) → (rest : List ℕ) → Ends t rest
ends_never t h [] = tt
ends_never t h (b ∷ rest) = h b

some_digits : (b : ℕ) (ds : List ℕ) → list_all is_digit (b ∷ ds) ≡ true → AreDigits (b ∷ ds)
some_digits b ds e = (λ h. cc, e)

-- what is found, if it is, stands there
abbrev StandsIn : List ℕ → Option (Token × List ℕ) → Type 0
StandsIn text None = Unit {0}
StandsIn text (Some f) = Stands text f

either_stands : (text : List ℕ) (v : Bool) (x y : Option (Token × List ℕ)) → (v ≡ true → StandsIn text x) → (v ≡ false → StandsIn text y) → StandsIn text (cond v x y)
either_stands text true x y f g = f refl
either_stands text false x y f g = g refl

token_if : (text : List ℕ) (v : Bool) (t : Token) (rest : List ℕ) → (v ≡ true → Stands text (t, rest)) → StandsIn text (option_map (λ t. (t, rest)) (cond v (Some t) None))
token_if text true t rest f = f refl
token_if text false t rest f = tt

word_stands : (b : ℕ) (rest : List ℕ) → is_lower b ≡ true → StandsIn (b ∷ rest) (option_map (λ t. (t, drop_while is_name_byte rest)) (word_of (b ∷ take_while is_name_byte rest)))
word_stands b rest lower =
    let w : List ℕ = b ∷ take_while is_name_byte rest in
    let more : List ℕ = drop_while is_name_byte rest in
    subst (λ o. StandsIn (b ∷ rest) (option_map (λ t. (t, more)) o)) (word_is b (take_while is_name_byte rest) lower (front_passes is_name_byte rest))
    (token_if (b ∷ rest) (is_name w) (word w) more (λ name.
    record { bytes = w; shape = ap (λ x. b ∷ x) (parted is_name_byte rest); spells = (refl, name); ends = ends_as (word w) is_name_byte (λ _. refl) more (stops is_name_byte rest) }))

positive_stands : (b : ℕ) (rest : List ℕ) → is_digit b ≡ true → StandsIn (b ∷ rest) (option_map (λ t. (t, drop_while is_digit rest)) (positive_of (b ∷ take_while is_digit rest)))
positive_stands b rest digit =
    let ds : List ℕ = b ∷ take_while is_digit rest in
    let t : Token = integer (pos (digits_value 0 ds)) in
    let all : list_all is_digit ds ≡ true = rw (digit, front_passes is_digit rest) refl in
    token_if (b ∷ rest) (nat_lt (digits_value 0 ds) (2 ^ 63)) t (drop_while is_digit rest) (λ range.
    record { bytes = ds; shape = ap (λ x. b ∷ x) (parted is_digit rest); spells = inl (some_digits b (take_while is_digit rest) all, refl, range); ends = ends_as t is_digit (λ _. refl) (drop_while is_digit rest) (stops is_digit rest) })

negative_stands : (ds more rest : List ℕ) → rest ≡ ds ++ more → list_all is_digit ds ≡ true → Stops is_digit more → StandsIn (45 ∷ rest) (option_map (λ t. (t, more)) (negative_of ds))
negative_stands [] more rest shape all stop = tt
negative_stands (d ∷ ds) more rest shape all stop =
    let t : Token = integer (minus (digits_value 0 (d ∷ ds))) in
    token_if (45 ∷ rest) (nat_le (digits_value 0 (d ∷ ds)) (2 ^ 63)) t more (λ range.
    record { bytes = 45 ∷ d ∷ ds; shape = ap (λ x. 45 ∷ x) shape; spells = inr (d ∷ ds, refl, some_digits d ds all, refl, range); ends = ends_as t is_digit (λ _. refl) more stop })

dash_stands : (rest : List ℕ) → StandsIn (45 ∷ rest) (dash_of rest)
dash_stands [] = tt
dash_stands (c ∷ rest) =
    let more : List ℕ = c ∷ rest in
    either_stands (45 ∷ more) (c == 62) _ _
    (λ is. record { bytes = 45 ∷ 62 ∷ []; shape = ap (λ x. 45 ∷ x ∷ rest) (eqb-true c 62 is); spells = refl; ends = ends_never arrow (λ _. refl) rest })
    (λ _. negative_stands (take_while is_digit more) (drop_while is_digit more) more (parted is_digit more) (front_passes is_digit more) (stops is_digit more))

short_stands : (b k : ℕ) (rest : List ℕ) (t : Token) → (b == k) ≡ true → Spells t (k ∷ []) → Ends t rest → Stands (b ∷ rest) (t, rest)
short_stands b k rest t is spells ends = record { bytes = k ∷ []; shape = ap (λ x. x ∷ rest) (eqb-true b k is); spells = spells; ends = ends }

long_stands : (b c k : ℕ) (rest : List ℕ) (t : Token) → (c == 61 && b == k) ≡ true → Spells t (k ∷ 61 ∷ []) → Ends t rest → Stands (b ∷ c ∷ rest) (t, rest)
long_stands b c k rest t is spells ends =
    let first = eqb-true b k (second_holds (c == 61) (b == k) is) in
    let second = eqb-true c 61 (first_holds (c == 61) (b == k) is) in
    record { bytes = k ∷ 61 ∷ []; shape = λ i. first i ∷ second i ∷ rest; spells = spells; ends = ends }

not_longer : (a v : Bool) → (a && v) ≡ false → v ≡ true → a ≡ false
not_longer a v e h = grind (arith, nat_tests)

short_signs : (b : ℕ) (rest : List ℕ) → (b ≡ 60 → Ends (operator lt) rest) → (b ≡ 62 → Ends (operator gt) rest)
    → StandsIn (b ∷ rest) (cond (b == 40) (Some (open_paren, rest)) (cond (b == 41) (Some (close_paren, rest)) (cond (b == 44) (Some (comma, rest)) (cond (b == 61) (Some (operator eq, rest))
    (cond (b == 60) (Some (operator lt, rest)) (cond (b == 62) (Some (operator gt, rest)) None))))))
short_signs b rest lt_ends gt_ends =
    either_stands (b ∷ rest) (b == 40) _ _ (λ is. short_stands b 40 rest open_paren is refl (ends_never open_paren (λ _. refl) rest)) (λ _.
    either_stands (b ∷ rest) (b == 41) _ _ (λ is. short_stands b 41 rest close_paren is refl (ends_never close_paren (λ _. refl) rest)) (λ _.
    either_stands (b ∷ rest) (b == 44) _ _ (λ is. short_stands b 44 rest comma is refl (ends_never comma (λ _. refl) rest)) (λ _.
    either_stands (b ∷ rest) (b == 61) _ _ (λ is. short_stands b 61 rest (operator eq) is refl (ends_never (operator eq) (λ _. refl) rest)) (λ _.
    either_stands (b ∷ rest) (b == 60) _ _ (λ is. short_stands b 60 rest (operator lt) is refl (lt_ends (eqb-true b 60 is))) (λ _.
    either_stands (b ∷ rest) (b == 62) _ _ (λ is. short_stands b 62 rest (operator gt) is refl (gt_ends (eqb-true b 62 is))) (λ _. tt))))))

eq_true : (b k : ℕ) → b ≡ k → (b == k) ≡ true
eq_true b k e = grind (arith, nat_tests)

sign_stands : (b : ℕ) (rest : List ℕ) → StandsIn (b ∷ rest) (sign_of b rest)
sign_stands b [] = short_signs b [] (λ _. tt) (λ _. tt)
sign_stands b (c ∷ rest) =
    let text : List ℕ = b ∷ c ∷ rest in
    either_stands text (c == 61 && b == 33) _ _ (λ is. long_stands b c 33 rest (operator ne) is refl (ends_never (operator ne) (λ _. refl) rest)) (λ _.
    either_stands text (c == 61 && b == 60) _ _ (λ is. long_stands b c 60 rest (operator le) is refl (ends_never (operator le) (λ _. refl) rest)) (λ not_le.
    either_stands text (c == 61 && b == 62) _ _ (λ is. long_stands b c 62 rest (operator ge) is refl (ends_never (operator ge) (λ _. refl) rest)) (λ not_ge.
    short_signs b (c ∷ rest) (λ is. not_longer (c == 61) (b == 60) not_le (eq_true b 60 is)) (λ is. not_longer (c == 61) (b == 62) not_ge (eq_true b 62 is)))))

plain_stands : (b : ℕ) (rest : List ℕ) → StandsIn (b ∷ rest) (plain_at b rest)
plain_stands b rest =
    either_stands (b ∷ rest) (is_lower b) _ _ (word_stands b rest) (λ _.
    either_stands (b ∷ rest) (is_digit b) _ _ (positive_stands b rest) (λ _.
    either_stands (b ∷ rest) (b == 45) _ _ (λ is. let P : ℕ → Type 0 = λ x. StandsIn (x ∷ rest) (dash_of rest) in subst P (sym (eqb-true b 45 is)) (dash_stands rest)) (λ _.
    sign_stands b rest)))

-- ---- what is spelled is found

taken : (p : ℕ → Bool) (xs rest : List ℕ) → list_all p xs ≡ true → Stops p rest → take_while p (xs ++ rest) ≡ xs
taken p [] [] all stop = refl
taken p [] (b ∷ rest) all stop = take_while-cons p b rest ∙ ap (λ v. cond v (b ∷ take_while p rest) []) stop
taken p (x ∷ xs) rest all stop =
    take_while-cons p x (xs ++ rest) ∙ ap (λ v. cond v (x ∷ take_while p (xs ++ rest)) []) (first_holds (p x) (list_all p xs) all)
    ∙ ap (λ t. x ∷ t) (taken p xs rest (second_holds (p x) (list_all p xs) all) stop)

pub dropped : (p : ℕ → Bool) (xs rest : List ℕ) → list_all p xs ≡ true → Stops p rest → drop_while p (xs ++ rest) ≡ rest
dropped p [] [] all stop = refl
dropped p [] (b ∷ rest) all stop = ap (λ v. cond v (drop_while p rest) (b ∷ rest)) stop
dropped p (x ∷ xs) rest all stop =
    ap (λ v. cond v (drop_while p (xs ++ rest)) (x ∷ (xs ++ rest))) (first_holds (p x) (list_all p xs) all) ∙ dropped p xs rest (second_holds (p x) (list_all p xs) all) stop

stops_as : (t : Token) (p : ℕ → Bool) → ((b : ℕ) → goes_on t b ≡ p b) → (rest : List ℕ) → Ends t rest → Stops p rest
stops_as t p same [] h = tt
stops_as t p same (b ∷ rest) h = sym (same b) ∙ h

-- the token is in front of the text of these bytes and this rest
abbrev pub Front : Token → List ℕ → List ℕ → Type 0
Front t bytes rest = (b : ℕ) × (more : List ℕ) × (bytes ≡ b ∷ more) × (plain_at b (more ++ rest) ≡ Some (t, rest))

word_front : (w rest : List ℕ) → is_name w ≡ true → Ends (word w) rest → Front (word w) w rest
word_front [] rest name ends = let none : false ≡ true = name in cc
word_front (b ∷ more) rest name ends =
    let size : Bool = not (suc (length more) == 0) && nat_le (suc (length more)) 32 in
    let letters = second_holds size (is_lower b && list_all is_name_byte (b ∷ more)) name in
    let lower = first_holds (is_lower b) (list_all is_name_byte (b ∷ more)) letters in
    let all = second_holds (is_name_byte b) (list_all is_name_byte more) (second_holds (is_lower b) (list_all is_name_byte (b ∷ more)) letters) in
    let short = second_holds (not (suc (length more) == 0)) (nat_le (suc (length more)) 32) (first_holds size (is_lower b && list_all is_name_byte (b ∷ more)) name) in
    let stop = stops_as (word (b ∷ more)) is_name_byte (λ _. refl) rest ends in
    (b, more, refl, rw (lower, taken is_name_byte more rest all stop, dropped is_name_byte more rest all stop, short) refl)

positive_front : (b : ℕ) (ds rest : List ℕ) (z : ℤ) → list_all is_digit (b ∷ ds) ≡ true → z ≡ pos (digits_value 0 (b ∷ ds)) → nat_lt (digits_value 0 (b ∷ ds)) (2 ^ 63) ≡ true → Stops is_digit rest
    → plain_at b (ds ++ rest) ≡ Some (integer z, rest)
positive_front b ds rest z all is range stop =
    let digit = first_holds (is_digit b) (list_all is_digit ds) all in
    let digits = second_holds (is_digit b) (list_all is_digit ds) all in
    rw (not_digit b digit, digit, taken is_digit ds rest digits stop, dropped is_digit ds rest digits stop, range) (ap (λ y. Some (integer y, rest)) (sym is))

no_arrow : (d : ℕ) → is_digit d ≡ true → (d == 62) ≡ false
no_arrow d e = grind (arith, nat_tests)

minus_front : (z : ℤ) (ds rest : List ℕ) → AreDigits ds → z ≡ minus (digits_value 0 ds) → nat_le (digits_value 0 ds) (2 ^ 63) ≡ true → Stops is_digit rest → plain_at 45 (ds ++ rest) ≡ Some (integer z, rest)
minus_front z [] rest are is range stop = absurd (are.0 refl)
minus_front z (d ∷ ds) rest are is range stop =
    rw (no_arrow d (first_holds (is_digit d) (list_all is_digit ds) are.1), taken is_digit (d ∷ ds) rest are.1 stop, dropped is_digit (d ∷ ds) rest are.1 stop, range) (ap (λ y. Some (integer y, rest)) (sym is))

integer_front : (z : ℤ) (bytes rest : List ℕ) → SpellsInteger z bytes → Ends (integer z) rest → Front (integer z) bytes rest
integer_front z [] rest (inl h) ends = absurd (h.0.0 refl)
integer_front z (b ∷ ds) rest (inl h) ends = (b, ds, refl, positive_front b ds rest z h.0.1 h.1 h.2 (stops_as (integer z) is_digit (λ _. refl) rest ends))
integer_front z bytes rest (inr h) ends = (45, h.0, h.1, minus_front z h.0 rest h.2 h.3 h.4 (stops_as (integer z) is_digit (λ _. refl) rest ends))

short_front : (k : ℕ) (t : Token) → ((rest : List ℕ) → Ends t rest → plain_at k rest ≡ Some (t, rest)) → (bytes rest : List ℕ) → bytes ≡ k ∷ [] → Ends t rest → Front t bytes rest
short_front k t found bytes rest e ends = (k, [], e, found rest ends)

long_front : (k : ℕ) (t : Token) → ((rest : List ℕ) → plain_at k (61 ∷ rest) ≡ Some (t, rest)) → (bytes rest : List ℕ) → bytes ≡ k ∷ 61 ∷ [] → Front t bytes rest
long_front k t found bytes rest e = (k, 61 ∷ [], e, found rest)

-- a sign that is no part of a longer one, and a quote, which is none
found_alone : (rest : List ℕ)
    → (plain_at 40 rest ≡ Some (open_paren, rest)) × (plain_at 41 rest ≡ Some (close_paren, rest)) × (plain_at 44 rest ≡ Some (comma, rest)) × (plain_at 61 rest ≡ Some (operator eq, rest)) × (plain_at 39 rest ≡ None)
found_alone [] = (refl, refl, refl, refl, refl)
found_alone (c ∷ rest) = rw (and-false (c == 61)) (refl, refl, refl, refl, refl)

lt_found : (rest : List ℕ) → Ends (operator lt) rest → plain_at 60 rest ≡ Some (operator lt, rest)
lt_found [] h = refl
lt_found (c ∷ rest) h = rw h refl

gt_found : (rest : List ℕ) → Ends (operator gt) rest → plain_at 62 rest ≡ Some (operator gt, rest)
gt_found [] h = refl
gt_found (c ∷ rest) h = rw h refl

-- ---- texts

text_stands : (b : ℕ) (rest : List ℕ) → b ≡ 39 → StandsIn (b ∷ rest) (text_at rest)
text_stands b rest is =
    elim (quoted_in rest) as (λ o. quoted_in rest ≡ o → StandsIn (b ∷ rest) (option_and_then (λ q. option_map (λ t. (t, q.1)) (text_token q.0)) o)) [
      | None ↦ λ _. tt
      | Some q ↦ λ found.
          let quotes = quoted_found rest q found in
          token_if (b ∷ rest) (is_text q.0) (tokens.text q.0) q.1 (λ good. record {
            bytes = 39 ∷ (quotes_doubled q.0 ++ 39 ∷ []);
            shape = (λ i. is i ∷ quotes.shape i) ∙ ap (λ x. 39 ∷ x) (sym (append_assoc (quotes_doubled q.0) (39 ∷ []) q.1));
            spells = (refl, good);
            ends = ends_as (tokens.text q.0) is_quote (λ _. refl) q.1 quotes.ends;
          })
    ] refl

-- the token that is found in front stands there
pub token_stands : (b : ℕ) (rest : List ℕ) (f : Token × List ℕ) → token_at b rest ≡ Some f → Stands (b ∷ rest) f
token_stands b rest f e = subst (StandsIn (b ∷ rest)) e (either_stands (b ∷ rest) (is_quote b) (text_at rest) (plain_at b rest) (λ is. text_stands b rest (eqb-true b 39 is)) (λ _. plain_stands b rest))

-- the token is found in front of the text of these bytes and this rest
abbrev pub Found : Token → List ℕ → List ℕ → Type 0
Found t bytes rest = (b : ℕ) × (more : List ℕ) × (bytes ≡ b ∷ more) × (token_at b (more ++ rest) ≡ Some (t, rest))

text_found : (value bytes rest : List ℕ) → bytes ≡ 39 ∷ (quotes_doubled value ++ 39 ∷ []) → is_text value ≡ true → Unquoted rest → Found (tokens.text value) bytes rest
text_found value bytes rest is good end = (
  39,
  quotes_doubled value ++ 39 ∷ [],
  is,
  ap (option_and_then (λ q. option_map (λ t. (t, q.1)) (text_token q.0))) (ap quoted_in (append_assoc (quotes_doubled value) (39 ∷ []) rest) ∙ quoted_again value rest end)
      ∙ ap (λ v. option_map (λ t. (t, rest)) (cond v (Some (tokens.text value)) None)) good,
)

from_plain : (t : Token) (bytes rest : List ℕ) → Front t bytes rest → Found t bytes rest
from_plain t bytes rest f = (
  f.0,
  f.1,
  f.2,
  elim (is_quote f.0) as (λ v. is_quote f.0 ≡ v → cond v (text_at (f.1 ++ rest)) (plain_at f.0 (f.1 ++ rest)) ≡ Some (t, rest)) [
    | true ↦ λ is. absurd (none-some (t, rest) (sym (ap (λ x. plain_at x (f.1 ++ rest)) (eqb-true f.0 39 is) ∙ (found_alone (f.1 ++ rest)).4) ∙ f.3))
    | false ↦ λ _. f.3
  ] refl,
)

-- the token that is spelled and ends is found in front
pub token_front : (t : Token) (bytes rest : List ℕ) → Spells t bytes → Ends t rest → Found t bytes rest
token_front (word w) bytes rest h ends = from_plain (word w) bytes rest (let P : List ℕ → Type 0 = λ x. Front (word w) x rest in subst P (sym h.0) (word_front w rest h.1 ends))
token_front (integer z) bytes rest h ends = from_plain (integer z) bytes rest (integer_front z bytes rest h ends)
token_front (tokens.text value) bytes rest h ends = text_found value bytes rest h.0 h.1 (stops_as (tokens.text value) is_quote (λ _. refl) rest ends)
token_front open_paren bytes rest h ends = from_plain open_paren bytes rest (short_front 40 open_paren (λ r _. (found_alone r).0) bytes rest h ends)
token_front close_paren bytes rest h ends = from_plain close_paren bytes rest (short_front 41 close_paren (λ r _. (found_alone r).1) bytes rest h ends)
token_front comma bytes rest h ends = from_plain comma bytes rest (short_front 44 comma (λ r _. (found_alone r).2) bytes rest h ends)
token_front arrow bytes rest h ends = from_plain arrow bytes rest ((45, 62 ∷ [], h, refl))
token_front (operator eq) bytes rest h ends = from_plain (operator eq) bytes rest (short_front 61 (operator eq) (λ r _. (found_alone r).3) bytes rest h ends)
token_front (operator ne) bytes rest h ends = from_plain (operator ne) bytes rest (long_front 33 (operator ne) (λ r. refl) bytes rest h)
token_front (operator lt) bytes rest h ends = from_plain (operator lt) bytes rest (short_front 60 (operator lt) lt_found bytes rest h ends)
token_front (operator le) bytes rest h ends = from_plain (operator le) bytes rest (long_front 60 (operator le) (λ r. refl) bytes rest h)
token_front (operator gt) bytes rest h ends = from_plain (operator gt) bytes rest (short_front 62 (operator gt) gt_found bytes rest h ends)
token_front (operator ge) bytes rest h ends = from_plain (operator ge) bytes rest (long_front 62 (operator ge) (λ r. refl) bytes rest h)
