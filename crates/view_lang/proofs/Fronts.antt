-- The front of a list that passes a test, and the word in front of a text.
use Rattle.std.proofs.Common.{◌≡◌, ℕ, ◌+◌, ◌-◌, ◌<◌, ◌≤◌, zero, suc, Bool, true, false, cond, List, [], ◌∷◌, length, take, drop, IsTrue, refl, sym, ap, subst, ◌∙◌, arith, ◌||◌, ◌==◌, Option, Some, None, option_map, Result, Ok, Err, take_while}
use Rattle.plain_values.proofs.Common.{result_ok, list_all, prefix_len, take_all, length-drop, prefix_len-le-length, IsAscii, IsUtf8, IsUtf8-from_ascii, is_name, is_name_byte, is_lower, nat_tests, first_holds, second_holds}
use Rattle.plain_values.specs.declared.name.BadName.{BadName}
use Rattle.plain_values.specs.Name.{bad_name, name_of}
use Rattle.plain_values.proofs.NameLemmas.{name_utf8}
use Rattle.grammar_specs.specs.Common.{word, is_digit}
use Rattle.grammar_laws.specs.Front.{drop_while, word_of, word_at, plain_in_front, positive_of, negative_of, dash_of}
use Rattle.grammar_laws.proofs.FrontLists.{one_more, drop_while_is, front_passes, take_front, drop_front, lower_passes, word_is, not_digit}
use Rattle.view_lang.specs.declared.parsing.token.Token as code
use Rattle.view_lang.specs.TokenViews.{token_view, front_of, begins_word, begins_integer, begins_arrow, is_integer_text, integer_at}

first_branch : {X : Type 0} (x y : X) (b : Bool) → b ≡ true → cond b x y ≡ x
first_branch x y b e = ap (λ v. cond v x y) e

moved : (text : List ℕ) (n : ℕ) (t : Option code.Token) → front_of text (option_map (λ t. (t, n)) t) ≡ option_map (λ t. (t, drop n text)) (option_map token_view t)
moved text n None = refl
moved text n (Some t) = refl

pub only_minus : (b : ℕ) → is_digit b ≡ false → (is_digit b || b == 45) ≡ true → b ≡ 45
only_minus b e h = grind (arith, nat_tests)

-- the word in front of a text that begins with a letter
word_in_front : (text : List ℕ) → IsTrue (begins_word text)
    → plain_in_front text ≡ option_map (λ t. (t, drop (prefix_len is_name_byte text) text)) (word_at (take (prefix_len is_name_byte text) text))
word_in_front [] h = cc
word_in_front (b ∷ rest) h =
    let passes = lower_passes b h in
    let left : drop (prefix_len is_name_byte (b ∷ rest)) (b ∷ rest) ≡ drop_while is_name_byte rest = drop_front is_name_byte b rest passes in
    let token : word_at (take (prefix_len is_name_byte (b ∷ rest)) (b ∷ rest)) ≡ word_of (b ∷ take_while is_name_byte rest) =
    ap word_at (take_front is_name_byte b rest passes) ∙ word_is b (take_while is_name_byte rest) h (front_passes is_name_byte rest) in
    first_branch _ _ (is_lower b) h ∙ sym (λ i. option_map (λ t. (t, left i)) (token i))

-- what the code finds of it
pub word_front : (text : List ℕ) → IsTrue (begins_word text) → (n : ℕ) → n ≡ prefix_len is_name_byte text → (t : Option code.Token)
    → option_map token_view t ≡ word_at (take n text) → front_of text (option_map (λ t. (t, n)) t) ≡ plain_in_front text
word_front text h n e t found =
    moved text n t
    ∙ ap (option_map (λ t. (t, drop n text))) found
    ∙ ap (λ k. option_map (λ t. (t, drop k text)) (word_at (take k text))) e
    ∙ sym (word_in_front text h)

-- it is some of the text
pub word_within : (text : List ℕ) → IsTrue (begins_word text) → (n : ℕ) → n ≡ prefix_len is_name_byte text → (0 < n) × (n ≤ length text)
word_within [] h n e = cc
word_within (b ∷ rest) h n e =
    let some : prefix_len is_name_byte (b ∷ rest) ≡ 1 + prefix_len is_name_byte rest = rw (lower_passes b h) refl in
    (omega (arith, e, some), omega (arith, e, prefix_len-le-length is_name_byte (b ∷ rest)))

-- behind a minus sign, where no arrow begins
dash_is : (rest : List ℕ) → begins_arrow (45 ∷ rest) ≡ false → dash_of rest ≡ option_map (λ t. (t, drop_while is_digit rest)) (negative_of (take_while is_digit rest))
dash_is [] e = refl
dash_is (c ∷ rest) e = let is : (c == 62) ≡ false = e in rw is refl

-- the integer in front of a text that begins with a digit or a minus sign
integer_in_front : (b : ℕ) (rest : List ℕ) → IsTrue (begins_integer (b ∷ rest)) → begins_arrow (b ∷ rest) ≡ false
    → plain_in_front (b ∷ rest) ≡ option_map (λ t. (t, drop_while is_digit rest)) (integer_at (b ∷ take_while is_digit rest))
integer_in_front b rest h no_arrow =
    elim (is_digit b) as (λ d. is_digit b ≡ d → plain_in_front (b ∷ rest) ≡ option_map (λ t. (t, drop_while is_digit rest)) (cond d (positive_of (b ∷ take_while is_digit rest)) (negative_of (take_while is_digit rest)))) [
      | true ↦ λ e. rw (not_digit b e, e) refl
      | false ↦ λ e.
          let minus_sign : b ≡ 45 = only_minus b e h in
          let P : ℕ → Type 0 = λ c. begins_arrow (c ∷ rest) ≡ false → plain_in_front (c ∷ rest) ≡ option_map (λ t. (t, drop_while is_digit rest)) (negative_of (take_while is_digit rest)) in
          subst P (sym minus_sign) (dash_is rest) no_arrow
    ] refl

integer_length : (b : ℕ) (rest : List ℕ) (n : ℕ) → n ≡ prefix_len is_digit rest → take (1 + n) (b ∷ rest) ≡ b ∷ take_while is_digit rest
integer_length b rest n e = rw (one_more n) (ap (λ k. b ∷ take k rest) e)

pub integer_front : (text : List ℕ) → IsTrue (begins_integer text) → begins_arrow text ≡ false → (n : ℕ) → n ≡ prefix_len is_digit (drop 1 text) → (t : Option code.Token)
    → option_map token_view t ≡ integer_at (take (1 + n) text) → front_of text (option_map (λ t. (t, 1 + n)) t) ≡ plain_in_front text
integer_front [] h no_arrow n e t found = cc
integer_front (b ∷ rest) h no_arrow n e t found =
    let left : drop (1 + n) (b ∷ rest) ≡ drop_while is_digit rest = rw (one_more n) (ap (λ k. drop k rest) e ∙ sym (drop_while_is is_digit rest)) in
    moved (b ∷ rest) (1 + n) t
    ∙ ap (option_map (λ t. (t, drop (1 + n) (b ∷ rest)))) found
    ∙ (λ i. option_map (λ t. (t, left i)) (integer_at (integer_length b rest n e i)))
    ∙ sym (integer_in_front b rest h no_arrow)

-- what is not text is no word
pub no_word : (bytes : List ℕ) → (IsUtf8 bytes → ⊥) → word_at bytes ≡ None
no_word bytes h =
    elim (is_name bytes) as (λ v. is_name bytes ≡ v → cond v (Some (word bytes)) None ≡ None) [
      | true ↦ λ e. absurd (h (name_utf8 bytes e))
      | false ↦ λ e. refl
    ] refl

-- the name of these bytes is their word
pub name_found : (bytes : List ℕ) (r : Result (List ℕ) BadName) → r ≡ name_of bytes → option_map word (result_ok r) ≡ word_at bytes
name_found bytes r e =
    ap (λ q. option_map word (result_ok q)) e
    ∙ elim (is_name bytes) as (λ v. option_map word (result_ok (cond v (Ok bytes) (Err bad_name))) ≡ cond v (Some (word bytes)) None) [ true ↦ refl | false ↦ refl ]

-- a slice from an index is what is left there
pub rest_is : (k : ℕ) (xs : List ℕ) → take (length xs - k) (drop k xs) ≡ drop k xs
rest_is k xs = take_all (length xs - k) (drop k xs) (omega (arith, length-drop k xs))

pub digits_behind : (text : List ℕ) (n : ℕ) → n ≡ prefix_len is_digit (take (length text - 1) (drop 1 text)) → n ≡ prefix_len is_digit (drop 1 text)
digits_behind text n e = e ∙ ap (prefix_len is_digit) (rest_is 1 text)

pub integer_within : (text : List ℕ) → IsTrue (begins_integer text) → (n : ℕ) → n ≡ prefix_len is_digit (drop 1 text) → 1 + n ≤ length text
integer_within [] h n e = cc
integer_within (b ∷ rest) h n e = omega (arith, e, prefix_len-le-length is_digit rest)

pub integer_text : (text : List ℕ) → IsTrue (begins_integer text) → (n : ℕ) → n ≡ prefix_len is_digit (drop 1 text) → IsTrue (is_integer_text (take (1 + n) text))
integer_text [] h n e = cc
integer_text (b ∷ rest) h n e = rw (integer_length b rest n e) (rw (h, front_passes is_digit rest) refl)

digit_ascii : (b : ℕ) → is_digit b ≡ true → b < 128
digit_ascii b h = grind (arith, nat_tests)

sign_ascii : (b : ℕ) → (is_digit b || b == 45) ≡ true → b < 128
sign_ascii b h = grind (arith, nat_tests)

digits_ascii : (bytes : List ℕ) → list_all is_digit bytes ≡ true → IsAscii bytes
digits_ascii [] h i = omega arith
digits_ascii (b ∷ bytes) h zero = digit_ascii b (first_holds (is_digit b) (list_all is_digit bytes) h)
digits_ascii (b ∷ bytes) h (suc i) = digits_ascii bytes (second_holds (is_digit b) (list_all is_digit bytes) h) i

integer_ascii : (bytes : List ℕ) → IsTrue (is_integer_text bytes) → IsAscii bytes
integer_ascii [] h i = omega arith
integer_ascii (b ∷ bytes) h zero = sign_ascii b (first_holds (is_digit b || b == 45) (list_all is_digit bytes) h)
integer_ascii (b ∷ bytes) h (suc i) = digits_ascii bytes (second_holds (is_digit b || b == 45) (list_all is_digit bytes) h) i

-- an integer is text
pub no_integer : (bytes : List ℕ) → (IsUtf8 bytes → ⊥) → IsTrue (is_integer_text bytes) → ⊥
no_integer bytes h e = h (IsUtf8-from_ascii bytes (integer_ascii bytes e))
