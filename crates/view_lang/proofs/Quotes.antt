-- A text with its quotes doubled, character by character.
use Rattle.std.proofs.Common.{◌≡◌, ◌≢◌, ◌∙◌, ◌<◌, ℕ, suc, List, [], ◌∷◌, ◌++◌, cond, length, get_or, refl, ap, sym, append_assoc, append-nil, arith}
use Rattle.plain_values.proofs.Common.{ne_eqb}
use Rattle.std.proofs.lemmas.Str.{inside_one}
use Rattle.grammar_specs.specs.Common.{quotes_doubled}
use lib.Utf8.{encode}

-- bytes with no quote among them stay
plain_front : (bytes rest : List ℕ) → ((k : ℕ) → k < length bytes → get_or bytes k 0 ≢ 39) → quotes_doubled (bytes ++ rest) ≡ bytes ++ quotes_doubled rest
plain_front [] rest plain = refl
plain_front (b ∷ bytes) rest plain =
    ap (λ quote. cond quote (b ∷ b ∷ quotes_doubled (bytes ++ rest)) (b ∷ quotes_doubled (bytes ++ rest))) (ne_eqb b 39 (plain 0 (omega arith)))
    ∙ ap (λ more. b ∷ more) (plain_front bytes rest (λ k h. plain (suc k) (omega arith)))

-- a character that is no quote stays
plain_char : (c : ℕ) (rest : List ℕ) → c ≢ 39 → quotes_doubled (encode c ++ rest) ≡ encode c ++ quotes_doubled rest
plain_char c rest other = plain_front (encode c) rest (λ k h e. other (inside_one c [] (encode c) k (sym (append-nil (encode c))) h (omega arith) ∙ e))

-- ---- a text to which characters are added

-- a quote is its own byte
encode_quote : encode 39 ≡ 39 ∷ []
unfolding encode
encode_quote = refl

-- a quote, which is written twice
pub quote_more : (text once twice rest left : List ℕ) (c : ℕ) → c ≡ 39 → once ≡ text ++ encode c → twice ≡ once ++ encode c → left ≡ encode c ++ rest
    → twice ++ quotes_doubled rest ≡ text ++ quotes_doubled left
quote_more text once twice rest left c quote first second front =
    let byte : encode c ≡ 39 ∷ [] = ap encode quote ∙ encode_quote in
    ap (λ t. t ++ quotes_doubled rest) (second ∙ ap (λ t. t ++ encode c) first ∙ ap (λ q. (text ++ q) ++ q) byte)
    ∙ append_assoc (text ++ 39 ∷ []) (39 ∷ []) (quotes_doubled rest)
    ∙ append_assoc text (39 ∷ []) (39 ∷ quotes_doubled rest)
    ∙ ap (λ l. text ++ quotes_doubled l) (sym (front ∙ ap (λ q. q ++ rest) byte))

-- another character
pub char_more : (text next rest left : List ℕ) (c : ℕ) → c ≢ 39 → next ≡ text ++ encode c → left ≡ encode c ++ rest
    → next ++ quotes_doubled rest ≡ text ++ quotes_doubled left
char_more text next rest left c other added front =
    ap (λ t. t ++ quotes_doubled rest) added
    ∙ append_assoc text (encode c) (quotes_doubled rest)
    ∙ ap (λ t. text ++ t) (sym (ap quotes_doubled front ∙ plain_char c rest other))
