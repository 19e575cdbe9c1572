-- The line of an answer, from its tokens.
use Rattle.std.proofs.Common.{◌≡◌, ◌∙◌, List, [], ◌∷◌, ◌++◌, false, ap, fold, sym, refl}
use Rattle.json.specs.Token.{Token, begin_object, end_object}
use Rattle.json.specs.Print.{ends, print, print_from}
use Rattle.json.proofs.Printed.Tokens.{print_from-append}
use Rattle.serde_json.specs.Data.{Data}
use Rattle.serde_json.proofs.Texts.{print-outline}
use Rattle.json_text.specs.Written.{Written, Adds}
use Rattle.json_text.proofs.Tokens.{print_ended}
use Rattle.server_specs.specs.Common.{Answer, answer_data, text}
use Rattle.reply_printing.specs.Printing.{data_tokens, json_line}

-- the bracket that begins the object
pub object_begun : {a b : Written} → a.bytes ≡ [] → a.after_value ≡ false → Adds a b (begin_object ∷ []) → b.bytes ≡ 123 ∷ []
unfolding print_from
object_begun empty after adds = adds.bytes ∙ (λ i. empty i ++ print_from (after i) (begin_object ∷ []))

-- the bracket that ends it
pub object_ended : {a b : Written} → Adds a b (end_object ∷ []) → b.bytes ≡ a.bytes ++ 125 ∷ []
object_ended {a} adds = adds.bytes ∙ ap (λ l. a.bytes ++ l) (print_ended a.after_value end_object refl)

-- what follows the bracket that begins the object is the rest of its tokens
pub object_line : {a b : Written} {xs : List Token} (d : Data) → a.bytes ≡ 123 ∷ [] → a.after_value ≡ false → Adds a b xs
    → begin_object ∷ (xs ++ end_object ∷ []) ≡ data_tokens d → (b.bytes ++ 125 ∷ []) ++ 10 ∷ [] ≡ json_line d
unfolding print_from
object_line {xs = xs} d begun after adds is =
    let bytes = adds.bytes ∙ (λ i. begun i ++ print_from (after i) xs) in
    let last = print_from-append false xs (end_object ∷ []) ∙ ap (λ l. print_from false xs ++ l) (print_ended (fold (λ _ t. ends t) false xs) end_object refl) in
    ap (λ l. (l ++ 125 ∷ []) ++ 10 ∷ []) bytes ∙ ap (λ l. (123 ∷ l) ++ 10 ∷ []) (sym last) ∙ ap (λ ts. print ts ++ 10 ∷ []) is ∙ ap (λ l. l ++ 10 ∷ []) (print-outline d)

-- so the rest of an answer's tokens gives its text
pub line_is : {a b : Written} {xs : List Token} (answer : Answer) → a.bytes ≡ 123 ∷ [] → a.after_value ≡ false → Adds a b xs
    → begin_object ∷ (xs ++ end_object ∷ []) ≡ data_tokens (answer_data answer) → (b.bytes ++ 125 ∷ []) ++ 10 ∷ [] ≡ text answer
unfolding text
line_is answer begun after adds is = object_line (answer_data answer) begun after adds is
