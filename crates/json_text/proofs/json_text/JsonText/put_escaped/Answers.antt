use Rattle.std.proofs.Common.{◌≡◌, ◌∙◌, [], ◌∷◌, ◌++◌, ap, arith, rules, append-nil}
use Rattle.plain_values.proofs.Common.{common_steps}
use Rattle.json.specs.Print.{print, quoted}
use Rattle.json.specs.Token.{string}
use Rattle.json_text.proofs.Tokens.{print_string}
use Rattle.json_text.proofs.json_text.JsonText.put_escaped.Goals as goal

pub returns : goal.returns
returns c =
    let text = c.args.text.now in
    let tokens : c.string.new.self.tokens ≡ string text ∷ [] = c.in_ok-string.ensures.ok ∙ ap (λ ts. ts ++ string text ∷ []) c.new-out.ensures.tokens in
    let printed = ap print tokens ∙ print_string text in
    let before = c.in_ok-string.ensures.room.0 ∙ c.new-out.ensures.before in
    let whole = c.into_inner.ensures.items ∙ (λ i. before i ++ printed i) in
    let start : c.replace.result.items ≡ c.args.self.now.bytes = grind (arith, common_steps) in
    record { bytes = append-nil _ ∙ whole ∙ ap (λ l. l ++ quoted text) start; after_value = search rules }
