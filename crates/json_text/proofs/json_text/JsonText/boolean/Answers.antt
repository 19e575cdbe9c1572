use Rattle.std.proofs.Common.{[], ◌∷◌, true, false, refl, subst, sym}
use Rattle.plain_values.proofs.Common.{on_ok_weaker}
use Rattle.json.specs.Token.{boolean}
use Rattle.json_text.specs.Written.{Adds}
use Rattle.json_text.proofs.Tokens.{token_begun}
use Rattle.json_text.proofs.json_text.JsonText.boolean.Goals as goal

pub returns-then-flag : goal.returns-then-flag
returns-then-flag c =
    on_ok_weaker c.word.result
    (λ added. subst (λ flag. Adds c.args.self.now c.word.new.self (boolean flag ∷ [])) (sym c.if-flag.true) (token_begun (boolean true) refl added)) c.word.ensures

pub returns-else-flag : goal.returns-else-flag
returns-else-flag c =
    let put = c.word-else-flag in
    on_ok_weaker put.result
    (λ added. subst (λ flag. Adds c.args.self.now put.new.self (boolean flag ∷ [])) (sym c.if-flag.false) (token_begun (boolean false) refl added)) put.ensures
