use Rattle.std.proofs.Common.{◌++◌, true, refl, subst, decimal}
use Rattle.plain_values.proofs.Common.{on_ok_weaker}
use Rattle.json.specs.Token.{number}
use Rattle.json_text.specs.Written.{AddsBytes, comma}
use Rattle.json_text.proofs.Tokens.{token_begun}
use Rattle.json_text.proofs.json_text.JsonText.u64.Goals as goal

pub returns : goal.returns
returns c =
    let old = c.args.self.now in
    on_ok_weaker c.word.result (λ added. token_begun (number (decimal c.args.n)) refl (subst (λ l. AddsBytes old c.word.new.self (comma old ++ l) true) c.format.ensures.text added)) c.word.ensures
