use Rattle.std.proofs.Common.{◌≡◌, IfOk, subst, refl}
use Rattle.server_specs.specs.Answer as spec
use Rattle.reply_printing.proofs.Lines.{line_is}
use Rattle.json_text.proofs.Tokens.{follow}
use Rattle.reply_printing.proofs.results.defined_text.Goals as goal

pub returns : goal.returns
returns c =
    subst (λ line. IfOk c.ended.result (λ reply. reply ≡ line))
    (line_is (spec.defined c.args.version) c.in_ok-out.ensures.bytes c.in_ok-out.ensures.after_value
    (follow c.in_ok-print_flag.ensures c.in_ok-print_number.ensures)
    (refl))
    c.ended.ensures
