use Rattle.std.proofs.Common.{◌≡◌, IfOk, subst, refl}
use Rattle.server_specs.specs.Answer as spec
use Rattle.reply_printing.proofs.Lines.{line_is}
use Rattle.json_text.proofs.Tokens.{follow}
use Rattle.reply_printing.proofs.Tokens.{text_same}
use Rattle.reply_printing.proofs.results.exported_text.Goals as goal

pub returns : goal.returns
returns c =
    subst (λ line. IfOk c.ended.result (λ reply. reply ≡ line))
    (line_is (spec.exported c.args.csv.now c.args.version) c.in_ok-out.ensures.bytes c.in_ok-out.ensures.after_value
    (follow (text_same c.as_str-text.ensures c.in_ok-print_text.ensures) (follow c.in_ok-print_flag.ensures c.in_ok-print_number.ensures))
    (refl))
    c.ended.ensures
