use Rattle.std.proofs.Common.{◌≡◌, IfOk, append_assoc, map, subst}
use Rattle.server_specs.specs.Answer as spec
use Rattle.signed_delta.specs.Tables.{table_delta}
use Rattle.reply_printing.proofs.Lines.{line_is}
use Rattle.json_text.proofs.Tokens.{follow}
use Rattle.reply_printing.proofs.results.changed_text.Goals as goal

pub returns : goal.returns
returns c =
    subst (λ line. IfOk c.ended.result (λ reply. reply ≡ line))
    (line_is (spec.changed (map table_delta c.args.changed.now) c.args.version) c.in_ok-out.ensures.bytes c.in_ok-out.ensures.after_value
    (follow c.in_ok-print_changes.ensures (follow c.in_ok-print_flag.ensures c.in_ok-print_number.ensures))
    (simp append_assoc))
    c.ended.ensures
