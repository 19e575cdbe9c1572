use Rattle.std.proofs.Common.{◌≡◌, IfOk, append_assoc, subst}
use Rattle.lens_pred.specs.View.{predicate_view}
use Rattle.server_specs.specs.Answer as spec
use Rattle.reply_printing.proofs.Lines.{line_is}
use Rattle.json_text.proofs.Tokens.{follow}
use Rattle.reply_printing.proofs.results.described_text.Goals as goal

pub returns : goal.returns
returns c =
    subst (λ line. IfOk c.ended.result (λ reply. reply ≡ line))
    (line_is (spec.described c.args.columns.now c.args.edges.now (predicate_view c.args.conjuncts.now) c.args.tables.now c.args.version) c.in_ok-out.ensures.bytes c.in_ok-out.ensures.after_value
    (follow c.in_ok-print_columns.ensures (follow c.in_ok-print_edges.ensures (follow c.in_ok-print_flag.ensures (follow c.in_ok-print_conjuncts.ensures (follow c.in_ok-print_names.ensures c.in_ok-print_number.ensures)))))
    (simp append_assoc))
    c.ended.ensures
