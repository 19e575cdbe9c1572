use Rattle.plain_values.proofs.Common.{on_ok_weaker}
use Rattle.view_lang.proofs.Printed.{follow}
use Rattle.view_lang.proofs.printing.print_determined.Goals as goal

pub returns : goal.returns
returns c =
    on_ok_weaker c.close.result
    (λ close. follow c.in_ok-word.ensures
    (follow c.in_ok-word-2.ensures (follow c.in_ok-open.ensures (follow c.in_ok-print_names.ensures (follow c.in_ok-comma.ensures (follow c.in_ok-literal.ensures close))))))
    c.close.ensures
