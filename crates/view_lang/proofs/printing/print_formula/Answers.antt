use Rattle.view_lang.proofs.Printed.{printed_whole}
use Rattle.view_lang.proofs.printing.print_formula.Goals as goal

pub returns : goal.returns
returns c = printed_whole c.new-out.ensures.text c.new-out.ensures.glued c.in_ok-print_alone.ensures
