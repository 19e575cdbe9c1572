use Rattle.grammar_specs.specs.Common.{word}
use Rattle.view_lang.proofs.Printed.{adds_same, follow}
use Rattle.view_lang.proofs.Joined.{map_taken}
use Rattle.view_lang.proofs.printing.print_names.Goals as goal

pub loop-name-preserved : goal.loop-name-preserved
loop-name-preserved c =
    adds_same _ (map_taken word c.args.names.now c.loop-name.name-index c.name-item.result c.loop-name-test.true c.name-item.is)
    (follow c.loop-name.invariant c.in_ok-name.ensures)
