use Rattle.plain_values.proofs.Common.{on_ok_weaker}
use Rattle.view_lang.proofs.Printed.{adds_same, begun}
use Rattle.view_lang.proofs.Joined.{nothing_joined, conjunct_alone, conjuncts_joined}
use Rattle.view_lang.proofs.printing.print_where.Goals as goal

pub returns-in-empty : goal.returns-in-empty
returns-in-empty c =
    begun _ _ c.word-in-empty.result c.in_ok-word.ensures (on_ok_weaker c.word-in-empty.result (adds_same _ (nothing_joined c.args.conjuncts.now c.in-empty.len_below)) c.word-in-empty.ensures)

pub returns-in-len1 : goal.returns-in-len1
returns-in-len1 c =
    let same = conjunct_alone c.args.conjuncts.now c.conjunct-item.result c.in-len1.len_below c.in-len1.len_at_least c.conjunct-item.is in
    begun _ _ c.print_alone.result c.in_ok-word.ensures (on_ok_weaker c.print_alone.result (adds_same _ same) c.print_alone.ensures)

pub returns-in-len2-up : goal.returns-in-len2-up
returns-in-len2-up c =
    begun _ _ c.print_all.result c.in_ok-word.ensures (on_ok_weaker c.print_all.result (adds_same _ (conjuncts_joined c.args.conjuncts.now c.in-len2-up.len_at_least)) c.print_all.ensures)
