use Rattle.std.proofs.Common.{◌∙◌, ap, sym}
use Rattle.plain_values.specs.SortedSet as set
use Rattle.join_delta.proofs.Exchanged.{one_exchanged}
use Rattle.join_delta.proofs.sources.exchanges.Goals as goal

pub returns-in-Some-Some : goal.returns-in-Some-Some
returns-in-Some-Some c = λ alike.
    one_exchanged c.args.cols.now c.args.delta.now c.in-Some-Some.gone.now c.in-Some-Some.row.now (ap set.items (sym c.remove.ensures) ∙ c.in-Some-Some.ensures)
    (ap set.items (sym c.add.ensures) ∙ c.in-Some-Some.ensures') (sym c.agree_on.ensures ∙ alike)
