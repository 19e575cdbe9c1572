use Rattle.std.proofs.Common.{◌≡◌, ap, subst, ◌∙◌, length, arith, IfOk}
use Rattle.plain_values.proofs.Common.{from_entries, override, items}
use Rattle.lens_values.specs.Paired.{paired}
use Rattle.lens_values.proofs.Cells.{whole_part}
use Rattle.row_sets.proofs.joining.pasted_part.Goals as goal

pub from_values-requires : goal.from_values-requires
from_values-requires c = ap (λ C. length (items C)) c.in_ok-copy.ensures ∙ omega (arith, c.len.ensures, c.len-2.ensures, c.if-len.true, c.in_ok-values.values.ok)

pub returns-then-len : goal.returns-then-len
returns-then-len c =
    subst (λ u. IfOk c.from_values.result (λ part. part ≡ u))
    (ap (λ C. from_entries (paired C c.in_ok-values.values.items)) c.in_ok-copy.ensures
    ∙ whole_part c.args.cols.now (override c.args.over.now c.args.row.now) c.in_ok-values.values.items c.in_ok-values.ensures (omega (arith, c.len.ensures, c.len-2.ensures, c.if-len.true, c.in_ok-values.values.ok)))
    c.from_values.ensures
