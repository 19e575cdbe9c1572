use Rattle.std.proofs.Common.{◌≡◌, sym, ap, subst, ◌∙◌, length, arith, IfOk}
use Rattle.plain_values.proofs.Common.{from_entries, items}
use Rattle.lens_values.specs.Paired.{AreAsMany, paired}
use Rattle.lens_values.proofs.Cells.{own_names, some_many, some_part, whole_part}
use Rattle.lens_values.proofs.row.Row.project.Goals as goal

pub from_values-requires : goal.from_values-requires
from_values-requires c = ap (λ C. length (items C)) c.in_ok-copy.ensures ∙ omega (arith, c.len.ensures, c.len-2.ensures, c.if-len.true, c.in_ok-values.values.ok)

pub returns-then-len : goal.returns-then-len
returns-then-len c =
    subst (λ u. IfOk c.from_values.result (λ part. part ≡ u))
    (ap (λ C. from_entries (paired C c.in_ok-values.values.items)) c.in_ok-copy.ensures
    ∙ whole_part c.args.cols.now c.args.self.now c.in_ok-values.values.items c.in_ok-values.ensures (omega (arith, c.len.ensures, c.len-2.ensures, c.if-len.true, c.in_ok-values.values.ok)))
    c.from_values.ensures

pub from_values-requires-2 : goal.from_values-requires-2
from_values-requires-2 c = subst (λ C. AreAsMany C c.in_ok-values.values.items) (sym c.in_ok-meet.ensures)
    (some_many c.args.cols.now c.names.result.now c.args.self.now c.in_ok-values.values.items (own_names c.names.result.now c.args.self.now c.names.ensures) c.in_ok-values.ensures)

pub returns : goal.returns
returns c =
    subst (λ u. IfOk c.from_values-2.result (λ part. part ≡ u))
    (ap (λ C. from_entries (paired C c.in_ok-values.values.items)) c.in_ok-meet.ensures
    ∙ some_part c.args.cols.now c.names.result.now c.args.self.now c.in_ok-values.values.items (own_names c.names.result.now c.args.self.now c.names.ensures) c.in_ok-values.ensures)
    c.from_values-2.ensures
