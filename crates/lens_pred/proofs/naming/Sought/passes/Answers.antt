use Rattle.std.proofs.Common.{sym, ap, ◌∙◌, not}
use Rattle.plain_values.proofs.Common.{texts_ties}
use Rattle.lens_pred.specs.Sought.{passes}
use Rattle.lens_pred.proofs.naming.Sought.passes.Goals as goal

pub returns-in-Is : goal.returns-in-Is
returns-in-Is c =
    c.eq.ensures ∙ texts_ties c.in-Is.sought.now c.args.name.now ∙ ap (λ s. passes s c.args.name.now) (sym c.in-Is.is)

pub returns-in-IsNot : goal.returns-in-IsNot
returns-in-IsNot c =
    c.ne.ensures ∙ ap not (texts_ties c.args.name.now c.in-IsNot.other.now) ∙ ap (λ s. passes s c.args.name.now) (sym c.in-IsNot.is)
