use Rattle.std.proofs.Common.{◌∙◌, ap, sym}
use Rattle.lens_specs.specs.Common.{violating_pair}
use Rattle.fd_tree.specs.ClashView.{shown_clash}
use Rattle.edit_check.proofs.CheckedEdits.{found_none, found_pair}
use Rattle.edit_check.proofs.checking.first_pair.Goals as goal

pub returns-in-Some : goal.returns-in-Some
returns-in-Some c = found_pair c.args.edge.now c.args.rows.now c.in-Some.clash
    (sym c.in-Some.is ∙ c.in_ok-clash.ensures ∙ ap (λ es. shown_clash (violating_pair es c.args.rows.now)) c.from_ref.ensures.value)

pub returns-in-None : goal.returns-in-None
returns-in-None c = found_none c.args.edge.now c.args.rows.now (sym c.in-None.is ∙ c.in_ok-clash.ensures ∙ ap (λ es. shown_clash (violating_pair es c.args.rows.now)) c.from_ref.ensures.value)
