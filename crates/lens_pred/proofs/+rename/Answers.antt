use Rattle.std.proofs.Common.{◌++◌, ap, sym, ◌∙◌}
use Rattle.lens_specs.specs.Common.{renamed_formulas, renamed_predicate}
use Rattle.lens_pred.specs.View.{list_view, predicate_view}
use Rattle.lens_pred.proofs.Renamed.{renamed-list_view}
use Rattle.lens_pred.proofs.+rename.Goals as goal

pub formula::Formulas::rename-returns : goal.formula::Formulas::rename-returns
formula::Formulas::rename-returns t c =
    let A = c.args.from.now in
    let B = c.args.to.now in
    let P = predicate_view c.as_slice.result.now in
    c.new.ensures
    ∙ ap list_view (c.in_ok-append_renamed.ensures ∙ ap (λ fs. predicate_view fs ++ renamed_predicate A B P) c.new-list.ensures.items)
    ∙ sym (renamed-list_view A B P) ∙ ap (renamed_formulas A B) c.as_slice.ensures.view
