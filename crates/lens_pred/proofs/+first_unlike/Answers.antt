use Rattle.std.proofs.Common.{ap, sym, ◌∙◌}
use Rattle.plain_values.proofs.Common.{list_all}
use Rattle.lens_specs.specs.Common.{is_like, unlike}
use Rattle.lens_specs.specs.Refusal.{unless}
use Rattle.lens_pred.specs.View.{formula_view}
use Rattle.lens_pred.proofs.Views.{view-OneOf}
use Rattle.lens_pred.proofs.+first_unlike.Goals as goal

pub formula::Formula::first_unlike-returns-in-OneOf : goal.formula::Formula::first_unlike-returns-in-OneOf
formula::Formula::first_unlike-returns-in-OneOf t c =
    let U = c.args.columns.now in
    let col = c.in-OneOf.col in
    let vs = c.in-OneOf.values in
    c.unless-in-OneOf.ensures
    ∙ ap (λ b. unless b col) c.all_like.ensures
    ∙ ap (λ ws. unless (list_all (λ v. is_like v c.kind-in-OneOf.result) ws) col) c.as_slice.ensures
    ∙ ap (λ k. unless (list_all (λ v. is_like v k) vs) col) c.kind-in-OneOf.ensures
    ∙ sym (ap (unlike U) (ap formula_view c.in-OneOf.is ∙ view-OneOf col vs))
