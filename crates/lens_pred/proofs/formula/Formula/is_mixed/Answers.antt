use Rattle.std.proofs.Common.{ap, sym, ◌∙◌, is_some, not, ◌&&◌}
use Rattle.plain_values.proofs.Common.{list_any, eq_by_cmp, bytes_cmp}
use Rattle.lens_specs.specs.Common.{names_in}
use Rattle.lens_pred.specs.View.{formula_view}
use Rattle.lens_pred.proofs.Conjuncts.{is_some-find}
use Rattle.lens_pred.proofs.formula.Formula.is_mixed.Goals as goal

pub returns-then-mentions : goal.returns-then-mentions
returns-then-mentions c =
    let A = c.args.col.now in
    let names = names_in (formula_view c.args.self.now) in
    c.is_some.ensures ∙ ap is_some c.first_name.ensures
    ∙ is_some-find (λ n. not (eq_by_cmp bytes_cmp n A)) names
    ∙ ap (λ b. b && list_any (λ n. not (eq_by_cmp bytes_cmp n A)) names) (sym c.if-mentions.true ∙ c.mentions.ensures)
