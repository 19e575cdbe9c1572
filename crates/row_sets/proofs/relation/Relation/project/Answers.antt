use Rattle.std.proofs.Common.{◌≡◌, ◌∙◌, sym, ap, subst, true}
use Rattle.plain_values.specs.SortedSet as set
use Rattle.lens_specs.specs.Common.{Columns, Fits, Relation, project, columns_in}
use Rattle.row_sets.proofs.Parts.{projected_fit}
use Rattle.row_sets.proofs.relation.Relation.project.Goals as goal

pub invariant_of-result : goal.invariant_of-result
invariant_of-result c = λ row there.
    subst (λ (cs : Columns). Fits cs row) (sym c.in_ok-columns.ensures)
    (projected_fit c.args.columns.now c.self.inside.columns c.self.inside.rows c.self.invariant row (subst (λ s. set.contains s row ≡ true) c.in_ok-rows.ensures there))

pub returns : goal.returns
returns c =
    let columns : c.in_ok-columns.columns ≡ columns_in c.args.self.now.columns c.args.columns.now =
    c.in_ok-columns.ensures ∙ ap (λ (r : Relation). columns_in r.columns c.args.columns.now) c.self.view_is in
    let rows : c.in_ok-rows.rows ≡ project c.args.columns.now c.args.self.now.rows = c.in_ok-rows.ensures ∙ ap (λ (r : Relation). project c.args.columns.now r.rows) c.self.view_is in
    λ k. record { columns = columns k; rows = rows k }
