use Rattle.std.proofs.Common.{◌≡◌, ◌∙◌, ap, subst, sym, map}
use Rattle.plain_values.specs.SortedSet as set
use Rattle.lens_specs.specs.Common.{Fits, outputs}
use Rattle.lens_specs.specs.Revision as spec
use Rattle.revision.specs.Changes.{ChangesOnly}
use Rattle.revision.proofs.Runs.{revised_fit, revised_keeps, revised_len, revised_set}
use Rattle.revision.proofs.revising.revise.Goals as goal
use Rattle.revision.proofs.revising.revise.Goals.{In_ok-new}

made : (c : In_ok-new) → c.in_ok-new.field-0 ≡ spec.revise c.args.tree.now c.args.relation.now.rows c.args.by.now
made c =
    revised_set c.args.tree.now c.args.relation.now.rows c.args.by.now c.in_ok-rows.rows.items c.in_ok-new.field-0 c.in_ok-new.ensures
    (c.in_ok-rows.ensures ∙ (λ i. map (λ m. spec.revise_row (c.edges.ensures.edges i) m c.args.by.now) ((c.rows-2.ensures ∙ ap set.items c.rows.ensures.rows) i)))

pub with_rows-requires : goal.with_rows-requires
with_rows-requires c = λ row there.
    let columns = c.in_ok-columns.ensures ∙ c.columns.ensures in
    subst (λ U. Fits U row) (sym columns)
    (revised_fit c.args.relation.now.columns c.args.tree.now c.args.relation.now.rows c.args.by.now c.requires c.rows.ensures.fit row
    (ap (λ s. set.contains s row) (sym (made (goal.at.with_rows-requires c).In_ok-new)) ∙ there))

pub returns-clause-value : goal.returns-clause-value
returns-clause-value c =
    let rows = made (goal.at.returns-clause-value c).In_ok-new in
    c.with_rows.ensures ∙ (λ i. record { columns = (c.in_ok-columns.ensures ∙ c.columns.ensures) i; rows = rows i })

pub returns-clause-keeps : goal.returns-clause-keeps
returns-clause-keeps c =
    let rows = made (goal.at.returns-clause-keeps c).In_ok-new in
    subst (λ new. ChangesOnly (outputs c.args.tree.now) c.args.relation.now.rows new) (sym (ap (λ r. r.rows) c.with_rows.ensures ∙ rows))
    (revised_keeps c.args.tree.now c.args.relation.now.rows c.args.by.now)

pub returns-clause-as_many : goal.returns-clause-as_many
returns-clause-as_many c = λ meets.
    let rows = made (goal.at.returns-clause-as_many c).In_ok-new in
    ap (λ r. set.len r.rows) c.with_rows.ensures ∙ ap set.len rows ∙ revised_len c.args.tree.now c.args.relation.now.rows c.args.by.now c.edges.ensures.tree meets
