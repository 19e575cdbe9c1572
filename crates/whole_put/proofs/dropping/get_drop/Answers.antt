use Rattle.std.proofs.Common.{◌≡◌, ◌∙◌, ap, subst, IfOk}
use Rattle.lens_specs.specs.Common.{names}
use Rattle.whole_put.proofs.Drops.{dropped}
use Rattle.whole_put.proofs.dropping.get_drop.Goals as goal

pub returns : goal.returns
returns c =
    let same = dropped c.args.col.now c.args.source.now c.in_ok-all.all c.in_ok-single.field-0 c.in_ok-kept.kept
    (c.in_ok-all.ensures ∙ ap names c.columns.ensures) c.in_ok-single.ensures c.in_ok-kept.ensures in
    subst (λ u. IfOk c.project.result (λ view. view ≡ u)) same c.project.ensures
