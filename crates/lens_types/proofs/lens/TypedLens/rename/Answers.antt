use Rattle.std.proofs.Common.{◌∙◌, ap}
use Rattle.lens_specs.specs.Lens as spec
use Rattle.lens_types.proofs.KeptLenses.{given_back, kept_from, ok_from, rename_kept, sort-rename}
use Rattle.lens_types.proofs.lens.TypedLens.rename.Goals as goal

pub returns-in-Err : goal.returns-in-Err
returns-in-Err c =
    let kept = kept_from c.args.self c.sort.result.now c.nodes-nodes.result c.sort.ensures.given c.sort.ensures.typed c.nodes-nodes.ensures.number c.nodes-nodes.ensures.few in
    rw c.with.ensures (given_back c.in-Err.why _ _ _ (sort-rename c.args.self c.sort.result.now c.nodes-nodes.result c.args.col c.args.to kept) c.in-Err.ensures)

pub invariant_of-result : goal.invariant_of-result
invariant_of-result c =
    let kept = kept_from c.args.self c.sort.result.now c.nodes-nodes.result c.sort.ensures.given c.sort.ensures.typed c.nodes-nodes.ensures.number c.nodes-nodes.ensures.few in
    rw c.in-Ok-boxed.ensures (rename_kept c.args.self c.sort.result.now c.in-Ok.sort c.nodes-nodes.result c.args.col c.args.to kept c.in-Ok.ensures)

pub returns : goal.returns
returns c =
    let kept = kept_from c.args.self c.sort.result.now c.nodes-nodes.result c.sort.ensures.given c.sort.ensures.typed c.nodes-nodes.ensures.number c.nodes-nodes.ensures.few in
    (ap (spec.rename c.args.col c.args.to) c.in-Ok-boxed.ensures, ok_from _ c.in-Ok.sort (sort-rename c.args.self c.sort.result.now c.nodes-nodes.result c.args.col c.args.to kept ∙ c.in-Ok.ensures))
