use Rattle.std.proofs.Common.{◌+◌, ◌∙◌, ap, drop, sym}
use Rattle.plain_values.proofs.Common.{drop_all}
use Rattle.lens_specs.specs.Revision as spec
use Rattle.revision.proofs.Runs.{no_more, one_more}
use Rattle.revision.proofs.revising.one_revised.Goals as goal

pub loop-edge-preserved : goal.loop-edge-preserved
loop-edge-preserved c =
    let T = c.args.edges.now in
    let L = c.args.by.now in
    let i = c.loop-edge.edge-index in
    let e = c.edge-item.result in
    ap (λ m. spec.revise_row (drop (i + 1) T) m L) c.in_ok-revised-2.ensures ∙ one_more T i e c.loop-edge.revised L c.loop-edge-test.true c.edge-item.is ∙ c.loop-edge.invariant

pub returns : goal.returns
returns c =
    let T = c.args.edges.now in
    let i = c.loop-edge.edge-index in
    sym (no_more T i c.loop-edge.revised c.args.by.now (drop_all i T c.loop-edge-test.false)) ∙ c.loop-edge.invariant
