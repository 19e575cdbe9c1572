use Rattle.std.proofs.Common.{◌∙◌, ap, sym, option_map}
use Rattle.lens_specs.specs.Common.{unknown_column}
use Rattle.lens_types.proofs.UnknownColumns.{unknown_here, unknown_later}
use Rattle.lens_types.proofs.unknowns.unknown_in.Goals as goal

pub returns-in-Some : goal.returns-in-Some
returns-in-Some c =
    sym (c.loop-dep.invariant ∙ unknown_here c.args.cols.now c.args.deps.now c.loop-dep.dep-index c.dep-item.result (unknown_column c.in-Some.name) c.loop-dep-test.true c.dep-item.is
    (sym c.unknown_of.ensures ∙ ap (option_map unknown_column) c.in-Some.is))

pub loop-dep-preserved : goal.loop-dep-preserved
loop-dep-preserved c =
    c.loop-dep.invariant ∙ unknown_later c.args.cols.now c.args.deps.now c.loop-dep.dep-index c.dep-item.result c.loop-dep-test.true c.dep-item.is
    (sym c.unknown_of.ensures ∙ ap (option_map unknown_column) c.in_default.is)
