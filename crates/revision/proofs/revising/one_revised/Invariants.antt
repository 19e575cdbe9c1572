use Rattle.std.proofs.Common.{◌≡◌, drop}
use Rattle.lens_specs.specs.Revision as spec
use Rattle.revision.proofs.revising.one_revised.Given as goal

abbrev pub invariant-loop-edge : goal.invariant-loop-edge
invariant-loop-edge l = spec.revise_row (drop l.edge-index l.edges) l.revised l.by ≡ spec.revise_row l.edges l.row l.by
