use Rattle.std.proofs.Common.{◌≡◌, take, map}
use Rattle.lens_specs.specs.Revision as spec
use Rattle.revision.proofs.revising.each_revised.Given as goal

abbrev pub invariant-loop-row : goal.invariant-loop-row
invariant-loop-row l = l.revised.items ≡ map (λ m. spec.revise_row l.edges m l.by) (take l.row-index l.rows)
