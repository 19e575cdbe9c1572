use Rattle.std.proofs.Common.{◌≡◌, drop}
use Rattle.lens_specs.specs.Common.{unknown_in}
use Rattle.lens_types.proofs.unknowns.unknown_in.Given as goal

-- the answer is the one for what is left
abbrev pub invariant-loop-dep : goal.invariant-loop-dep
invariant-loop-dep l = unknown_in l.cols l.deps ≡ unknown_in l.cols (drop l.dep-index l.deps)
