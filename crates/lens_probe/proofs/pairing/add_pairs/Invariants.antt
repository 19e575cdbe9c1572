use Rattle.std.proofs.Common.{◌≡◌, ◌++◌, filter, map, take}
use Rattle.lens_specs.specs.Common.{agree}
use Rattle.lens_probe.specs.Looking.{both_of}
use Rattle.lens_probe.proofs.pairing.add_pairs.Given as goal

abbrev pub invariant-loop-other : goal.invariant-loop-other
invariant-loop-other l = l.pairs.items ≡ l.initial.pairs.items ++ filter (agree l.query.cols.now l.query.key.now) (map (both_of l.is_left l.kept l.row) (take l.other-index l.others))
