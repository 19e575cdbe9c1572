use Rattle.std.proofs.Common.{◌≡◌, ◌++◌, map}
use Rattle.lens_probe.specs.Needs.{pair_of}
use Rattle.lens_probe.proofs.needed.add_each.Given as goal

abbrev pub invariant-loop-cols : goal.invariant-loop-cols
invariant-loop-cols l = map pair_of l.all.items ≡ map pair_of l.initial.all.items ++ map (λ C. (l.table, C)) l.yielded
