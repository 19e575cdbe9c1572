use Rattle.std.proofs.Common.{◌≤◌, ◌+◌, ◌-◌, vec_capacity}
use Rattle.lens_io.proofs.PassedOver.{PassedOver}
use Rattle.lens_io.proofs.cutting.gathering.pass_over.Given as goal

abbrev pub invariant-pass : goal.invariant-pass
invariant-pass g l = record {
  capacity : 16777216 + 65536 ≤ vec_capacity l.bytes;
  most : l.taken ≤ l.fn.limit;
  passed : PassedOver l.fn.before l.taken l.fn.limit (g.S.Source.left l.fn.source) (g.S.Source.left l.source) (g.S.Source.asked l.fn.source) (g.S.Source.asked l.source);
  later : g.S.Source.faults l.fn.source ≤ g.S.Source.faults l.source;
}

abbrev pub decreases-pass : goal.decreases-pass
decreases-pass g l = l.fn.limit + 1 - l.taken
