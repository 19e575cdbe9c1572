use Rattle.std.proofs.Common.{◌≡◌, ◌≤◌, ◌+◌, ◌-◌, slice_range, take, vec_len, vec_capacity}
use Rattle.lens_io.specs.Cutting.{HasNoNewline}
use Rattle.lens_io.proofs.Asking.{Asking}
use Rattle.lens_io.proofs.Gathered.{Gathered}
use Rattle.lens_io.proofs.cutting.gathering.gather.Given as goal

abbrev pub invariant-gather : goal.invariant-gather
invariant-gather g l = record {
  capacity : 16777216 + 65536 ≤ vec_capacity l.bytes;
  first : l.fn.first ≤ l.end;
  size : l.end ≤ vec_len l.bytes;
  counted : l.taken + l.fn.first ≡ l.fn.before + l.end;
  most : l.taken ≤ l.fn.limit;
  clear : HasNoNewline (take l.end l.bytes.items);
  gathered : Gathered l.fn.first l.fn.bytes.items l.bytes.items l.end (g.S.Source.left l.fn.source) (g.S.Source.left l.source);
  asking : Asking (take l.fn.first l.fn.bytes.items) l.fn.before l.taken l.fn.limit (slice_range l.bytes.items l.fn.first l.end) (g.S.Source.asked l.fn.source) (g.S.Source.asked l.source);
  later : g.S.Source.faults l.fn.source ≤ g.S.Source.faults l.source;
}

abbrev pub decreases-gather : goal.decreases-gather
decreases-gather g l = l.fn.limit + 1 - l.taken
