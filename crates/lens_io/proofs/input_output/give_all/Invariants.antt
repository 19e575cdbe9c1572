use Rattle.std.proofs.Common.{◌≤◌, ◌-◌, length, take}
use Rattle.std.specs.Io.KnownBytes.{Appends}
use Rattle.lens_io.proofs.Offering.{Offering}
use Rattle.lens_io.proofs.input_output.give_all.Given as goal

abbrev pub invariant-loop-at : goal.invariant-loop-at
invariant-loop-at g l = record {
  within : l.at ≤ length l.bytes;
  given : Appends (g.W.Sink.taken l.fn.sink) (g.W.Sink.taken l.sink) (take l.at l.bytes);
  offering : Offering (length l.bytes) (length l.bytes - l.at) (g.W.Sink.offered l.fn.sink) (g.W.Sink.offered l.sink);
  later : g.W.Sink.faults l.fn.sink ≤ g.W.Sink.faults l.sink;
}

abbrev pub decreases-loop-at : goal.decreases-loop-at
decreases-loop-at g l = length l.bytes - l.at
