use Rattle.std.proofs.Common.{◌≡◌, ◌≤◌, ◌+◌, ◌-◌, length}
use Rattle.serving.proofs.Served.{Served}
use Rattle.serving.proofs.input.serve.Given as goal

abbrev pub invariant-lines : goal.invariant-lines
invariant-lines g l = record {
  served : Served l.fn.server l.fn.cutter.limit l.cutter l.server (g.S.Source.left l.fn.source) (g.S.Source.left l.source) (g.W.Sink.taken l.fn.sink) (g.W.Sink.taken l.sink)
      (g.S.Source.asked l.fn.source) (g.S.Source.asked l.source) (g.W.Sink.offered l.fn.sink) (g.W.Sink.offered l.sink)
      (g.K.Keeper.faults l.fn.keeper) (g.K.Keeper.faults l.keeper) (g.K.Keeper.contents l.fn.keeper) (g.K.Keeper.contents l.keeper)
      (g.K.Keeper.calls l.fn.keeper) (g.K.Keeper.calls l.keeper) l.fn.walked l.walked;
  source : g.S.Source.faults l.fn.source ≤ g.S.Source.faults l.source;
  sink : g.W.Sink.faults l.fn.sink ≤ g.W.Sink.faults l.sink;
  keeper : g.K.Keeper.faults l.fn.keeper ≤ g.K.Keeper.faults l.keeper;
  place : g.K.Keeper.place l.keeper ≡ g.K.Keeper.place l.fn.keeper;
}

abbrev pub decreases-lines : goal.decreases-lines
decreases-lines g l = l.cutter.limit + 1 - l.cutter.taken + length l.cutter.pending
