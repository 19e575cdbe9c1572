use Rattle.std.proofs.Common.{◌≡◌, flat_map}
use Rattle.rehearsal.specs.Rehearsal.{below, view_lines}
use Rattle.rehearsal.specs.Stages.{Passes, at}
use Rattle.rehearsal.proofs.rehearsing.edit_view.Given as goal

abbrev pub invariant-loop-i : goal.invariant-loop-i
invariant-loop-i g l = record {
  passes : Passes (at l.fn.server (g.K.Keeper.faults l.fn.keeper) (g.K.Keeper.contents l.fn.keeper) (g.K.Keeper.calls l.fn.keeper) l.fn.tally l.fn.walked l.fn.looked) (flat_map view_lines (below l.i))
      (at l.server (g.K.Keeper.faults l.keeper) (g.K.Keeper.contents l.keeper) (g.K.Keeper.calls l.keeper) l.tally l.walked l.looked);
  place : g.K.Keeper.place l.keeper ≡ g.K.Keeper.place l.fn.keeper;
}
