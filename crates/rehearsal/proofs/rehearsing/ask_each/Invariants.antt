use Rattle.std.proofs.Common.{◌≡◌, map, take, string_bytes}
use Rattle.server_specs.specs.Common.{marked}
use Rattle.rehearsal.specs.Stages.{Passes, at}
use Rattle.rehearsal.proofs.rehearsing.ask_each.Given as goal

abbrev pub invariant-loop-line : goal.invariant-loop-line
invariant-loop-line g l = record {
  passes : Passes (at l.fn.server (g.K.Keeper.faults l.fn.keeper) (g.K.Keeper.contents l.fn.keeper) (g.K.Keeper.calls l.fn.keeper) l.fn.tally l.fn.walked l.fn.looked) (map (λ line. marked (string_bytes line)) (take l.line-index l.lines))
      (at l.server (g.K.Keeper.faults l.keeper) (g.K.Keeper.contents l.keeper) (g.K.Keeper.calls l.keeper) l.tally l.walked l.looked);
  place : g.K.Keeper.place l.keeper ≡ g.K.Keeper.place l.fn.keeper;
}
