use Rattle.std.proofs.Common.{ap, arith}
use Rattle.std.specs.Option.{option_copied}
use Rattle.lens_server.specs.StartFaults.{of_keeper}
use Rattle.serving.proofs.Calls.{opening_loaded, opening_refused}
use Rattle.serving.proofs.Opened.{starts, at_first, told_kept}
use Rattle.serving.proofs.opening.open.Goals as goal

pub returns-in-Ok-clause-opens : goal.returns-in-Ok-clause-opens
returns-in-Ok-clause-opens g c =
    starts (option_copied c.args.place) _ (g.K.Keeper.contents c.args.keeper.now) (g.K.Keeper.contents c.choose_place.new.keeper) (g.K.Keeper.contents c.start.new.keeper) _ _ c.start.result
    c.choose_place.ensures.stays (omega (arith, c.choose_place.ensures.later, c.start.ensures.later)) c.start.ensures.opened c.start.ensures.kept

pub returns-in-Ok-clause-first : goal.returns-in-Ok-clause-first
returns-in-Ok-clause-first g c = at_first (g.K.Keeper.contents c.choose_place.new.keeper) c.start.result c.start.ensures.opened

pub returns-in-Ok-clause-told : goal.returns-in-Ok-clause-told
returns-in-Ok-clause-told g c = told_kept (g.K.Keeper.contents c.choose_place.new.keeper) (g.K.Keeper.contents c.start.new.keeper) c.start.result c.start.ensures.opened c.start.ensures.kept

pub returns-in-Ok-clause-calls : goal.returns-in-Ok-clause-calls
returns-in-Ok-clause-calls g c =
    opening_loaded (option_copied c.args.place) _ (g.K.Keeper.faults c.choose_place.new.keeper) (g.K.Keeper.faults c.start.new.keeper) c.start.result _ _ _ c.in-Ok.ensures.calls c.start.ensures.calls

pub returns-in-Err-Failed-clause-calls : goal.returns-in-Err-Failed-clause-calls
returns-in-Err-Failed-clause-calls g c =
    opening_refused (option_copied c.args.place) _ _ _ _ _ (ap of_keeper c.in-Err-Failed.field-0-is) c.in-Err-Failed.ensures.some c.in-Err-Failed.ensures.calls

pub returns-in-Err-NoMemory-clause-calls : goal.returns-in-Err-NoMemory-clause-calls
returns-in-Err-NoMemory-clause-calls g c =
    opening_refused (option_copied c.args.place) _ _ _ _ _ (ap of_keeper c.in-Err-NoMemory.field-0-is) c.in-Err-NoMemory.ensures.some c.in-Err-NoMemory.ensures.calls
