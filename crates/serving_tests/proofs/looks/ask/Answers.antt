use Rattle.serving.proofs.Served.{told_now}
use Rattle.serving_tests.proofs.looks.ask.Goals as goal

pub returns : goal.returns
returns g c = told_now c.answer-reply.new.self (g.K.Keeper.contents c.args.keeper.now) (g.K.Keeper.contents c.answer-reply.new.keeper) c.answer-reply.ensures.told
