use Rattle.lens_server.proofs.BatchSteps.{held_can, taken_back}
use Rattle.lens_server.proofs.batches.plan_batch.Goals as goal

pub make_edits-made-requires : goal.make_edits-made-requires
make_edits-made-requires g c = held_can c.args.database.now c.hold.new.self c.requires.valid c.requires.keyed c.hold.ensures

pub take_back-requires : goal.take_back-requires
take_back-requires g c = c.make_edits-made.ensures.holding.can.held

pub returns-in-Ok-clause-same : goal.returns-in-Ok-clause-same
returns-in-Ok-clause-same g c = taken_back c.args.database.now c.make_edits-made.new.database c.hold.new.self c.take_back.new.tables c.requires.keyed c.hold.ensures c.make_edits-made.ensures.holding c.take_back.ensures
