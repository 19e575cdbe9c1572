use Rattle.lens_probe.proofs.Viewing.{whole_asks}
use Rattle.lens_probe.proofs.view.View.of.Goals as goal

pub new-requires-clause-asks : goal.new-requires-clause-asks
new-requires-clause-asks c = whole_asks c.args.lens.now c.none.result.sets c.args.tables.now.present c.none.ensures c.requires.keys c.requires.tables c.requires.indexed
