use Rattle.lens_laws.proofs.Common.{shown_is_of_sort}
use Rattle.whole_put.proofs.getting.get.Goals as goal

pub returns-clause-sort : goal.returns-clause-sort
returns-clause-sort c = shown_is_of_sort c.shown_over.result c.args.lens.now c.args.db.now c.of.ensures.typed c.requires c.shown_over.ensures
