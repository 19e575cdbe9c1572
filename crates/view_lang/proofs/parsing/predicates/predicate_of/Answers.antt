use Rattle.lens_pred.specs.View.{predicate_view}
use Rattle.view_lang.proofs.Normals.{is_made}
use Rattle.view_lang.proofs.parsing.predicates.predicate_of.Goals as goal

pub unwrap-requires : goal.unwrap-requires
unwrap-requires c = is_made (predicate_view c.args.conjuncts.items) c.new.result c.requires c.new.ensures.err
