use Rattle.std.proofs.Common.{◌++◌, sym, subst, ◌∙◌}
use Rattle.lens_pred.specs.View.{predicate_view}
use Rattle.grammar_specs.specs.Common.{conjuncts}
use Rattle.view_lang.specs.DefBounds.{AreNormal}
use Rattle.view_lang.specs.Outcomes.{reader_view, IsPred}
use Rattle.view_lang.proofs.Turns.{given_ok}
use Rattle.view_lang.proofs.NormalMeaning.{is_read_normal}
use Rattle.view_lang.proofs.parsing.reader.Reader.predicate.Goals as goal

pub predicate_of-requires : goal.predicate_of-requires
predicate_of-requires c =
    let one = given_ok IsPred _ c.in_ok-pred.field-0 _ c.in_ok-pred.ensures.0 in
    subst AreNormal (sym (c.in_ok-push_conjuncts.ensures ∙ (λ i. predicate_view (c.new-conjuncts.ensures.items i) ++ conjuncts (one.2 i)))) (is_read_normal c.args.room (reader_view c.args.self.now) _ one.0 one.1)
