use Rattle.std.proofs.Common.{◌≡◌, ◌++◌, ap, sym, subst, ◌∙◌, IsTrue}
use Rattle.plain_values.proofs.Common.{list_all}
use Rattle.lens_specs.specs.Common.{renamed_predicate}
use Rattle.lens_pred.specs.NormalForm.{is_conjunct}
use Rattle.lens_pred.specs.View.{predicate_view}
use Rattle.lens_pred.proofs.Renamed.{conjuncts_renamed}
use Rattle.lens_pred.proofs.pred.Pred.rename.Goals as goal

pub from_normal-requires : goal.from_normal-requires
from_normal-requires c =
    let A = c.args.from.now in
    let B = c.args.to.now in
    let made : predicate_view c.append_renamed.new.list.items ≡ renamed_predicate A B c.args.self.now =
    c.in_ok-append_renamed.ensures ∙ ap (λ fs. predicate_view fs ++ renamed_predicate A B (predicate_view c.conjuncts.result.now)) c.new-conjuncts.ensures.items
    ∙ ap (renamed_predicate A B) c.conjuncts.ensures.list in
    subst IsTrue (sym (ap (list_all is_conjunct) made ∙ conjuncts_renamed A B c.args.self.now)) c.conjuncts.ensures.normal
