use Rattle.std.proofs.Common.{◌≡◌, ◌++◌, ap, ◌∙◌}
use Rattle.plain_values.proofs.Common.{IfOk-weaker}
use Rattle.plain_values.specs.SortedSet as set
use Rattle.lens_specs.specs.Common.{mentioned, names_of, names_of_all}
use Rattle.lens_pred.specs.View.{list_view, predicate_view}
use Rattle.lens_pred.proofs.Conjuncts.{names-list_view}
use Rattle.lens_pred.proofs.pred.Pred.mentions.Goals as goal

pub returns : goal.returns
returns c =
    let P = c.args.self.now in
    let all : c.append_names_of.new.list.items ≡ names_of P =
    c.in_ok-append_names_of.ensures
    ∙ ap (λ ns. ns ++ names_of_all (list_view (predicate_view c.conjuncts.result.now))) c.new-list.ensures.items
    ∙ ap (λ Q. names_of_all (list_view Q)) c.conjuncts.ensures.list ∙ names-list_view P in
    IfOk-weaker c.new.result _ (λ names. names ≡ mentioned P) (λ names e. e ∙ ap set.from_list all) c.new.ensures
