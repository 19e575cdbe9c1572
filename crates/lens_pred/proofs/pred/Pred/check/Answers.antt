use Rattle.std.proofs.Common.{◌≡◌, Some, None, ap, sym, ◌∙◌}
use Rattle.lens_specs.specs.Common.{unknown_name, unlike_all, unlike_kinds}
use Rattle.lens_pred.specs.Checked.{fault_first}
use Rattle.lens_pred.specs.View.{list_view}
use Rattle.lens_pred.proofs.Conjuncts.{unlike-list_view}
use Rattle.lens_pred.proofs.pred.Pred.check.Goals as goal

pub returns-in-Some-first_unlike : goal.returns-in-Some-first_unlike
returns-in-Some-first_unlike c =
    let U = c.args.columns.now in
    let P = c.args.self.now in
    let known : unknown_name U P ≡ None = sym c.first_name.ensures ∙ c.in_default.is in
    let unlike : unlike_kinds U P ≡ Some c.in-Some-first_unlike.name =
    sym (c.first_unlike.ensures ∙ ap (λ Q. unlike_all U (list_view Q)) c.conjuncts.ensures.list ∙ unlike-list_view U P) ∙ c.in-Some-first_unlike.is in
    sym (ap (λ o. fault_first o (unlike_kinds U P)) known ∙ ap (fault_first None) unlike)

pub returns-in-None : goal.returns-in-None
returns-in-None c =
    let U = c.args.columns.now in
    let P = c.args.self.now in
    let known : unknown_name U P ≡ None = sym c.first_name.ensures ∙ c.in_default.is in
    let like : unlike_kinds U P ≡ None =
    sym (c.first_unlike.ensures ∙ ap (λ Q. unlike_all U (list_view Q)) c.conjuncts.ensures.list ∙ unlike-list_view U P) ∙ c.in-None.is in
    sym (ap (λ o. fault_first o (unlike_kinds U P)) known ∙ ap (fault_first None) like)
