use Rattle.std.proofs.Common.{ap, ◌∙◌, is_some}
use Rattle.plain_values.proofs.Common.{eq_by_cmp, bytes_cmp}
use Rattle.lens_specs.specs.Common.{names_of}
use Rattle.lens_pred.proofs.Conjuncts.{is_some-find, among-names_of}
use Rattle.lens_pred.proofs.pred.Pred.mentions_name.Goals as goal

pub returns : goal.returns
returns c =
    c.is_some.ensures ∙ ap is_some c.first_name.ensures
    ∙ is_some-find (eq_by_cmp bytes_cmp c.args.name.now) (names_of c.args.self.now)
    ∙ among-names_of c.args.self.now c.args.name.now
