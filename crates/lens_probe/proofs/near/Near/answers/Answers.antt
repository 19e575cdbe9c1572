use Rattle.std.proofs.Common.{◌∙◌, sym}
use Rattle.plain_values.proofs.Common.{same_is}
use Rattle.lens_probe.proofs.NearRows.{known_by}
use Rattle.lens_probe.proofs.near.Near.answers.Goals as goal

pub returns-then-same : goal.returns-then-same
returns-then-same c = λ M alike found.
    let C = c.args.self.now.cols in
    let D = c.args.query.now.cols.now in
    known_by C D c.args.self.now.key c.args.query.now.key.now M c.args.self.now.rows (same_is C D (sym c.same.ensures ∙ c.if-same.true)) (sym c.agree_on.ensures ∙ alike) found
