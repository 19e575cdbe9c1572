use Rattle.std.proofs.Common.{◌∙◌, sym, arith}
use Rattle.catalog_specs.specs.Catalogue.{catalogue}
use Rattle.view_lang.specs.ExprViews.{expr_view}
use Rattle.view_catalog.proofs.Verdicts.{view_made}
use Rattle.view_catalog.proofs.judging.judge_view.Goals as goal

pub returns : goal.returns
returns c =
    view_made (catalogue c.args.catalog.now.texts) c.args.name (expr_view c.args.expr) c.in_ok-lens.lens
    (sym c.has.ensures ∙ c.if-has.false) c.in_ok-lens.ensures (omega arith)
