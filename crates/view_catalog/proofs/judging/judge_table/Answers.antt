use Rattle.std.proofs.Common.{◌∙◌, sym, arith}
use Rattle.catalog_specs.specs.Catalogue.{catalogue}
use Rattle.view_catalog.proofs.Verdicts.{table_made}
use Rattle.view_catalog.proofs.judging.judge_table.Goals as goal

pub returns : goal.returns
returns c =
    rw c.base-lens.ensures (table_made (catalogue c.args.catalog.now.texts) c.args.name c.args.cols c.args.deps.now c.args.pred c.in_ok-sort.sort
    (sym c.has.ensures ∙ c.if-has.false) c.in_ok-sort.ensures (omega arith))
