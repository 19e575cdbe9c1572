use Rattle.std.proofs.Common.{◌∙◌, sym, ap, length, arith, Some}
use Rattle.std.specs.FinMap as finmap
use Rattle.lens_specs.specs.Common.{too_large}
use Rattle.view_limits.specs.Views.{limit_view}
use Rattle.lens_types.specs.Sorts.{sort_from}
use Rattle.lens_types.proofs.SizeLimits.{many_columns, many_lenses, many_formulas, few_of_all}
use Rattle.lens_types.proofs.sizes.size_fault.Goals as goal
use Rattle.lens_types.proofs.sizes.size_fault.Goals.{then-pairs-gt-MAX_COLUMNS, else-pairs-gt-MAX_COLUMNS+then-nodes-gt-MAX_LENS, else-pairs-gt-MAX_COLUMNS+else-nodes-gt-MAX_LENS+then-nodes-gt-MAX_PREDICATE}

pub returns-else-nodes-gt-MAX_PREDICATE : goal.returns-else-nodes-gt-MAX_PREDICATE
returns-else-nodes-gt-MAX_PREDICATE c = λ tree.
    let size = finmap.len-entries c.args.cols.now in
    sym (few_of_all c.args.nodes (sort_from c.args.cols.now c.args.pred.now tree) (omega (arith, size, ap length c.pairs.ensures)) (omega arith) (omega arith))

pub returns : goal.returns
returns c = λ tree.
    let s = sort_from c.args.cols.now c.args.pred.now tree in
    let size = finmap.len-entries c.args.cols.now in
    elim c.if-pairs-gt-MAX_COLUMNS.branch [
      | then-pairs-gt-MAX_COLUMNS w ↦ ap (λ l. Some (too_large (limit_view l))) w.what-is ∙ sym (many_columns c.args.nodes s (omega (arith, size, ap length c.pairs.ensures)))
      | else-pairs-gt-MAX_COLUMNS+then-nodes-gt-MAX_LENS w ↦ ap (λ l. Some (too_large (limit_view l))) w.what-is ∙ sym (many_lenses c.args.nodes s (omega (arith, size, ap length c.pairs.ensures)) (omega arith))
      | else-pairs-gt-MAX_COLUMNS+else-nodes-gt-MAX_LENS+then-nodes-gt-MAX_PREDICATE w ↦ ap (λ l. Some (too_large (limit_view l))) w.what-is ∙ sym (many_formulas c.args.nodes s (omega (arith, size, ap length c.pairs.ensures)) (omega arith) (omega arith))
    ]
