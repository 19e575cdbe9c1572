use Rattle.lens_laws.proofs.Common.{table_sort_is_sound}
use Rattle.lens_types.specs.Sorts.{sort_from}
use Rattle.lens_types.proofs.SmallSorts.{table_small}
use Rattle.lens_types.proofs.sort.Sort.table.Goals as goal

pub invariant_of-result : goal.invariant_of-result
invariant_of-result c =
    let s = sort_from c.args.cols c.args.pred c.in-Ok.tree in (
      table_sort_is_sound c.args.cols c.args.deps.now c.args.pred s c.in-Ok.ensures,
      table_small c.args.cols c.args.deps.now c.args.pred s c.in-Ok.ensures,
    )
