use Rattle.std.proofs.Common.{subst, sym}
use Rattle.lens_types.specs.Kept.{IsKept}
use Rattle.lens_types.specs.Lenses.{kept_sort, lens_view}
use Rattle.lens_types.specs.declared.lens.Lens.{Lens}
use Rattle.lens_types.proofs.KeptLenses.{base_kept}
use Rattle.lens_types.proofs.lens.TypedLens.base.Goals as goal

pub invariant_of-result : goal.invariant_of-result
invariant_of-result c = subst (λ (l : Lens). IsKept (lens_view l) (kept_sort l) 1) (sym c.of_table.ensures.lens) (base_kept c.args.table c.args.sort c.of_table.ensures.sound)
