-- What a contract sees of a comparison.
use Rattle.lens_specs.specs.Predicate as spec
use Rattle.lens_pred.specs.declared.op.Op.{Op}
use Rattle.lens_pred.specs.declared.op.Op.TheVariants.{Eq, Ne, Lt, Le, Gt, Ge}

-- the comparison of the definition
abbrev pub op_view : Op → spec.Op
op_view Eq = spec.eq
op_view Ne = spec.ne
op_view Lt = spec.lt
op_view Le = spec.le
op_view Gt = spec.gt
op_view Ge = spec.ge
