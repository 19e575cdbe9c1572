use Rattle.std.proofs.Common.{refl}
use Rattle.lens_types.proofs.KeptLenses.{given_back}
use Rattle.lens_types.proofs.lens.TypedLens.join.Goals as goal

pub returns-in-Err : goal.returns-in-Err
returns-in-Err c = rw c.with.ensures (given_back c.in-Err.why _ _ _ refl (c.in-Err.ensures.sort c.args.kind))

pub invariant_of-result : goal.invariant_of-result
invariant_of-result c = rw (c.in-Ok-both_boxed.ensures.left, c.in-Ok-both_boxed.ensures.right) (c.in-Ok.ensures.kept c.args.kind)
