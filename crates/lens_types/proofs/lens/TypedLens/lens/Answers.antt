use Rattle.std.proofs.Common.{subst}
use Rattle.lens_laws.proofs.Common.{IsTyped}
use Rattle.lens_types.proofs.KeptLenses.{kept_is_typed}
use Rattle.lens_types.proofs.lens.TypedLens.lens.Goals as goal

pub returns-clause-typed : goal.returns-clause-typed
returns-clause-typed c = subst IsTyped c.self.view_is (kept_is_typed _ _ _ c.self.invariant)
