use Rattle.std.proofs.Common.{◌≡◌, ◌∙◌, ap, subst, sym, Ok}
use Rattle.lens_specs.specs.Common.{sort}
use Rattle.lens_laws.proofs.Common.{IsTyped}
use Rattle.lens_types.proofs.KeptLenses.{kept_is_typed}
use Rattle.lens_types.proofs.lens.TypedLens.sort.Goals as goal

pub returns-clause-given : goal.returns-clause-given
returns-clause-given c = subst (λ L. sort L ≡ Ok c.sort.result.now) c.self.view_is (c.self.invariant.sort ∙ ap Ok (sym c.sort.ensures))

pub returns-clause-typed : goal.returns-clause-typed
returns-clause-typed c = subst IsTyped c.self.view_is (kept_is_typed _ _ _ c.self.invariant)
