use Rattle.std.proofs.Common.{◌∙◌, refl, arith}
use Rattle.grammar_specs.specs.Common.{dep_meaning}
use Rattle.view_lang.specs.Outcomes.{AreItems, IsDep}
use Rattle.view_lang.proofs.Turns.{given_ok, stops}
use Rattle.view_lang.proofs.parsing.reader.Reader.dep.Goals as goal

pub returns-in_err-right : goal.returns-in_err-right
returns-in_err-right c =
    let one = given_ok AreItems _ c.in_ok-left.left _ c.in_ok-left.ensures.value.0 in (
      rw (one.1, ← c.in_ok-need.ensures.0.0) (stops AreItems IsDep _ _ _ _ _ c.in_err-right.ensures.value.0 c.from_residual-in_err-right.ensures.1),
      omega (arith, c.names.ensures.value.1, c.in_ok-need.ensures.0.2 refl, c.names-2.ensures.value.1),
    )

pub returns : goal.returns
returns c =
    let one = given_ok AreItems _ c.in_ok-left.left _ c.in_ok-left.ensures.value.0 in
    let two = given_ok AreItems _ c.in_ok-right.right _ c.in_ok-right.ensures.value.0 in (
      rw (one.1, ← c.in_ok-need.ensures.0.0, two.1) (c.in_ok-dep_of.ensures ∙ (λ i. dep_meaning (one.2 i, two.2 i)), refl),
      omega (arith, c.names.ensures.value.1, c.in_ok-need.ensures.0.2 refl, c.names-2.ensures.value.1),
    )
