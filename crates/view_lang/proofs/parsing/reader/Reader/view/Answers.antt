use Rattle.std.proofs.Common.{refl, ap, arith}
use Rattle.grammar_specs.specs.Meaning as meaning
use Rattle.view_lang.specs.Outcomes.{IsExpr, IsDefinition}
use Rattle.view_lang.proofs.Turns.{given_ok, stops}
use Rattle.view_lang.proofs.parsing.reader.Reader.view.Goals as goal

pub returns-in_err-expr : goal.returns-in_err-expr
returns-in_err-expr c = (
  rw (← c.in_ok-name.ensures.0.0, ← c.in_ok-need.ensures.0.0) (stops IsExpr IsDefinition _ _ _ _ _ c.in_err-expr.ensures.0 c.from_residual-in_err-expr.ensures.1),
  omega (arith, c.in_ok-name.ensures.0.2 refl, c.in_ok-need.ensures.0.2 refl, c.expr.ensures.1),
)

pub returns : goal.returns
returns c =
    let one = given_ok IsExpr _ c.in_ok-expr.expr _ c.in_ok-expr.ensures.0 in (
      rw (← c.in_ok-name.ensures.0.0, ← c.in_ok-need.ensures.0.0, one.1) (ap (meaning.view c.in_ok-name.name) one.2, refl),
      omega (arith, c.in_ok-name.ensures.0.2 refl, c.in_ok-need.ensures.0.2 refl, c.expr.ensures.1),
    )
