use Rattle.std.proofs.Common.{length, refl, ap, arith}
use Rattle.grammar_specs.specs.Meaning as meaning
use Rattle.view_lang.specs.Outcomes.{reader_view, AreColumns, AreDeps, IsCondition, IsDefinition}
use Rattle.view_lang.proofs.Turns.{given_ok, stops, unread}
use Rattle.view_lang.proofs.parsing.reader.Reader.table.Goals as goal

pub returns-in_err-cols : goal.returns-in_err-cols
returns-in_err-cols c = (
  rw (← c.in_ok-name.ensures.0.0, ← c.in_ok-need.ensures.0.0) (stops AreColumns IsDefinition _ _ _ _ _ c.in_err-cols.ensures.0 c.from_residual-in_err-cols.ensures.1),
  omega (arith, c.in_ok-name.ensures.0.2 refl, c.in_ok-need.ensures.0.2 refl, c.columns.ensures.1),
)

pub returns-in_err-need-2 : goal.returns-in_err-need-2
returns-in_err-need-2 c =
    let cols = given_ok AreColumns _ c.in_ok-cols.cols _ c.in_ok-cols.ensures.0 in
    let same = ap reader_view (c.in_err-need-2.ensures.0.1 refl) in (
      rw (← c.in_ok-name.ensures.0.0, ← c.in_ok-need.ensures.0.0, cols.1, ← c.in_err-need-2.ensures.0.0) (unread IsDefinition _ _ _ _ same c.in_err-need-2.ensures.1 c.from_residual-in_err-need-2.ensures.1),
      omega (arith, c.in_ok-name.ensures.0.2 refl, c.in_ok-need.ensures.0.2 refl, c.columns.ensures.1, ap length same),
    )

pub returns-in_err-deps : goal.returns-in_err-deps
returns-in_err-deps c =
    let cols = given_ok AreColumns _ c.in_ok-cols.cols _ c.in_ok-cols.ensures.0 in (
      rw (← c.in_ok-name.ensures.0.0, ← c.in_ok-need.ensures.0.0, cols.1, ← c.in_ok-need-2.ensures.0.0) (stops AreDeps IsDefinition _ _ _ _ _ c.in_err-deps.ensures.0 c.from_residual-in_err-deps.ensures.1),
      omega (arith, c.in_ok-name.ensures.0.2 refl, c.in_ok-need.ensures.0.2 refl, c.columns.ensures.1, c.in_ok-need-2.ensures.0.2 refl, c.deps.ensures.1),
    )

pub returns-in_err-pred : goal.returns-in_err-pred
returns-in_err-pred c =
    let cols = given_ok AreColumns _ c.in_ok-cols.cols _ c.in_ok-cols.ensures.0 in
    let deps = given_ok AreDeps _ c.in_ok-deps.deps _ c.in_ok-deps.ensures.0 in (
      rw (← c.in_ok-name.ensures.0.0, ← c.in_ok-need.ensures.0.0, cols.1, ← c.in_ok-need-2.ensures.0.0, deps.1) (stops IsCondition IsDefinition _ _ _ _ _ c.in_err-pred.ensures.0 c.from_residual-in_err-pred.ensures.1),
      omega (arith, c.in_ok-name.ensures.0.2 refl, c.in_ok-need.ensures.0.2 refl, c.columns.ensures.1, c.in_ok-need-2.ensures.0.2 refl, c.deps.ensures.1, c.condition.ensures.1),
    )

pub returns : goal.returns
returns c =
    let cols = given_ok AreColumns _ c.in_ok-cols.cols _ c.in_ok-cols.ensures.0 in
    let deps = given_ok AreDeps _ c.in_ok-deps.deps _ c.in_ok-deps.ensures.0 in
    let condition = given_ok IsCondition _ c.in_ok-pred.pred _ c.in_ok-pred.ensures.0 in (
      rw (← c.in_ok-name.ensures.0.0, ← c.in_ok-need.ensures.0.0, cols.1, ← c.in_ok-need-2.ensures.0.0, deps.1, condition.1) ((λ i. meaning.table c.in_ok-name.name (cols.2 i) (deps.2 i) (condition.2 i)), refl),
      omega (arith, c.in_ok-name.ensures.0.2 refl, c.in_ok-need.ensures.0.2 refl, c.columns.ensures.1, c.in_ok-need-2.ensures.0.2 refl, c.deps.ensures.1, c.condition.ensures.1),
    )
