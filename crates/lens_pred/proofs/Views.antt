-- A formula, level by level, beside the formula of the definition.
use Rattle.std.proofs.Common.{◌≡◌, List, rules}
use Rattle.lens_specs.specs.Common.{Name}
use Rattle.lens_specs.specs.Predicate as spec
use Rattle.plain_values.specs.declared.value.Value.{Value}
use Rattle.lens_pred.specs.View.{formula_view, formulas_view}
use Rattle.lens_pred.specs.declared.formula.Formula.{OneOf, And, Or, the_lemmas}
use Rattle.lens_pred.specs.declared.formula.Formulas.{Formulas}

pub view-OneOf : (c : Name) (vs : List Value) → formula_view (OneOf c vs) ≡ spec.one_of c vs
view-OneOf c vs = search (rules, the_lemmas)

pub view-And : (fs : Formulas) → formula_view (And fs) ≡ spec.all_of (formulas_view fs)
view-And fs = search (rules, the_lemmas)

pub view-Or : (fs : Formulas) → formula_view (Or fs) ≡ spec.any_of (formulas_view fs)
view-Or fs = search (rules, the_lemmas)
