-- What a contract sees of formulas.
use Rattle.std.specs.Prelude.{List, [], ◌∷◌, map}
use Rattle.lens_specs.specs.Predicate as spec
use Rattle.lens_pred.specs.Op.{op_view}
use Rattle.lens_pred.specs.declared.formula.Formula.{Formula, fold-Formula}
use Rattle.lens_pred.specs.declared.formula.Formula.TheOpen.{Formula-F, Formulas-F}
use Rattle.lens_pred.specs.declared.formula.Formulas.{Formulas, fold-Formulas}

-- the list of the definition
abbrev pub list_view : List spec.Formula → spec.Formulas
list_view [] = spec.no_formulas
list_view (f ∷ fs) = spec.formulas f (list_view fs)

-- one level, with each formula inside already seen as that of the definition
abbrev pub view_step : Formula-F spec.Formula spec.Formulas → spec.Formula
view_step Formula-F.True = spec.truth
view_step Formula-F.False = spec.falsity
view_step (Formula-F.Compare c op v) = spec.compare c (op_view op) v
view_step (Formula-F.CompareCols c op d) = spec.compare_columns c (op_view op) d
view_step (Formula-F.OneOf c vs) = spec.one_of c vs
view_step (Formula-F.IsNull c) = spec.null_at c
view_step (Formula-F.Not f) = spec.negation f.value
view_step (Formula-F.And fs) = spec.all_of fs
view_step (Formula-F.Or fs) = spec.any_of fs

-- the list, with each formula in it already seen as that of the definition
abbrev pub list_step : Formulas-F spec.Formula spec.Formulas → spec.Formulas
list_step fs = list_view fs.list.items

-- the formula of the definition
abbrev pub formula_view : Formula → spec.Formula
formula_view = fold-Formula spec.Formula spec.Formulas view_step list_step

-- the list of formulas of the definition
abbrev pub formulas_view : Formulas → spec.Formulas
formulas_view = fold-Formulas spec.Formula spec.Formulas view_step list_step

-- the conjuncts of the definition
abbrev pub predicate_view : List Formula → spec.Predicate
predicate_view = map formula_view
