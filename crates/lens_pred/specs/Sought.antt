-- Which names are sought in a formula.
use Rattle.std.specs.Prelude.{Bool, not}
use Rattle.std.specs.Ordering.{eq_by_cmp}
use Rattle.plain_values.specs.Order.{bytes_cmp}
use Rattle.plain_values.specs.SortedSet as set
use Rattle.lens_specs.specs.Common.{Name, is_column}
use Rattle.lens_pred.specs.declared.naming.Sought.{Sought}
use Rattle.lens_pred.specs.declared.naming.Sought.TheVariants.{Is, IsNot, IsOutside, IsIn, IsNotIn}

-- whether the name is one of those that are sought
abbrev pub passes : Sought → Name → Bool
passes (Is n) c = eq_by_cmp bytes_cmp n.now c
passes (IsNot n) c = not (eq_by_cmp bytes_cmp c n.now)
passes (IsOutside U) c = not (is_column U.now c)
passes (IsIn C) c = set.contains C.now c
passes (IsNotIn C) c = not (set.contains C.now c)
