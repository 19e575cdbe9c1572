-- What a predicate taken apart by a column gives.
use Rattle.std.specs.Prelude.{ℕ, Option, Some, None, Result, Ok, Err}
use Rattle.lens_specs.specs.Common.{Name, Predicate, without_name, first_mixed}
use Rattle.lens_specs.specs.Predicate.{with_name}
use Rattle.lens_pred.specs.declared.splitting.SplitFault.{SplitFault}
use Rattle.lens_pred.specs.declared.splitting.SplitFault.TheVariants.{Mixed}

-- both parts, where no conjunct is mixed
abbrev pub split_from : Option ℕ → Name → Predicate → Result (Predicate × Predicate) SplitFault
split_from None A P = Ok (with_name A P, without_name A P)
split_from (Some i) A P = Err (Mixed i)

-- the conjuncts that mention A, and those that do not, or the place of the first that mentions A and another
abbrev pub split_of : Name → Predicate → Result (Predicate × Predicate) SplitFault
split_of A P = split_from (first_mixed A P) A P
