-- What a drop is refused for by the columns and the tree alone, and by the predicate.
use Rattle.std.specs.Prelude.{ℕ, List, not, Option, Some, None, option_map, Result, Ok, Err, if◌then◌else◌}
use Rattle.std.specs.FinMap as map
use Rattle.plain_values.specs.declared.value.Value.{Value}
use Rattle.lens_specs.specs.Common.{Columns, names, fits_at, least_outside, Edge, Name, Names, Predicate, without_name, Refusal, unknown_column, kind_clash, or_else, when, is_column, first_mixed, is_determined, default_holds}
use Rattle.lens_specs.specs.Refusal.{no_such_dependency, mixed_conjunct, default_refused}

-- an unknown column, a value that does not fit, or columns that do not determine the one that is dropped
abbrev pub column_fault : Columns → List Edge → Name → Names → Value → Option Refusal
column_fault U T A X a =
    or_else (when (not (is_column U A)) (unknown_column A))
    (or_else (option_map unknown_column (least_outside X (names U)))
    (or_else (when (not (fits_at (Some a) (map.get U A))) (kind_clash A))
    (when (not (is_determined X A T)) (no_such_dependency A))))

-- the conjuncts that do not mention A, unless one mentions it and another column, or the value does not meet the others
abbrev pub unfilled_from : Option ℕ → Name → Value → Predicate → Result Predicate Refusal
unfilled_from (Some i) A a P = Err (mixed_conjunct i)
unfilled_from None A a P = if default_holds A a P then Ok (without_name A P) else Err default_refused

-- unfilled_from, by the first conjunct that is mixed
abbrev pub unfilled : Name → Value → Predicate → Result Predicate Refusal
unfilled A a P = unfilled_from (first_mixed A P) A a P
