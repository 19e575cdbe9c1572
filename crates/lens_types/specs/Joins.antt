-- What a join is refused for by the columns of its sides, and by its sides without their sizes.
use Rattle.std.specs.Prelude.{Option, Some, None, option_map, Result, Ok, Err}
use Rattle.lens_specs.specs.Common.{Columns, both_columns, kinds_differ, Name, Refusal, kind_clash, or_else, unsteady, Sort, undetermined}
use Rattle.lens_specs.specs.Refusal.{left_side, right_side, not_determined, side_mentions_output, table_twice}

-- the columns of both, unless a shared one has two kinds
abbrev pub columns_from : Option Name → Columns → Columns → Result Columns Refusal
columns_from (Some name) U V = Err (kind_clash name)
columns_from None U V = Ok (both_columns U V)

-- the columns of both, unless a shared one has two kinds: the first of those in their order is named
abbrev pub joined_columns : Columns → Columns → Result Columns Refusal
joined_columns U V = columns_from (kinds_differ U V) U V

-- a side with a conjunct that is not steady, the left one first, or a table that both have
abbrev pub mention_fault : Sort → Sort → Option Name → Option Refusal
mention_fault s t twice =
    or_else (option_map (side_mentions_output left_side) (unsteady s.predicate s.tree))
    (or_else (option_map (side_mentions_output right_side) (unsteady t.predicate t.tree))
    (option_map table_twice twice))

-- a right column that is not determined, or one of these
abbrev pub sides_fault : Sort → Sort → Option Name → Option Refusal
sides_fault s t twice = or_else (option_map not_determined (undetermined s t)) (mention_fault s t twice)
