use Rattle.std.proofs.Common.{◌∙◌, ap}
use Rattle.plain_values.specs.SortedSet as set
use Rattle.view_reading.proofs.Listed.{all_pass}
use Rattle.view_reading.proofs.unfiltered.unfiltered_source.Goals as goal

pub returns-in_ok-rows_in-in-Base-clause-value : goal.returns-in_ok-rows_in-in-Base-clause-value
returns-in_ok-rows_in-in-Base-clause-value g c = ap set.from_list (all_pass c.in_ok-rows_in-in-Base.field-0.items) ∙ c.in_ok-rows_in-in-Base.ensures.value
