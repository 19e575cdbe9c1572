use Rattle.std.proofs.Common.{◌∙◌, ap}
use Rattle.plain_values.specs.SortedSet as set
use Rattle.view_reading.proofs.Listed.{all_pass, selected_listed}
use Rattle.view_reading.proofs.unfiltered.unfiltered_in.Goals as goal

pub returns-in_ok-rows_in-in-Base-clause-value : goal.returns-in_ok-rows_in-in-Base-clause-value
returns-in_ok-rows_in-in-Base-clause-value g c =
    selected_listed c.args.pred.now c.args.of.now c.args.tables.now.present.relations c.in_ok-rows_in-in-Base.field-0.items c.in_ok-rows_in-in-Base.ensures.value

pub returns-in_ok-selected_in-in-Select-clause-value : goal.returns-in_ok-selected_in-in-Select-clause-value
returns-in_ok-selected_in-in-Select-clause-value g c = ap set.from_list (all_pass c.in_ok-selected_in-in-Select.field-0.items) ∙ c.in_ok-selected_in-in-Select.ensures.value
