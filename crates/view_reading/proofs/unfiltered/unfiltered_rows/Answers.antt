use Rattle.std.proofs.Common.{◌≡◌, ◌∙◌, ap, map}
use Rattle.plain_values.proofs.Common.{IfOk-weaker, restrict}
use Rattle.plain_values.specs.SortedSet as set
use Rattle.lens_specs.specs.Common.{drop, view_names}
use Rattle.view_reading.specs.Unfiltered.{passing}
use Rattle.view_reading.proofs.Listed.{all_pass, dropped_listed, whole_listed}
use Rattle.view_reading.proofs.unfiltered.unfiltered_rows.Goals as goal

pub returns-in-Drop-clause-value : goal.returns-in-Drop-clause-value
returns-in-Drop-clause-value g c =
    let C = c.in-Drop.of.now in
    let is : drop c.in-Drop.col.now c.in-Drop.by.now c.in-Drop.fill.now C ≡ c.args.lens.now =
    c.in-Drop.ensures.is in
    IfOk-weaker c.unfiltered_source.result _ _
    (λ rows shown. dropped_listed c.args.lens.now C c.in-Drop.col.now c.in-Drop.by.now c.in-Drop.fill.now c.args.tables.now.present.relations (passing rows) is shown) c.unfiltered_source.ensures.value

pub returns-in_ok-rows_in-in-Base-clause-value : goal.returns-in_ok-rows_in-in-Base-clause-value
returns-in_ok-rows_in-in-Base-clause-value g c =
    let rows = c.in_ok-rows_in-in-Base.field-0.items in
    ap (λ l. set.from_list (map (restrict (view_names c.args.lens.now)) l)) (all_pass rows)
    ∙ whole_listed c.args.lens.now c.args.tables.now.present.relations rows c.node.ensures.typed c.requires c.in_ok-rows_in-in-Base.ensures.value
