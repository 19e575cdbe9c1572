use Rattle.std.proofs.Common.{◌≡◌}
use Rattle.plain_values.proofs.Common.{IfOk-weaker}
use Rattle.lens_specs.specs.Common.{drop}
use Rattle.view_reading.specs.Unfiltered.{passing}
use Rattle.view_reading.proofs.Listed.{selected_before, shown_before, whole_selected}
use Rattle.view_reading.proofs.unfiltered.unfiltered_selection.Goals as goal

pub unfiltered_in-requires-clause-columns : goal.unfiltered_in-requires-clause-columns
unfiltered_in-requires-clause-columns g c =
    let C = c.in-Drop.source.now in
    let is : drop c.in-Drop.col.now c.in-Drop.by.now c.in-Drop.fill.now C ≡ c.args.of.now =
    c.in-Drop.ensures.is in
    shown_before c.args.pred.now c.args.of.now C c.in-Drop.col.now c.in-Drop.by.now c.in-Drop.fill.now is c.requires.columns

pub returns-in-Drop-clause-value : goal.returns-in-Drop-clause-value
returns-in-Drop-clause-value g c =
    let C = c.in-Drop.source.now in
    let is : drop c.in-Drop.col.now c.in-Drop.by.now c.in-Drop.fill.now C ≡ c.args.of.now =
    c.in-Drop.ensures.is in
    IfOk-weaker c.unfiltered_in.result _ _
    (λ rows shown.
    selected_before c.args.pred.now c.args.of.now C c.in-Drop.col.now c.in-Drop.by.now c.in-Drop.fill.now c.args.tables.now.present.relations (passing rows) is c.requires.columns shown)
    c.unfiltered_in.ensures.value

pub returns-in-Base-clause-value : goal.returns-in-Base-clause-value
returns-in-Base-clause-value g c =
    IfOk-weaker c.unfiltered_in-in-Base.result _ _
    (λ rows shown. whole_selected c.args.pred.now c.args.of.now c.args.tables.now.present.relations (passing rows) c.node.ensures.typed c.requires.tables shown) c.unfiltered_in-in-Base.ensures.value
