use Rattle.std.proofs.Common.{◌∙◌, ap, map}
use Rattle.plain_values.proofs.Common.{override}
use Rattle.lens_specs.specs.Common.{along}
use Rattle.whole_put.proofs.Drops.{made}
use Rattle.whole_put.proofs.dropping.rows_after.Goals as goal

pub returns : goal.returns
returns c =
    let default = c.in_ok-single.field-0 in
    let e = c.in_ok-edge_to.field-0 in
    made c.args.col.now c.args.by.now c.args.fill.now default e c.args.view.now c.args.source.now c.in_ok-filled.filled.items c.in_ok-moved.moved.items c.in_ok-rows.rows
    c.in_ok-single.ensures c.in_ok-edge_to.ensures
    (c.in_ok-filled.ensures ∙ ap (map (override default)) c.rows.ensures) (c.in_ok-moved.ensures ∙ ap (map (λ m. along e m c.args.source.now)) c.deref.ensures.value)
    c.in_ok-rows.ensures
