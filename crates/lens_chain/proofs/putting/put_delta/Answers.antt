use Rattle.std.proofs.Common.{◌≡◌, ◌∙◌, ap, map}
use Rattle.plain_values.proofs.Common.{IfOk-weaker}
use Rattle.std.specs.FinMap as finmap
use Rattle.lens_specs.specs.Common.{changes}
use Rattle.lens_laws.proofs.Common.{table_deltas}
use Rattle.signed_delta.specs.Tables.{table_delta}
use Rattle.lens_chain.specs.Changed.{in_order, with_changes}
use Rattle.lens_chain.specs.Edits.{edited, over}
use Rattle.lens_chain.proofs.Gathered.{changes_gathered}
use Rattle.lens_chain.proofs.putting.put_delta.Goals as goal

pub returns : goal.returns
returns g c =
    let v = c.args.view.now in
    let d = c.args.delta in
    let gathered : c.carry_down.new.changes ≡ with_changes (table_deltas v.lens d (over v)) finmap.empty =
    c.in_ok-carry_down.ensures.changes ∙ ap (with_changes (table_deltas v.lens d (over v))) c.new-changes.ensures in
    let whole = IfOk-weaker c.in_order.result (λ list. map table_delta list.items ≡ in_order c.carry_down.new.changes) (λ list. map table_delta list.items ≡ changes v.lens (edited v.lens (over v) d) (over v))
    (λ list is. is ∙ ap in_order gathered ∙ changes_gathered v.lens (over v) c.carry_down.ensures.viewed.0 c.carry_down.ensures.viewed.1.tables d c.requires.edit)
    c.in_order.ensures in
    record {
      changes = whole;
      looks = c.carry_down.ensures.looks;
    }
