use Rattle.std.proofs.Common.{◌∙◌, ◌+◌, ap, drop, map, subst, sym}
use Rattle.base_index.proofs.Tabled.{left_at}
use Rattle.server_specs.specs.Common.{with_last}
use Rattle.signed_delta.specs.Tables.{table_delta}
use Rattle.opened_view.specs.Moving.{AreThere}
use Rattle.opened_view.proofs.Moved.{still_there}
use Rattle.opened_view.proofs.last_changes.LastChanges.move_on.Goals as goal

pub move_one-requires : goal.move_one-requires
move_one-requires c =
    let left = left_at c.args.changes.now c.loop-change.change-index c.change-item.result c.loop-change-test.true c.change-item.is in
    (subst (λ ds. AreThere c.loop-change.self (map table_delta ds)) left c.loop-change.invariant.0).0

pub loop-change-preserved : goal.loop-change-preserved
loop-change-preserved c =
    let last = c.loop-change.self in
    let version = c.args.version in
    let rest = map table_delta (drop (c.loop-change.change-index + 1) c.args.changes.now) in
    let left = left_at c.args.changes.now c.loop-change.change-index c.change-item.result c.loop-change-test.true c.change-item.is in
    let there = subst (λ ds. AreThere last (map table_delta ds)) left c.loop-change.invariant.0 in (
      subst (λ now. AreThere now rest) (sym c.move_one.ensures) (still_there last c.change-item.result.table version rest there.1),
      ap (with_last version rest) c.move_one.ensures ∙ sym (ap (λ ds. with_last version (map table_delta ds) last) left) ∙ c.loop-change.invariant.1,
    )
