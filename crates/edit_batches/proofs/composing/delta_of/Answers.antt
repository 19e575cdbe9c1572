use Rattle.std.proofs.Common.{◌+◌, ap, sym, ◌∙◌, drop, map, cond}
use Rattle.lens_laws.proofs.Common.{delta_for}
use Rattle.signed_delta.specs.Tables.{table_delta}
use Rattle.edit_batches.proofs.Moves.{delta_at}
use Rattle.edit_batches.proofs.composing.delta_of.Goals as goal

pub returns-then-eq : goal.returns-then-eq
returns-then-eq c =
    let x = c.change-item.result in
    let name = c.args.name.now in
    let rest = delta_for name (map table_delta (drop (c.loop-change.change-index + 1) c.args.list.now)) in
    sym (c.loop-change.invariant ∙ delta_at c.args.list.now c.loop-change.change-index x name c.loop-change-test.true c.change-item.is
    ∙ ap (λ b. cond b x.delta rest) (sym c.eq.ensures ∙ c.if-eq.true))

pub loop-change-preserved : goal.loop-change-preserved
loop-change-preserved c =
    let x = c.change-item.result in
    let name = c.args.name.now in
    let rest = delta_for name (map table_delta (drop (c.loop-change.change-index + 1) c.args.list.now)) in
    c.loop-change.invariant ∙ delta_at c.args.list.now c.loop-change.change-index x name c.loop-change-test.true c.change-item.is
    ∙ ap (λ b. cond b x.delta rest) (sym c.eq.ensures ∙ c.if-eq.false)
