use Rattle.std.proofs.Common.{◌∙◌, ap, refl, sym, ◌==◌, length, map}
use Rattle.reply_printing.specs.Answers.{answer_view}
use Rattle.server_specs.specs.Common.{changed}
use Rattle.signed_delta.specs.Tables.{table_delta}
use Rattle.database.proofs.ChangePlans.{change_to, changes_planned, nothing_planned, told_none, told_some}
use Rattle.database.proofs.plans.plan_changes.Goals as goal

pub returns-then-is_empty : goal.returns-then-is_empty
returns-then-is_empty c = λ db can.
    let database = c.args.database.now in
    let ds = map table_delta c.args.deltas.items in
    nothing_planned database db c.unchanged.result ds ds refl (told_none c.args.deltas.items (ap (λ l. length l == 0) (sym c.as_slice.ensures.value) ∙ sym c.is_empty.ensures ∙ c.if-is_empty.true))
    (ap answer_view c.unchanged.ensures.answer ∙ ap (λ cs. changed cs database.version) c.new.ensures) c.unchanged.ensures.staged

pub returns : goal.returns
returns c = λ db can.
    let database = c.args.database.now in
    let ds = map table_delta c.args.deltas.items in
    changes_planned database db ds c.plan_tables.result c.requires.valid (change_to database db ds c.requires.valid can)
    (told_some c.args.deltas.items (ap (λ l. length l == 0) (sym c.as_slice.ensures.value) ∙ sym c.is_empty.ensures ∙ c.if-is_empty.false)) c.plan_tables.ensures
