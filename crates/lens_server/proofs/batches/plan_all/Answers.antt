use Rattle.std.proofs.Common.{sym, subst, IfOk, map}
use Rattle.server_laws.proofs.Batches.{batch_by}
use Rattle.signed_delta.specs.Tables.{table_delta}
use Rattle.lens_server.specs.Databases.{IsPlan, state_of}
use Rattle.lens_server.proofs.batches.plan_all.Goals as goal

pub returns : goal.returns
returns c = λ db stored chain.
    let database = c.args.database.now in let s = state_of database in
    let ds = map table_delta c.in_ok-deltas.deltas.items in
    let leads = c.in_ok-deltas.ensures.leads s.tables db chain in
    subst (λ x. IfOk c.plan_changes.result (λ plan. IsPlan plan x database)) (sym (batch_by s db ds c.in_ok-deltas.ensures.deltas leads))
    (c.plan_changes.ensures db (record { stored = stored; rising = c.in_ok-deltas.ensures.deltas; leads = leads }))
