use Rattle.plain_values.proofs.Common.{err_from_is_err_and}
use Rattle.io_specs.proofs.Calls.{Adds-weaker}
use Rattle.opening_laws.proofs.Opened.{opened_is_valid}
use Rattle.table_keeper.specs.Changes.{kept_view}
use Rattle.database.specs.States.{state_of}
use Rattle.lens_server.proofs.Loaded.{load_done, load_failed, start_told}
use Rattle.lens_server.proofs.server.Server.start.Goals as goal

pub returns-in_err-database-clause-opened : goal.returns-in_err-database-clause-opened
returns-in_err-database-clause-opened g c =
    let p = err_from_is_err_and c.from_residual-in_err-database.result c.from_residual-in_err-database.ensures.1 in
    rw (p.1, p.2) (start_told c.in_err-database.field-0.0 (g.K.Keeper.contents c.args.keeper.now) (kept_view c.in_ok-kept.kept) c.in_ok-kept.ensures.ok c.in_err-database.ensures.database)

pub invariant_of-result : goal.invariant_of-result
invariant_of-result g c = (
  opened_is_valid (kept_view c.in_ok-kept.kept) (state_of c.in_ok-database.database) c.in_ok-database.ensures.database,
  c.in_ok-database.ensures.keyed,
)

pub returns-in_err-kept-clause-calls : goal.returns-in_err-kept-clause-calls
returns-in_err-kept-clause-calls g c =
    let p = err_from_is_err_and c.from_residual.result c.from_residual.ensures.1 in
    rw (p.1, p.2) (Adds-weaker _ _ _ _ (load_failed c.in_err-kept.field-0.0 (g.K.Keeper.faults c.load.new.self)) c.in_err-kept.ensures.call)

pub returns-in_err-database-clause-calls : goal.returns-in_err-database-clause-calls
returns-in_err-database-clause-calls g c =
    let p = err_from_is_err_and c.from_residual-in_err-database.result c.from_residual-in_err-database.ensures.1 in
    rw (p.1, p.2) (Adds-weaker _ _ _ _ (load_done c.in_err-database.field-0.0 (g.K.Keeper.faults c.load.new.self)) c.in_ok-kept.ensures.call)

pub returns-clause-calls : goal.returns-clause-calls
returns-clause-calls g c = c.in_ok-kept.ensures.call
