use Rattle.std.proofs.Common.{◌∙◌, ◌+◌, ◌*◌, ◌≤◌, Err, ap, subst, sym, Ok}
use Rattle.plain_values.proofs.Common.{err_from_is_err_and}
use Rattle.lens_chain.specs.Edits.{edited}
use Rattle.lens_laws.proofs.Common.{rows_of, work}
use Rattle.opened_view.specs.Seen.{seen, tables_under}
use Rattle.server_specs.specs.Common.{tested}
use Rattle.view_changes.specs.Puts.{IsPut}
use Rattle.view_changes.proofs.ChangeTests.{diff_edits, fresh_put, stale_put}
use Rattle.view_changes.proofs.changes.put_rows.Goals as goal

pub carried-requires : goal.carried-requires
carried-requires g c =
    let o = c.args.opened.now in
    (diff_edits o.view.lens (tables_under o) c.in_ok-delta.delta c.args.rows.now c.in_ok-delta.ensures.delta c.requires).0

pub returns-clause-put : goal.returns-clause-put
returns-clause-put g c =
    let o = c.args.opened.now in let L = o.view.lens in let db = tables_under o in let d = c.in_ok-delta.delta in
    fresh_put (seen o) L db c.args.on (edited L db d) c.args.rows.now c.carried.result c.in_ok-not_stale.ensures
    (diff_edits L db d c.args.rows.now c.in_ok-delta.ensures.delta c.requires).1 c.carried.ensures.put

pub returns-in_err-not_stale-clause-put : goal.returns-in_err-not_stale-clause-put
returns-in_err-not_stale-clause-put g c =
    let o = c.args.opened.now in let L = o.view.lens in
    let p = err_from_is_err_and c.from_residual.result c.from_residual.ensures.1 in
    subst (λ r. IsPut L (tables_under o) r (tested (seen o) L c.args.on (Ok c.args.rows.now))) (sym (p.1 ∙ ap Err p.2))
    (stale_put (seen o) L (tables_under o) c.args.on c.args.rows.now c.in_err-not_stale.field-0.0 c.in_err-not_stale.ensures)

pub returns-clause-looks : goal.returns-clause-looks
returns-clause-looks g c = λ w finds.
    let L = c.args.opened.now.view.lens in
    subst (λ d. c.carried.new.looked ≤ c.args.looked.now + 2 * work L (rows_of d) w) c.in_ok-delta.ensures.delta (c.carried.ensures.looks w finds)
