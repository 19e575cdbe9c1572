use Rattle.std.proofs.Common.{◌+◌, ◌*◌, ◌≤◌, subst, sym}
use Rattle.lens_laws.proofs.Common.{work}
use Rattle.opened_view.specs.Seen.{seen, tables_under}
use Rattle.server_specs.specs.Common.{tested}
use Rattle.view_changes.specs.Puts.{IsPut}
use Rattle.view_changes.proofs.ChangeLooks.{changed_is}
use Rattle.view_changes.proofs.changes.put.Goals as goal

pub put_rows-requires : goal.put_rows-requires
put_rows-requires g c = c.in_ok-rows.ensures.set.1

pub returns-clause-put : goal.returns-clause-put
returns-clause-put g c =
    let o = c.args.opened.now in let L = o.view.lens in
    subst (λ r. IsPut L (tables_under o) c.put_rows.result (tested (seen o) L c.args.on r)) (sym c.in_ok-rows.ensures.set.0) c.put_rows.ensures.put

pub returns-clause-looks : goal.returns-clause-looks
returns-clause-looks g c = λ w finds.
    let o = c.args.opened.now in let L = o.view.lens in
    subst (λ n. c.put_rows.new.looked ≤ c.args.looked.now + 2 * work L n w) (sym (changed_is (tables_under o) L c.args.rows c.in_ok-rows.rows c.in_ok-rows.ensures.set.0)) (c.put_rows.ensures.looks w finds)
