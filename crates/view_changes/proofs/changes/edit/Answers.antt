use Rattle.std.proofs.Common.{◌≡◌, ◌∙◌, ◌+◌, ◌*◌, ◌≤◌, Ok, Err, ap, arith, subst, sym}
use Rattle.plain_values.proofs.Common.{err_from_is_err_and}
use Rattle.lens_chain.proofs.EditLooks.{within_size}
use Rattle.lens_laws.proofs.Common.{AllFit, count_of, size, work}
use Rattle.lens_probe.specs.Viewed.{FindsAtMost, IsViewed, Viewed}
use Rattle.lens_specs.specs.Common.{new_view, get, sort_of}
use Rattle.opened_view.specs.Seen.{seen, tables_under}
use Rattle.server_specs.specs.Answer.{in_add, in_remove}
use Rattle.server_specs.specs.Common.{asked_view, edit_of, edited, of_sort, sent_view, tested}
use Rattle.view_changes.specs.Puts.{IsPut}
use Rattle.view_changes.specs.Sizes.{sent_by}
use Rattle.view_changes.proofs.ChangeLooks.{near_alone, near_first, sent_is}
use Rattle.view_changes.proofs.ChangeTests.{fresh_put, stale_put}
use Rattle.view_changes.proofs.changes.edit.Goals as goal

pub near-requires-clause-removed : goal.near-requires-clause-removed
near-requires-clause-removed g c = c.in_ok-removed.ensures.set.1

pub near-requires-clause-added : goal.near-requires-clause-added
near-requires-clause-added g c = c.in_ok-added.ensures.set.1

pub carried_rows-requires-clause-viewed : goal.carried_rows-requires-clause-viewed
carried_rows-requires-clause-viewed g c = subst IsViewed (sym c.knowing-view.ensures) c.in_ok-added.ensures.viewed

pub carried_rows-requires-clause-removed : goal.carried_rows-requires-clause-removed
carried_rows-requires-clause-removed g c = subst (λ (v : Viewed). AllFit (sort_of v.lens).columns c.in_ok-removed.removed) (sym c.knowing-view.ensures) c.in_ok-removed.ensures.set.1

pub carried_rows-requires-clause-added : goal.carried_rows-requires-clause-added
carried_rows-requires-clause-added g c = subst (λ (v : Viewed). AllFit (sort_of v.lens).columns c.in_ok-added.added) (sym c.knowing-view.ensures) c.in_ok-added.ensures.set.1

pub returns-clause-put : goal.returns-clause-put
returns-clause-put g c =
    let o = c.args.opened.now in let L = o.view.lens in let db = tables_under o in let R = c.in_ok-removed.removed in let A = c.in_ok-added.added in
    let N = new_view (get L db) (record { remove = R; add = A }) in
    let sent : sent_view (edited c.args.remove c.args.add) L (seen o) ≡ Ok N = (λ i. edit_of (get L db) (c.in_ok-removed.ensures.set.0 i) (c.in_ok-added.ensures.set.0 i)) in
    let carried = subst (λ (v : Viewed). IsPut v.lens v.tables.present.relations c.carried_rows.result (of_sort (sort_of v.lens) (new_view (get v.lens v.tables.present.relations) (record { remove = R; add = A })))) c.knowing-view.ensures c.carried_rows.ensures.put in
    subst (λ r. IsPut L db c.carried_rows.result (tested (seen o) L c.args.on r)) (sym sent)
    (fresh_put (seen o) L db c.args.on N N c.carried_rows.result c.in_ok-not_stale.ensures (λ i. N) carried)

pub returns-in_err-not_stale-clause-put : goal.returns-in_err-not_stale-clause-put
returns-in_err-not_stale-clause-put g c =
    let o = c.args.opened.now in let L = o.view.lens in let db = tables_under o in let R = c.in_ok-removed.removed in let A = c.in_ok-added.added in
    let N = new_view (get L db) (record { remove = R; add = A }) in
    let p = err_from_is_err_and c.from_residual-in_err-not_stale.result c.from_residual-in_err-not_stale.ensures.1 in
    let sent : sent_view (edited c.args.remove c.args.add) L (seen o) ≡ Ok N = (λ i. edit_of (get L db) (c.in_ok-removed.ensures.set.0 i) (c.in_ok-added.ensures.set.0 i)) in
    subst (λ r. IsPut L db r (asked_view (seen o) L (edited c.args.remove c.args.add) c.args.on)) (sym (p.1 ∙ ap Err p.2))
    (subst (λ r. IsPut L db (Err c.in_err-not_stale.field-0.0) (tested (seen o) L c.args.on r)) (sym sent)
    (stale_put (seen o) L db c.args.on N c.in_err-not_stale.field-0.0 c.in_err-not_stale.ensures))

pub returns-clause-looks : goal.returns-clause-looks
returns-clause-looks g c = λ w finds.
    let o = c.args.opened.now in let v = o.view in let L = v.lens in let R = c.in_ok-removed.removed in let A = c.in_ok-added.added in
    let r = sent_is in_remove L c.args.remove R c.in_ok-removed.ensures.set.0 in
    let a = sent_is in_add L c.args.add A c.in_ok-added.ensures.set.0 in
    let n = count_of R + count_of A in
    let sum : n ≡ sent_by L c.args.remove c.args.add = omega (arith, r, a) in
    let carried = subst (λ (x : Viewed). FindsAtMost x w → c.carried_rows.new.looked ≤ c.near.new.looked + (size x.lens w * n + 2 * work x.lens n w)) c.knowing-view.ensures (c.carried_rows.ensures.looks w) finds in
    subst (λ k. c.carried_rows.new.looked ≤ c.args.looked.now + 3 * work L k w) sum
    (near_first L n w c.args.looked.now c.near.new.looked c.carried_rows.new.looked (c.near.ensures.looks (size L w) (within_size v w finds)) carried)

pub returns-in_err-near-clause-looks : goal.returns-in_err-near-clause-looks
returns-in_err-near-clause-looks g c = λ w finds.
    let o = c.args.opened.now in let v = o.view in let L = v.lens in let R = c.in_ok-removed.removed in let A = c.in_ok-added.added in
    let r = sent_is in_remove L c.args.remove R c.in_ok-removed.ensures.set.0 in
    let a = sent_is in_add L c.args.add A c.in_ok-added.ensures.set.0 in
    let n = count_of R + count_of A in
    let sum : n ≡ sent_by L c.args.remove c.args.add = omega (arith, r, a) in
    subst (λ k. c.near.new.looked ≤ c.args.looked.now + 3 * work L k w) sum
    (near_alone L n w c.args.looked.now c.near.new.looked (c.near.ensures.looks (size L w) (within_size v w finds)))
