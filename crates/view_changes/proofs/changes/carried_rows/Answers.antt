use Rattle.std.proofs.Common.{◌+◌, arith, subst}
use Rattle.lens_chain.proofs.EditLooks.{within_size}
use Rattle.lens_chain.specs.Edits.{over}
use Rattle.lens_laws.proofs.Common.{count_of, rows_of, size}
use Rattle.lens_specs.specs.Common.{new_view, get, sort_of}
use Rattle.server_specs.specs.Common.{of_sort}
use Rattle.view_changes.specs.Puts.{IsPut}
use Rattle.view_changes.proofs.ChangeLooks.{carried_few}
use Rattle.view_changes.proofs.SentRows.{new_fits}
use Rattle.view_changes.proofs.ChangeTests.{diff_edits}
use Rattle.view_changes.proofs.changes.carried_rows.Goals as goal

pub carried-requires : goal.carried-requires
carried-requires g c =
    let v = c.args.view.now in let R = c.args.removed.now in let A = c.args.added.now in
    (diff_edits v.lens (over v) c.in_ok-delta.delta (new_view (get v.lens (over v)) (record { remove = R; add = A })) c.in_ok-delta.ensures.delta
    (new_fits v.lens (over v) R A c.requires.viewed.0 c.requires.viewed.1.tables c.requires.added)).0

pub returns-clause-put : goal.returns-clause-put
returns-clause-put g c =
    let v = c.args.view.now in let L = v.lens in let R = c.args.removed.now in let A = c.args.added.now in
    let to = (diff_edits L (over v) c.in_ok-delta.delta (new_view (get L (over v)) (record { remove = R; add = A })) c.in_ok-delta.ensures.delta
    (new_fits L (over v) R A c.requires.viewed.0 c.requires.viewed.1.tables c.requires.added)).1 in
    subst (λ N. IsPut L (over v) c.carried.result (of_sort (sort_of L) N)) to c.carried.ensures.put

pub returns-clause-looks : goal.returns-clause-looks
returns-clause-looks g c = λ w finds.
    let v = c.args.view.now in let L = v.lens in let n = count_of c.args.removed.now + count_of c.args.added.now in
    carried_few L (rows_of c.in_ok-delta.delta) n w c.args.looked.now c.of_touched.new.looked c.carried.new.looked c.in_ok-delta.ensures.few (c.of_touched.ensures.looks (size L w) (within_size v w finds)) (c.carried.ensures.looks w finds)

pub returns-in_err-delta-clause-looks : goal.returns-in_err-delta-clause-looks
returns-in_err-delta-clause-looks g c = λ w finds.
    let v = c.args.view.now in let L = v.lens in let n = count_of c.args.removed.now + count_of c.args.added.now in
    let some = c.of_touched.ensures.looks (size L w) (within_size v w finds) in
    omega (arith, some)
