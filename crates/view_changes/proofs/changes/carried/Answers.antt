use Rattle.std.proofs.Common.{◌∙◌, Err, ap, subst, sym}
use Rattle.plain_values.proofs.Common.{err_from_is_err_and}
use Rattle.lens_chain.specs.Edits.{edited, over}
use Rattle.lens_laws.proofs.Common.{rows_of, work}
use Rattle.lens_specs.specs.Common.{sort_of}
use Rattle.server_specs.specs.Common.{of_sort}
use Rattle.view_changes.specs.Puts.{IsPut}
use Rattle.view_changes.proofs.ChangeLooks.{once_of_two, twice}
use Rattle.view_changes.proofs.ChangeTests.{passes, tested_put}
use Rattle.view_changes.proofs.changes.carried.Goals as goal

pub put_delta-requires : goal.put_delta-requires
put_delta-requires g c = record { edit = (c.requires.0, c.in_ok-checked.ensures.tested) }

pub returns-clause-put : goal.returns-clause-put
returns-clause-put g c =
    let L = c.args.view.now.lens in
    let N = edited L (over c.args.view.now) c.args.delta in
    (N, passes (sort_of L) N c.in_ok-checked.ensures.tested, c.in_ok-checked.ensures.tested, c.in_ok-deltas.ensures.changes)

pub returns-in_err-checked-clause-put : goal.returns-in_err-checked-clause-put
returns-in_err-checked-clause-put g c =
    let L = c.args.view.now.lens in
    let N = edited L (over c.args.view.now) c.args.delta in
    let p = err_from_is_err_and c.from_residual.result c.from_residual.ensures.1 in
    subst (λ r. IsPut L (over c.args.view.now) r (of_sort (sort_of L) N)) (sym (p.1 ∙ ap Err p.2)) (tested_put L (over c.args.view.now) N c.in_err-checked.field-0.0 c.in_err-checked.ensures.tested)

pub returns-clause-looks : goal.returns-clause-looks
returns-clause-looks g c = λ w finds.
    twice (work c.args.view.now.lens (rows_of c.args.delta) w) c.args.looked.now c.checked.new.looked c.put_delta.new.looked (c.checked.ensures.looks w finds) (c.put_delta.ensures.looks w finds)

pub returns-in_err-deltas-clause-looks : goal.returns-in_err-deltas-clause-looks
returns-in_err-deltas-clause-looks g c = λ w finds.
    twice (work c.args.view.now.lens (rows_of c.args.delta) w) c.args.looked.now c.checked.new.looked c.put_delta.new.looked (c.checked.ensures.looks w finds) (c.put_delta.ensures.looks w finds)

pub returns-in_err-checked-clause-looks : goal.returns-in_err-checked-clause-looks
returns-in_err-checked-clause-looks g c = λ w finds.
    once_of_two (work c.args.view.now.lens (rows_of c.args.delta) w) c.args.looked.now c.checked.new.looked (c.checked.ensures.looks w finds)
