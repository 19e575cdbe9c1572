use Rattle.std.proofs.Common.{◌≡◌, ◌∙◌, Some, None, Err, ap, length, refl, subst, sym}
use Rattle.plain_values.proofs.Common.{Contains}
use Rattle.fd_tree.specs.ClashView.{shown_clash}
use Rattle.lens_chain.proofs.Premises.{edges_asked}
use Rattle.lens_chain.specs.Edits.{edited, over}
use Rattle.lens_laws.proofs.Common.{get_sort, given_is, size}
use Rattle.edit_check.specs.Checked.{IsChecked}
use Rattle.lens_probe.specs.Viewed.{asked_by, shown}
use Rattle.lens_specs.specs.Common.{AllEdges, sort_of, Sort, IsOf, IsOfSort, violating_pair, violating_row}
use Rattle.server_specs.specs.Common.{unless_clash, unless_off}
use Rattle.server_specs.specs.EditRefusal as refusals
use Rattle.lens_chain.proofs.EditLooks.{edges_few, within_size}
use Rattle.view_changes.proofs.ChangeLooks.{check_within}
use Rattle.view_changes.proofs.FoundClashes.{IsFoundClash, clash_asked, found_clash}
use Rattle.view_changes.proofs.changes.checked.Goals as goal

pub check_edit-requires-clause-sort : goal.check_edit-requires-clause-sort
check_edit-requires-clause-sort g c =
    let v = c.args.view.now in
    let sort : c.sort-sort.result.now ≡ sort_of v.lens = given_is c.lens.result.now c.sort-sort.result.now c.sort-sort.ensures.typed c.sort-sort.ensures.given ∙ ap sort_of c.lens.ensures.lens in
    subst (IsOfSort (shown v)) (sym sort) (refl, get_sort v.lens (over v) c.lens.ensures.viewed.0 c.lens.ensures.viewed.1.tables)

pub check_edit-requires-clause-asked : goal.check_edit-requires-clause-asked
check_edit-requires-clause-asked g c =
    let v = c.args.view.now in
    let sort : c.sort-sort.result.now ≡ sort_of v.lens = given_is c.lens.result.now c.sort-sort.result.now c.sort-sort.ensures.typed c.sort-sort.ensures.given ∙ ap sort_of c.lens.ensures.lens in
    subst (λ (s : Sort). AllEdges (λ e. Contains (asked_by v) e.left) s.tree) (sym sort) (edges_asked v.lens v.sets)

pub returns-in-Ok-clause-tested : goal.returns-in-Ok-clause-tested
returns-in-Ok-clause-tested g c =
    let v = c.args.view.now in
    let s = sort_of v.lens in
    let N = edited v.lens (over v) c.args.delta.now in
    let sort : c.sort-sort.result.now ≡ s = given_is c.lens.result.now c.sort-sort.result.now c.sort-sort.ensures.typed c.sort-sort.ensures.given ∙ ap sort_of c.lens.ensures.lens in
    let typed : IsOf N s = subst (IsOf N) sort c.in-Ok.ensures.checked in
    typed

pub returns-in-Err-OffPredicate-clause-tested : goal.returns-in-Err-OffPredicate-clause-tested
returns-in-Err-OffPredicate-clause-tested g c =
    let v = c.args.view.now in
    let s = sort_of v.lens in
    let N = edited v.lens (over v) c.args.delta.now in
    let sort : c.sort-sort.result.now ≡ s = given_is c.lens.result.now c.sort-sort.result.now c.sort-sort.ensures.typed c.sort-sort.ensures.given ∙ ap sort_of c.lens.ensures.lens in
    let found : violating_row s.predicate N ≡ Some c.in-Err-OffPredicate.row = ap (λ (t : Sort). violating_row t.predicate N) (sym sort) ∙ subst (λ e. IsChecked c.sort-sort.result.now N (Err e)) c.in-Err-OffPredicate.field-0-is c.in-Err-OffPredicate.ensures.checked in
    ap (λ o. unless_off o (unless_clash (violating_pair s.tree N) N)) found

pub clash_refusal-requires : goal.clash_refusal-requires
clash_refusal-requires g c =
    let v = c.args.view.now in
    let N = edited v.lens (over v) c.args.delta.now in
    let edges : c.edges-edges.result.now ≡ c.sort-sort.result.now.tree = c.edges-edges.ensures.edges ∙ c.tree.ensures.value in
    (found_clash c.edges-edges.result.now N c.in-Err-Clash.clash (sym (ap (λ T. shown_clash (violating_pair T N)) edges ∙ (subst (λ e. IsChecked c.sort-sort.result.now N (Err e)) c.in-Err-Clash.field-0-is c.in-Err-Clash.ensures.checked).1))).below

pub returns-in_ok-clash_refusal-in-Err-Clash-clause-tested : goal.returns-in_ok-clash_refusal-in-Err-Clash-clause-tested
returns-in_ok-clash_refusal-in-Err-Clash-clause-tested g c =
    let v = c.args.view.now in
    let s = sort_of v.lens in
    let N = edited v.lens (over v) c.args.delta.now in
    let sort : c.sort-sort.result.now ≡ s = given_is c.lens.result.now c.sort-sort.result.now c.sort-sort.ensures.typed c.sort-sort.ensures.given ∙ ap sort_of c.lens.ensures.lens in
    let edges : c.edges-edges.result.now ≡ c.sort-sort.result.now.tree = c.edges-edges.ensures.edges ∙ c.tree.ensures.value in
    let T = c.edges-edges.result.now in
    let w : IsFoundClash T N c.in-Err-Clash.clash = found_clash T N c.in-Err-Clash.clash (sym (ap (λ T. shown_clash (violating_pair T N)) edges ∙ (subst (λ e. IsChecked c.sort-sort.result.now N (Err e)) c.in-Err-Clash.field-0-is c.in-Err-Clash.ensures.checked).1)) in
    let fits : violating_row s.predicate N ≡ None = ap (λ (t : Sort). violating_row t.predicate N) (sym sort) ∙ (subst (λ e. IsChecked c.sort-sort.result.now N (Err e)) c.in-Err-Clash.field-0-is c.in-Err-Clash.ensures.checked).0 in
    let same : violating_pair s.tree N ≡ Some w.clash = ap (λ T. violating_pair T N) (sym (edges ∙ ap (λ (t : Sort). t.tree) sort)) ∙ w.is in
    ap (λ o. unless_off o (unless_clash (violating_pair s.tree N) N)) fits
    ∙ clash_asked (violating_pair s.tree N) w.clash N _ same
    (c.in_ok-clash_refusal-in-Err-Clash.ensures w.clash.edge (w.edge w.clash.edge) ∙ (λ i. refusals.clash w.clash.edge (w.first i) (w.second i)))

pub returns-in-Ok-clause-looks : goal.returns-in-Ok-clause-looks
returns-in-Ok-clause-looks g c = λ w few.
    let v = c.args.view.now in
    let s = c.sort-sort.result.now in
    let edges = edges_few v.lens c.lens.result.now s s.tree c.lens.ensures.viewed.0 c.lens.ensures.viewed.1.keys c.lens.ensures.lens c.sort-sort.ensures.given refl c.tree.ensures.small in
    check_within v.lens c.args.delta.now (length s.tree) w c.args.looked.now c.check_edit.new.looked edges (c.check_edit.ensures.looks (size v.lens w) (within_size v w few))

pub returns-in-Err-OffPredicate-clause-looks : goal.returns-in-Err-OffPredicate-clause-looks
returns-in-Err-OffPredicate-clause-looks g c = λ w few.
    let v = c.args.view.now in
    let s = c.sort-sort.result.now in
    let edges = edges_few v.lens c.lens.result.now s s.tree c.lens.ensures.viewed.0 c.lens.ensures.viewed.1.keys c.lens.ensures.lens c.sort-sort.ensures.given refl c.tree.ensures.small in
    check_within v.lens c.args.delta.now (length s.tree) w c.args.looked.now c.check_edit.new.looked edges (c.check_edit.ensures.looks (size v.lens w) (within_size v w few))

pub returns-in_ok-clash_refusal-in-Err-Clash-clause-looks : goal.returns-in_ok-clash_refusal-in-Err-Clash-clause-looks
returns-in_ok-clash_refusal-in-Err-Clash-clause-looks g c = λ w few.
    let v = c.args.view.now in
    let s = c.sort-sort.result.now in
    let edges = edges_few v.lens c.lens.result.now s s.tree c.lens.ensures.viewed.0 c.lens.ensures.viewed.1.keys c.lens.ensures.lens c.sort-sort.ensures.given refl c.tree.ensures.small in
    check_within v.lens c.args.delta.now (length s.tree) w c.args.looked.now c.check_edit.new.looked edges (c.check_edit.ensures.looks (size v.lens w) (within_size v w few))

pub returns-in_err-clash_refusal-in-Err-Clash-clause-looks : goal.returns-in_err-clash_refusal-in-Err-Clash-clause-looks
returns-in_err-clash_refusal-in-Err-Clash-clause-looks g c = λ w few.
    let v = c.args.view.now in
    let s = c.sort-sort.result.now in
    let edges = edges_few v.lens c.lens.result.now s s.tree c.lens.ensures.viewed.0 c.lens.ensures.viewed.1.keys c.lens.ensures.lens c.sort-sort.ensures.given refl c.tree.ensures.small in
    check_within v.lens c.args.delta.now (length s.tree) w c.args.looked.now c.check_edit.new.looked edges (c.check_edit.ensures.looks (size v.lens w) (within_size v w few))

pub returns-in-Err-NoMemory-clause-looks : goal.returns-in-Err-NoMemory-clause-looks
returns-in-Err-NoMemory-clause-looks g c = λ w few.
    let v = c.args.view.now in
    let s = c.sort-sort.result.now in
    let edges = edges_few v.lens c.lens.result.now s s.tree c.lens.ensures.viewed.0 c.lens.ensures.viewed.1.keys c.lens.ensures.lens c.sort-sort.ensures.given refl c.tree.ensures.small in
    check_within v.lens c.args.delta.now (length s.tree) w c.args.looked.now c.check_edit.new.looked edges (c.check_edit.ensures.looks (size v.lens w) (within_size v w few))
