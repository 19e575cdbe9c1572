use Rattle.std.proofs.Common.{◌∙◌, None, Some, ap, subst, sym}
use Rattle.lens_specs.specs.Common.{names, AllEdges, MeetsTree, Within}
use Rattle.edit_check.proofs.CheckedEdits.{lefts_within, meets_of, new_clash, new_is_of, new_off}
use Rattle.edit_check.proofs.checking.check_edit.Goals as goal

pub returns-in-Some-clause-checked : goal.returns-in-Some-clause-checked
returns-in-Some-clause-checked g c =
    new_off c.args.sort.now (g.K.Look.relation c.args.view.now) c.args.delta.now c.requires.sort c.pred.result.now c.add.result.now (Some c.in_ok-row.row) c.pred.ensures.value c.add.ensures
    (ap Some c.in_ok-row.ensures ∙ c.in-Some.ensures)

pub violating_pair_of_edit-requires-clause-columns : goal.violating_pair_of_edit-requires-clause-columns
violating_pair_of_edit-requires-clause-columns g c =
    let M = g.K.Look.relation c.args.view.now in
    subst (λ T. AllEdges (λ e. Within e.left (names M.columns)) T) (sym c.tree.ensures.value) (lefts_within c.args.sort.now M c.tree.ensures.sound c.requires.sort)

pub returns-in-Some-2-clause-checked : goal.returns-in-Some-2-clause-checked
returns-in-Some-2-clause-checked g c =
    let s = c.args.sort.now in
    let M = g.K.Look.relation c.args.view.now in
    let d = c.args.delta.now in (
      new_off s M d c.requires.sort c.pred.result.now c.add.result.now None c.pred.ensures.value c.add.ensures c.in_default.ensures,
      new_clash s M d c.requires.sort c.tree.result.now (Some c.in-Some-2.clash) c.in_ok-clash.field-0 c.tree.ensures.value c.in_ok-clash.ensures.clash c.in-Some-2.is,
    )

pub returns-in-None-clause-checked : goal.returns-in-None-clause-checked
returns-in-None-clause-checked g c =
    let s = c.args.sort.now in
    let M = g.K.Look.relation c.args.view.now in
    let d = c.args.delta.now in
    new_is_of s M d c.requires.sort c.requires.applies
    (new_off s M d c.requires.sort c.pred.result.now c.add.result.now None c.pred.ensures.value c.add.ensures c.in_default.ensures)
    (new_clash s M d c.requires.sort c.tree.result.now None c.in_ok-clash.field-0 c.tree.ensures.value c.in_ok-clash.ensures.clash c.in-None.is)

pub violating_pair_of_edit-requires-clause-meets : goal.violating_pair_of_edit-requires-clause-meets
violating_pair_of_edit-requires-clause-meets g c =
    let M = g.K.Look.relation c.args.view.now in
    subst (MeetsTree M.rows) (sym c.tree.ensures.value) (meets_of c.args.sort.now M c.requires.sort)
