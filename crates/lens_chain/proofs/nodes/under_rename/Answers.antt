use Rattle.std.proofs.Common.{◌∙◌, ap, sym}
use Rattle.lens_specs.specs.Common.{names, has, image, renamed_names, renamed_row}
use Rattle.lens_probe.proofs.RenamedViews.{names_are}
use Rattle.lens_chain.specs.Edits.{over}
use Rattle.lens_chain.proofs.Premises.{added_over, old_is_free, removed_over, rename_carried, renamed_apart}
use Rattle.lens_chain.proofs.nodes.under_rename.Goals as goal

pub rename_set-requires-clause-over : goal.rename_set-requires-clause-over
rename_set-requires-clause-over c = λ row i.
    let A = c.args.col.now in let B = c.args.to.now in
    let v = c.args.source.now in
    let shown = names_are A B c.in_ok-names.names c.in_ok-shown.shown c.in_ok-shown.ensures ∙ ap (renamed_names A B) (c.in_ok-names.ensures ∙ ap names c.columns.ensures.columns) in
    removed_over A B v.lens c.requires.typed (over v) c.args.delta.now c.requires.viewed.1.tables c.requires.edit c.in_ok-shown.shown shown row (ap (λ M. has M row) (sym c.remove.ensures) ∙ i)

pub rename_set-requires-clause-free : goal.rename_set-requires-clause-free
rename_set-requires-clause-free c =
    let A = c.args.col.now in let B = c.args.to.now in
    let v = c.args.source.now in
    let shown = names_are A B c.in_ok-names.names c.in_ok-shown.shown c.in_ok-shown.ensures ∙ ap (renamed_names A B) (c.in_ok-names.ensures ∙ ap names c.columns.ensures.columns) in
    old_is_free A B v.lens c.requires.typed c.in_ok-shown.shown shown

pub rename_set-requires-2-clause-over : goal.rename_set-requires-2-clause-over
rename_set-requires-2-clause-over c = λ row i.
    let A = c.args.col.now in let B = c.args.to.now in
    let v = c.args.source.now in
    let shown = names_are A B c.in_ok-names.names c.in_ok-shown.shown c.in_ok-shown.ensures ∙ ap (renamed_names A B) (c.in_ok-names.ensures ∙ ap names c.columns.ensures.columns) in
    added_over A B v.lens c.requires.typed (over v) c.args.delta.now c.requires.viewed.1.tables c.requires.edit c.in_ok-shown.shown shown row (ap (λ M. has M row) (sym c.add.ensures) ∙ i)

pub rename_set-requires-2-clause-free : goal.rename_set-requires-2-clause-free
rename_set-requires-2-clause-free c =
    let A = c.args.col.now in let B = c.args.to.now in
    let v = c.args.source.now in
    let shown = names_are A B c.in_ok-names.names c.in_ok-shown.shown c.in_ok-shown.ensures ∙ ap (renamed_names A B) (c.in_ok-names.ensures ∙ ap names c.columns.ensures.columns) in
    old_is_free A B v.lens c.requires.typed c.in_ok-shown.shown shown

pub new-requires : goal.new-requires
new-requires c =
    let A = c.args.col.now in let B = c.args.to.now in
    let v = c.args.source.now in
    let gone = c.in_ok-remove.ensures ∙ ap (image (renamed_row B A)) c.remove.ensures in
    let come = c.in_ok-add.ensures ∙ ap (image (renamed_row B A)) c.add.ensures in
    renamed_apart A B v.lens c.requires.typed (over v) c.args.delta.now c.requires.viewed.1.tables c.requires.edit c.in_ok-remove.remove c.in_ok-add.add gone come

pub returns-clause-change : goal.returns-clause-change
returns-clause-change c =
    let A = c.args.col.now in let B = c.args.to.now in
    let v = c.args.source.now in
    let gone = c.in_ok-remove.ensures ∙ ap (image (renamed_row B A)) c.remove.ensures in
    let come = c.in_ok-add.ensures ∙ ap (image (renamed_row B A)) c.add.ensures in
    (rename_carried A B v.lens c.requires.typed (over v) c.args.delta.now c.requires.viewed.1.tables c.requires.edit c.in_ok-remove.remove c.in_ok-add.add c.new.result gone come c.new.ensures).0

pub returns-clause-edit : goal.returns-clause-edit
returns-clause-edit c =
    let A = c.args.col.now in let B = c.args.to.now in
    let v = c.args.source.now in
    let gone = c.in_ok-remove.ensures ∙ ap (image (renamed_row B A)) c.remove.ensures in
    let come = c.in_ok-add.ensures ∙ ap (image (renamed_row B A)) c.add.ensures in
    (rename_carried A B v.lens c.requires.typed (over v) c.args.delta.now c.requires.viewed.1.tables c.requires.edit c.in_ok-remove.remove c.in_ok-add.add c.new.result gone come c.new.ensures).1
