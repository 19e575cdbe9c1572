use Rattle.std.proofs.Common.{◌≡◌, ◌∙◌, IfOk, ap, arith, subst, sym}
use Rattle.lens_specs.specs.Common.{get}
use Rattle.lens_laws.proofs.Common.{find_by, size}
use Rattle.signed_delta.specs.Keys.{HasColumns}
use Rattle.find_rows.proofs.Keys.{found_with, key_has}
use Rattle.find_rows.proofs.finding.rows_found.Goals as goal

pub find-requires-clause-key : goal.find-requires-clause-key
find-requires-clause-key g c = subst (λ C. HasColumns C c.in_ok-key.key) (sym c.requires) (key_has c.args.col.now c.args.value.now c.in_ok-key.key c.in_ok-key.ensures)

pub returns-then-asked_by-clause-found : goal.returns-then-asked_by-clause-found
returns-then-asked_by-clause-found g c =
    let M = get c.args.view.now.lens c.args.view.now.tables.present.relations in
    subst (λ N. IfOk c.find.result (λ rows. rows ≡ N))
    (ap (λ C. find_by C c.in_ok-key.key M) c.requires ∙ found_with c.args.col.now c.args.value.now c.in_ok-key.key c.in_ok-key.ensures M) c.find.ensures.found

pub returns-then-asked_by-clause-looks : goal.returns-then-asked_by-clause-looks
returns-then-asked_by-clause-looks g c = λ w few. c.find.ensures.looks (size c.args.view.now.lens w) (w, few, omega arith)
