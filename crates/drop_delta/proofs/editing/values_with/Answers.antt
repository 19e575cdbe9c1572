use Rattle.std.proofs.Common.{◌≡◌, ◌∙◌, [], ◌∷◌, ◌++◌, Some, ap, cond, sym, append-nil, option_copied}
use Rattle.std.specs.FinMap as finmap
use Rattle.plain_values.proofs.Common.{cons_option, texts_ties}
use Rattle.lens_values.proofs.Cells.{one_more}
use Rattle.lens_specs.specs.Common.{at, with_at}
use Rattle.fd_laws.proofs.Common.{at-with_at}
use Rattle.drop_delta.proofs.editing.values_with.Goals.{then-eq, else-eq, in-Some+in_ok-copy+in_ok-push, in_default}
use Rattle.drop_delta.proofs.editing.values_with.Goals as goal

pub loop-name-preserved : goal.loop-name-preserved
loop-name-preserved c =
    let A = c.args.col.now in
    let v = c.args.value.now in
    let row = c.args.row.now in
    let name = c.name-item.result in
    let was = c.loop-name.found.items in
    let tie = sym (texts_ties name A) ∙ sym c.eq.ensures in
    let found : finmap.get (with_at row A (Some v)) name ≡ option_copied c.if-eq.own =
    at-with_at row A (Some v) name ∙ elim c.if-eq.branch [
      | then-eq w ↦ ap (λ b. cond b (Some v) (at row name)) (tie ∙ w.if-eq.true) ∙ ap option_copied (sym w.own-is)
      | else-eq w ↦ ap (λ b. cond b (Some v) (at row name)) (tie ∙ w.if-eq.false) ∙ sym w.value-own.ensures ∙ ap option_copied (sym w.own-is)
    ] in
    one_more (finmap.get (with_at row A (Some v))) c.as_slice-name-items.result.now c.loop-name.name-index name was c.match-own.found.items (option_copied c.if-eq.own)
    c.loop-name-test.true c.name-item.is found c.loop-name.invariant
    (elim c.match-own.branch [
      | in-Some+in_ok-copy+in_ok-push w ↦
          ap (λ f. f.items) w.found-is ∙ w.in_ok-push.ensures.items
          ∙ ap (λ x. was ++ x ∷ []) w.in_ok-copy.ensures ∙ ap (λ o. was ++ cons_option (option_copied o) []) (sym w.in-Some.is)
      | in_default w ↦ ap (λ f. f.items) w.found-is ∙ sym (append-nil was) ∙ ap (λ o. was ++ cons_option (option_copied o) []) (sym w.in_default.is)
    ])
