use Rattle.std.proofs.Common.{◌∙◌, ap, sym, [], ◌∷◌, ◌++◌, append-nil, option_copied}
use Rattle.plain_values.proofs.Common.{get, cons_option}
use Rattle.lens_specs.specs.Common.{renamed}
use Rattle.lens_values.proofs.Cells.{one_more}
use Rattle.lens_types.proofs.rows.old_values.Goals as goal
use Rattle.lens_types.proofs.rows.old_values.Goals.{in-Some+in_ok-copy+in_ok-push, in_default}

pub loop-name-preserved : goal.loop-name-preserved
loop-name-preserved c =
    one_more (λ q. get c.args.row.now (renamed c.args.to.now c.args.col.now q)) c.as_slice-name-items.result.now c.loop-name.name-index c.name-item.result c.loop-name.found.items c.match-value.found.items (option_copied c.value.result)
    c.loop-name-test.true c.name-item.is (ap (get c.args.row.now) (sym c.rename.ensures) ∙ sym c.value.ensures) c.loop-name.invariant
    (elim c.match-value.branch [
      | in-Some+in_ok-copy+in_ok-push w ↦
          ap (λ v. v.items) w.found-is ∙ w.in_ok-push.ensures.items
          ∙ ap (λ x. c.loop-name.found.items ++ x ∷ []) w.in_ok-copy.ensures ∙ ap (λ o. c.loop-name.found.items ++ cons_option (option_copied o) []) (sym w.in-Some.is)
      | in_default w ↦ ap (λ v. v.items) w.found-is ∙ sym (append-nil c.loop-name.found.items) ∙ ap (λ o. c.loop-name.found.items ++ cons_option (option_copied o) []) (sym w.in_default.is)
    ])
