use Rattle.std.proofs.Common.{◌∙◌, ap, arith, sym, [], ◌∷◌, ◌++◌, append-nil, option_copied}
use Rattle.plain_values.proofs.Common.{get, cons_option, filter_map, take_all}
use Rattle.lens_values.proofs.Cells.{one_more}
use Rattle.lens_values.proofs.row.Row.values_at.Goals as goal
use Rattle.lens_values.proofs.row.Row.values_at.Goals.{in-Some+in_ok-add_copy, in_default}

pub loop-name-preserved : goal.loop-name-preserved
loop-name-preserved c =
    one_more (get c.args.self.now) c.as_slice-name-items.result.now c.loop-name.name-index c.name-item.result c.loop-name.found.items c.match-value_near.found.items (option_copied c.value_near.result)
    c.loop-name-test.true c.name-item.is (sym c.value_near.ensures) c.loop-name.invariant
    (elim c.match-value_near.branch [
      | in-Some+in_ok-add_copy w ↦
          ap (λ v. v.items) w.found-is ∙ w.in_ok-add_copy.ensures
          ∙ ap (λ o. c.loop-name.found.items ++ cons_option (option_copied o) []) (sym w.in-Some.is)
      | in_default w ↦ ap (λ v. v.items) w.found-is ∙ sym (append-nil c.loop-name.found.items) ∙ ap (λ o. c.loop-name.found.items ++ cons_option (option_copied o) []) (sym w.in_default.is)
    ])

pub returns : goal.returns
returns c =
    let names = c.as_slice-name-items.result.now in
    c.loop-name.invariant ∙ ap (filter_map (get c.args.self.now)) (take_all c.loop-name.name-index names (omega arith) ∙ c.as_slice-name-items.ensures)
