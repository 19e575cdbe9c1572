use Rattle.std.proofs.Common.{◌≡◌, ◌∙◌, ap, arith, sym, [], ◌∷◌, ◌++◌, cond, append-nil, option_copied, is_some}
use Rattle.plain_values.proofs.Common.{get, cons_option, filter_map, override, take_all}
use Rattle.lens_values.proofs.Cells.{get-override, one_more}
use Rattle.lens_values.proofs.row.Row.values_with.Goals as goal
use Rattle.lens_values.proofs.row.Row.values_with.Goals.{in-Some, in-None, in-Some-value+in_ok-add_copy, in_default}

pub loop-name-preserved : goal.loop-name-preserved
loop-name-preserved c =
    let over = c.args.over.now in
    let row = c.args.self.now in
    let name = c.name-item.result in
    let above : get over name ≡ option_copied c.value_near.result = sym c.value_near.ensures in
    let found : get (override over row) name ≡ option_copied c.match-value_near.value = get-override over row name ∙
    elim c.match-value_near.branch [
      | in-Some w ↦
          (λ i. cond (is_some (above i)) (above i) (get row name))
          ∙ (λ i. cond (is_some (option_copied (w.in-Some.is i))) (option_copied (w.in-Some.is i)) (get row name)) ∙ ap option_copied (sym w.value-is)
      | in-None w ↦
          (λ i. cond (is_some (above i)) (above i) (get row name))
          ∙ (λ i. cond (is_some (option_copied (w.in-None.is i))) (option_copied (w.in-None.is i)) (get row name)) ∙ sym w.value_near-value.ensures ∙ ap option_copied (sym w.value-is)
    ] in
    one_more (get (override over row)) c.as_slice-name-items.result.now c.loop-name.name-index name c.loop-name.found.items c.match-value.found.items (option_copied c.match-value_near.value)
    c.loop-name-test.true c.name-item.is found c.loop-name.invariant
    (elim c.match-value.branch [
      | in-Some-value+in_ok-add_copy w ↦
          ap (λ v. v.items) w.found-is ∙ w.in_ok-add_copy.ensures
          ∙ ap (λ o. c.loop-name.found.items ++ cons_option (option_copied o) []) (sym w.in-Some-value.is)
      | in_default w ↦ ap (λ v. v.items) w.found-is ∙ sym (append-nil c.loop-name.found.items) ∙ ap (λ o. c.loop-name.found.items ++ cons_option (option_copied o) []) (sym w.in_default.is)
    ])

pub returns : goal.returns
returns c =
    let names = c.as_slice-name-items.result.now in
    c.loop-name.invariant ∙ ap (filter_map (get (override c.args.over.now c.args.self.now))) (take_all c.loop-name.name-index names (omega arith) ∙ c.as_slice-name-items.ensures)
