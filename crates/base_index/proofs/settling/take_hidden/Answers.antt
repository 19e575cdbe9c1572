use Rattle.std.proofs.Common.{◌≡◌, ◌+◌, ◌++◌, ◌∷◌, [], length, ap, sym, ◌∙◌, subst, arith, rules, if◌then◌else◌}
use Rattle.plain_values.proofs.Common.{false≢true, nil_from_length}
use Rattle.plain_values.specs.SortedSet as set
use Rattle.key_index.proofs.Common.{SameCols, AreKeyed, IsTableOf, rows_of, all_keep_keys, none_less, same_trans}
use Rattle.key_index.proofs.Fronts.{hidden_less, none_both}
use Rattle.key_index.proofs.Lists.{one_less, others_keyed}
use Rattle.base_index.proofs.settling.take_hidden.Goals.{in-Some, in_default}
use Rattle.base_index.proofs.settling.take_hidden.Goals as goal

pub loop-preserved : goal.loop-preserved
loop-preserved c = elim c.match-pop.branch [
  | in-Some w ↦
      let left = c.pop.new.self.items in
      let k = w.in-Some.keyed in
      let parts : c.loop.remove.items ≡ left ++ k ∷ [] = search rules in
      let many : length c.loop.remove.items ≡ length left + 1 = search rules in
      let keyed : AreKeyed c.loop.indexes.items (left ++ k ∷ []) = subst (AreKeyed c.loop.indexes.items) parts c.loop.invariant.3 in
      let rows : c.match-pop.rows ≡ (if set.contains c.loop.hidden k.row then set.remove c.loop.rows k.row else c.loop.rows) = w.rows-is ∙ w.take_if_hidden.ensures.rows in
      let hidden : c.match-pop.hidden ≡ set.remove c.loop.hidden k.row = w.hidden-is ∙ w.take_if_hidden.ensures.hidden in
      let same : SameCols c.loop.indexes.items c.match-pop.indexes.items = subst (λ v. SameCols c.loop.indexes.items v.items) (sym w.indexes-is) w.take_if_hidden.ensures.cols in (
        omega (arith, many, c.loop.invariant.0),
        (λ i. set.difference (rows i) (set.intersection (hidden i) (rows_of left))) ∙ hidden_less c.loop.rows c.loop.hidden left k
            ∙ ap (λ l. set.difference c.loop.rows (set.intersection c.loop.hidden (rows_of l))) (sym parts) ∙ c.loop.invariant.1,
        ap (λ h. set.difference h (rows_of left)) hidden ∙ one_less c.loop.hidden left k
            ∙ ap (λ l. set.difference c.loop.hidden (rows_of l)) (sym parts) ∙ c.loop.invariant.2,
        all_keep_keys c.loop.indexes.items c.match-pop.indexes.items left same (others_keyed c.loop.indexes.items left k keyed),
        (λ was. subst (λ v. IsTableOf c.match-pop.rows v.items) (sym w.indexes-is) (subst (λ r. IsTableOf r w.take_if_hidden.new.indexes.items) (sym w.rows-is) (w.take_if_hidden.ensures.indexes (c.loop.invariant.4 was)))),
        same_trans c.args.indexes.now.items c.loop.indexes.items c.match-pop.indexes.items c.loop.invariant.5 same,
      )
  | in_default w ↦ absurd (false≢true (w.in_default.ensures.variant.1 (omega (arith, c.loop.invariant.0, c.loop-test.true, c.len-end.ensures))))
]

pub returns-clause-rows : goal.returns-clause-rows
returns-clause-rows c =
    let none = nil_from_length c.loop.remove.items (omega (arith, c.loop.invariant.0, c.loop-test.false, c.len-end.ensures)) in
    sym (none_both c.loop.rows c.loop.hidden c.loop.remove.items none) ∙ c.loop.invariant.1

pub returns-clause-hidden : goal.returns-clause-hidden
returns-clause-hidden c =
    let none = nil_from_length c.loop.remove.items (omega (arith, c.loop.invariant.0, c.loop-test.false, c.len-end.ensures)) in
    sym (ap (λ l. set.difference c.loop.hidden (rows_of l)) none ∙ none_less c.loop.hidden) ∙ c.loop.invariant.2
