use Rattle.std.proofs.Common.{◌≡◌, ◌+◌, ◌≤◌, ◌++◌, ◌∷◌, [], drop, length, ap, sym, ◌∙◌, subst, arith, rules, inl}
use Rattle.plain_values.proofs.Common.{take_all, false≢true}
use Rattle.plain_values.specs.SortedSet as set
use Rattle.key_index.specs.Lists.{rows_of}
use Rattle.key_index.specs.Lists.{SameCols, AreKeyed, IsTableOf}
use Rattle.key_index.proofs.Fronts.{all_gone, one_less_behind, same_front}
use Rattle.key_index.proofs.Lists.{same_trans, others_keyed, all_keep_keys}
use Rattle.key_index.proofs.keyed.take_behind.Goals.{in-Some, in_default}
use Rattle.key_index.proofs.keyed.take_behind.Goals as goal

pub loop-preserved : goal.loop-preserved
loop-preserved c = elim c.match-pop.branch [
  | in-Some w ↦
      let left = c.pop.new.self.items in
      let k = w.in-Some.keyed in
      let first = c.args.first in
      let parts : c.loop.gone.items ≡ left ++ k ∷ [] = search rules in
      let many : length c.loop.gone.items ≡ length left + 1 = search rules in
      let within : first ≤ length left = omega (arith, many, c.loop.invariant.0, c.loop-test.true, c.len-end.ensures) in
      let keyed : AreKeyed c.loop.indexes.items (left ++ k ∷ []) = subst (AreKeyed c.loop.indexes.items) parts c.loop.invariant.3 in
      let less : c.match-pop.rows ≡ set.remove c.loop.rows k.row = w.rows-is ∙ w.take_row.ensures.rows in
      let same : SameCols c.loop.indexes.items c.match-pop.indexes.items = subst (λ v. SameCols c.loop.indexes.items v.items) (sym w.indexes-is) w.take_row.ensures.cols in (
        omega (arith, many, c.loop.invariant.0),
        same_front c.loop.gone.items left k first parts within ∙ c.loop.invariant.1,
        ap (λ r. set.difference r (rows_of (drop first left))) less ∙ one_less_behind c.loop.gone.items left k first parts within c.loop.rows ∙ c.loop.invariant.2,
        all_keep_keys c.loop.indexes.items c.match-pop.indexes.items left same (others_keyed c.loop.indexes.items left k keyed),
        (λ was. subst (λ v. IsTableOf c.match-pop.rows v.items) (sym w.indexes-is) (subst (λ r. IsTableOf r w.take_row.new.indexes.items) (sym less) (w.take_row.ensures.indexes c.loop.rows (λ i d within. inl (c.loop.invariant.4 was i d within))))),
        same_trans c.args.indexes.now.items c.loop.indexes.items c.match-pop.indexes.items c.loop.invariant.5 same,
      )
  | in_default w ↦ absurd (false≢true (w.in_default.ensures.variant.1 (omega (arith, c.loop.invariant.0, c.loop-test.true, c.len-end.ensures))))
]

pub returns-clause-rows : goal.returns-clause-rows
returns-clause-rows c =
    sym (all_gone c.loop.gone.items c.args.first c.loop.rows (omega (arith, c.loop.invariant.0, c.loop-test.false, c.len-end.ensures, c.requires.first))) ∙ c.loop.invariant.2

pub returns-clause-gone : goal.returns-clause-gone
returns-clause-gone c =
    sym (take_all c.args.first c.loop.gone.items (omega (arith, c.loop.invariant.0, c.loop-test.false, c.len-end.ensures, c.requires.first))) ∙ c.loop.invariant.1
