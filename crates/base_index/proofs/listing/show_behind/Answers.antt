use Rattle.std.proofs.Common.{◌≡◌, ◌+◌, ◌≤◌, ◌++◌, ◌∷◌, [], drop, length, ap, sym, ◌∙◌, arith, rules}
use Rattle.plain_values.proofs.Common.{take_all, false≢true}
use Rattle.plain_values.specs.SortedSet as set
use Rattle.key_index.proofs.Common.{rows_of}
use Rattle.key_index.proofs.Fronts.{all_gone, one_less_behind, same_front}
use Rattle.base_index.proofs.listing.show_behind.Goals.{in-Some, in_default}
use Rattle.base_index.proofs.listing.show_behind.Goals as goal

pub loop-preserved : goal.loop-preserved
loop-preserved c = elim c.match-pop.branch [
  | in-Some w ↦
      let left = c.pop.new.self.items in
      let k = w.in-Some.keyed in
      let first = c.args.first in
      let parts : c.loop.remove.items ≡ left ++ k ∷ [] = search rules in
      let many : length c.loop.remove.items ≡ length left + 1 = search rules in
      let within : first ≤ length left = omega (arith, many, c.loop.invariant.0, c.loop-test.true, c.len-end.ensures) in
      let less : c.match-pop.hidden ≡ set.remove c.loop.hidden k.row = w.hidden-is ∙ w.remove.ensures in (
        omega (arith, many, c.loop.invariant.0),
        same_front c.loop.remove.items left k first parts within ∙ c.loop.invariant.1,
        ap (λ r. set.difference r (rows_of (drop first left))) less ∙ one_less_behind c.loop.remove.items left k first parts within c.loop.hidden ∙ c.loop.invariant.2,
      )
  | in_default w ↦ absurd (false≢true (w.in_default.ensures.variant.1 (omega (arith, c.loop.invariant.0, c.loop-test.true, c.len-end.ensures))))
]

pub returns-clause-hidden : goal.returns-clause-hidden
returns-clause-hidden c =
    sym (all_gone c.loop.remove.items c.args.first c.loop.hidden (omega (arith, c.loop.invariant.0, c.loop-test.false, c.len-end.ensures, c.requires))) ∙ c.loop.invariant.2

pub returns-clause-remove : goal.returns-clause-remove
returns-clause-remove c =
    sym (take_all c.args.first c.loop.remove.items (omega (arith, c.loop.invariant.0, c.loop-test.false, c.len-end.ensures, c.requires))) ∙ c.loop.invariant.1
