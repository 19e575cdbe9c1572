use Rattle.std.proofs.Common.{◌≡◌, ◌∙◌, ◌∷◌, ◌++◌, ◌<◌, [], ap, arith, length, rules, sym}
use Rattle.view_reading.proofs.PartLists.{none_left, one_left}
use Rattle.view_reading.proofs.differing.rest.Goals as goal
use Rattle.view_reading.proofs.differing.rest.Goals.{then-not-are_parts-place+in_ok-copy+in_ok-push, else-not-are_parts-place}

pub loop-place-preserved : goal.loop-place-preserved
loop-place-preserved c =
    let marks = c.args.are_parts.now in
    let known = c.args.known.now in
    let i = c.loop-place.place in
    let below : i < length marks = omega (arith, c.requires) in
    elim c.if-not-are_parts-place.branch [
      | then-not-are_parts-place+in_ok-copy+in_ok-push w ↦
          let pushed : w.push.new.self.items ≡ c.loop-place.rest.items ++ w.in_ok-copy.field-0 ∷ [] = search rules in
          ap (λ v. v.items) w.rest-is ∙ pushed ∙ (λ k. c.loop-place.invariant k ++ w.in_ok-copy.ensures k ∷ [])
          ∙ sym (one_left marks known i w.index-known-place.result c.requires below w.if-not-are_parts-place.true w.index-known-place.is)
      | else-not-are_parts-place w ↦ ap (λ v. v.items) w.rest-is ∙ c.loop-place.invariant ∙ sym (none_left marks known i c.requires below w.if-not-are_parts-place.false)
    ]
