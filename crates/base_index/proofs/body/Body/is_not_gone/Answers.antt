use Rattle.std.proofs.Common.{ap, ◌∙◌, arith}
use Rattle.plain_values.specs.SortedSet as set
use Rattle.key_index.proofs.Common.{rows_of, slice_behind, contained}
use Rattle.base_index.proofs.body.Body.is_not_gone.Goals as goal

pub returns-then-not-has : goal.returns-then-not-has
returns-then-not-has c = let h = c.has.ensures in grind (arith, contained, h, c.if-not-has.true)

pub returns-else-not-has : goal.returns-else-not-has
returns-else-not-has c =
    let h = c.has.ensures in
    let l = c.is_listed.ensures
    ∙ ap (λ l. set.contains (rows_of l) c.args.row.now) (slice_behind c.deref.result.now c.args.self.now.remove.items c.args.self.now.removed c.deref.ensures.value) in
    grind (arith, contained, h, l, c.if-not-has.false)
