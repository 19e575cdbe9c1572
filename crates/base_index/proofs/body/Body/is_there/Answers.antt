use Rattle.std.proofs.Common.{ap, ◌∙◌, arith}
use Rattle.plain_values.specs.SortedSet as set
use Rattle.key_index.proofs.Common.{rows_of, slice_behind, contained}
use Rattle.base_index.proofs.body.Body.is_there.Goals as goal

pub returns-then-has : goal.returns-then-has
returns-then-has c =
    let h = c.has.ensures in
    let l = c.is_listed.ensures
    ∙ ap (λ l. set.contains (rows_of l) c.args.row.now) (slice_behind c.deref.result.now c.args.self.now.add.items c.args.self.now.added c.deref.ensures.value) in
    grind (arith, contained, h, l, c.if-has.true)

pub returns-else-has : goal.returns-else-has
returns-else-has c = let h = c.has.ensures in grind (arith, contained, h, c.if-has.false)
