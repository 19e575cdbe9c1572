use Rattle.std.proofs.Common.{arith}
use Rattle.key_index.proofs.Common.{contained}
use Rattle.base_index.proofs.body.Body.has.Goals as goal

pub returns-then-is_there : goal.returns-then-is_there
returns-then-is_there c =
    let t = c.is_there.ensures in
    let s = c.is_not_gone.ensures in
    grind (arith, contained, t, s, c.if-is_there.true)

pub returns-else-is_there : goal.returns-else-is_there
returns-else-is_there c = let t = c.is_there.ensures in grind (arith, contained, t, c.if-is_there.false)
