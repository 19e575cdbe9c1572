use Rattle.std.proofs.Common.{arith}
use Rattle.base_index.specs.Parts.{parts_of}
use Rattle.base_index.proofs.Bodies.{calm_count}
use Rattle.base_index.proofs.body.Body.count.Goals as goal

pub overflow_sub-result : goal.overflow_sub-result
overflow_sub-result c = omega (arith, calm_count (parts_of c.args.self.now) c.requires.whole c.requires.calm, c.count.ensures, c.count-2.ensures)

pub returns : goal.returns
returns c = omega (arith, calm_count (parts_of c.args.self.now) c.requires.whole c.requires.calm, c.count.ensures, c.count-2.ensures)
