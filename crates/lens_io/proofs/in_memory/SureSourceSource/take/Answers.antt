use Rattle.std.proofs.Common.{arith}
use Rattle.lens_io.proofs.Takes.{takes}
use Rattle.lens_io.proofs.in_memory.SureSourceSource.take.Goals as goal

pub returns-clause-bytes : goal.returns-clause-bytes
returns-clause-bytes c = rw (← c.self.view_is)
    (takes c.self.inside.bytes.items c.args.into.now c.copy_from_slice.new.self c.deref.result.now c.self.inside.at c.min-count.result
    (omega arith) c.deref.ensures.value c.copy_from_slice.ensures.after c.min-count.ensures)
