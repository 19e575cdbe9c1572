use Rattle.std.proofs.Common.{inl, inr, rules}
use Rattle.lens_io.proofs.in_memory.Calls.next.Goals as goal
use Rattle.lens_io.proofs.in_memory.Calls.next.Goals.{then-refused-via-then-refused, then-refused-via-else-refused+then-contains}

pub returns-then-refused-clause-cause : goal.returns-then-refused-clause-cause
returns-then-refused-clause-cause c =
    elim c.then-refused.branch [ then-refused-via-then-refused w ↦ inl w.if-refused.true | then-refused-via-else-refused+then-contains w ↦ inr (search rules) ]
