use Rattle.std.proofs.Common.{◌≡◌}
use Rattle.view_program.proofs.words.gathered.Given as goal

abbrev pub invariant-loop-word : goal.invariant-loop-word
invariant-loop-word l = l.words.items ≡ l.yielded
