use Rattle.std.proofs.Common.{◌≡◌, ◌≤◌, length, drop}
use Rattle.plain_values.proofs.Common.{bytes_cmp}
use Rattle.lens_values.proofs.Among.{meets_all}
use Rattle.lens_values.proofs.names.are_among.Given as goal

abbrev pub invariant-loop-other : goal.invariant-loop-other
invariant-loop-other l = record {
  in_range : l.met ≤ length l.names;
  rest : meets_all bytes_cmp (drop l.met l.names) (drop l.other-index l.others) ≡ meets_all bytes_cmp l.names l.others;
}
