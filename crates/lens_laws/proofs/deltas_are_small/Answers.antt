use Rattle.lens_laws.proofs.DeltaCounts.{count-touched, select_delta_small, rename_delta_small, right_delta_small, left_delta_small, left_kept_small, right_free_small}
use Rattle.lens_laws.proofs.deltas_are_small.Goals as goal

pub returns : goal.returns
returns c = record {
  touched = count-touched;
  select = select_delta_small;
  rename = rename_delta_small;
  right = right_delta_small;
  left = left_delta_small;
  left_kept = left_kept_small;
  right_free = right_free_small;
}
