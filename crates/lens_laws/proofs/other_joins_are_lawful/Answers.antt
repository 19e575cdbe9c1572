use Rattle.lens_laws.proofs.JoinKinds.{join_right_lawful, join_both_lawful, kind_lawful}
use Rattle.lens_laws.proofs.JoinKindDeltas.{left_kept_is, right_free_is}
use Rattle.lens_laws.proofs.other_joins_are_lawful.Goals as goal

pub returns : goal.returns
returns c = record {
  right = join_right_lawful;
  both = join_both_lawful;
  kinds = kind_lawful;
  delta_left = left_kept_is;
  delta_right = right_free_is;
}
