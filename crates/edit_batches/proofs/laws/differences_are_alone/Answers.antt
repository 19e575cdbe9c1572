use Rattle.lens_laws.proofs.Common.{are_differences}
use Rattle.edit_batches.proofs.laws.differences_are_alone.Goals as goal

pub returns : goal.returns
returns c = are_differences
