use Rattle.lens_types.proofs.Joins.{columns_made}
use Rattle.lens_types.proofs.joining.joined_columns.Goals as goal

pub returns : goal.returns
returns c = columns_made c.args.left.now c.args.right.now c.in_ok-union.field-0 c.in_ok-union.ensures.gives
