use Rattle.std.proofs.Common.{◌≡◌, subst, IfOk}
use Rattle.lens_types.proofs.RenamedRows.{as_many_values, row_made}
use Rattle.lens_types.proofs.rows.named.Goals as goal

pub from_values-requires : goal.from_values-requires
from_values-requires c = as_many_values c.args.col.now c.args.to.now c.args.row.now c.args.names c.in_ok-values.values.items c.requires c.in_ok-values.ensures

pub returns : goal.returns
returns c =
    subst (λ u. IfOk c.from_values.result (λ row. row ≡ u)) (row_made c.args.col.now c.args.to.now c.args.row.now c.args.names c.in_ok-values.values.items c.requires c.in_ok-values.ensures) c.from_values.ensures
