use Rattle.std.proofs.Common.{sym, subst}
use Rattle.plain_values.proofs.Common.{IsStrictlySortedBy, bytes_cmp, keys_of, keys_rise}
use Rattle.request_reading.proofs.rows.row_of_members.Goals as goal

pub values_in-requires : goal.values_in-requires
values_in-requires c = subst (λ ps. IsStrictlySortedBy bytes_cmp (keys_of ps)) (sym c.pairs.ensures) (keys_rise bytes_cmp c.args.columns.now)
