use Rattle.std.proofs.Common.{inr}
use Rattle.key_index.proofs.Mixed.{on_err_of}
use Rattle.key_index.proofs.keyed.put_row.Goals as goal

pub returns-clause-mixed : goal.returns-clause-mixed
returns-clause-mixed c = on_err_of c.insert.result (λ all was i d within. inr (c.in_ok-put_each.ensures.ok all was i d within))
