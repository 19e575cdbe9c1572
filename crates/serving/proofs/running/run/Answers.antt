use Rattle.serving.proofs.Promised.{promised_nothing, promised_usage}
use Rattle.std.proofs.Common.{Err, ap, arith, refl}
use Rattle.serving.proofs.running.run.Goals as goal

pub returns-in-Some-clause-promises : goal.returns-in-Some-clause-promises
returns-in-Some-clause-promises g c = rw c.in-Ok.ensures.ok (c.rehearse_over.ensures.promises _ _ _)

pub returns-in-None-clause-promises : goal.returns-in-None-clause-promises
returns-in-None-clause-promises g c = rw c.in-Ok.ensures.ok c.serve_input.ensures.promises

pub returns-in-Err-Refused-clause-promises : goal.returns-in-Err-Refused-clause-promises
returns-in-Err-Refused-clause-promises g c =
    rw (c.in-Err-Refused.ensures.refused (ap Err c.in-Err-Refused.field-0-is)) (promised_usage g.K.Keeper.stays _ _ c.give_usage.ensures.told c.give_usage.ensures.offers (omega arith) c.give_usage.ensures.later (omega arith) refl)

pub returns-in-Err-NoMemory-clause-promises : goal.returns-in-Err-NoMemory-clause-promises
returns-in-Err-NoMemory-clause-promises g c = promised_nothing _ g.K.Keeper.stays _
