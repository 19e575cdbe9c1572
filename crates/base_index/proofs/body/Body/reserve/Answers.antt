use Rattle.base_index.specs.Parts.{parts_of}
use Rattle.base_index.proofs.body.Body.reserve.Goals as goal

pub returns-in_err-reserve : goal.returns-in_err-reserve
returns-in_err-reserve c = λ i. record (parts_of c.args.self.now) { remove = c.in_err-reserve.ensures.items i }

pub returns-in_err-reserve-2 : goal.returns-in_err-reserve-2
returns-in_err-reserve-2 c = λ i. record (parts_of c.args.self.now) { remove = c.in_ok-reserve.ensures.items i; add = c.in_err-reserve-2.ensures.items i }

pub returns : goal.returns
returns c = λ i. record (parts_of c.args.self.now) { remove = c.in_ok-reserve.ensures.items i; add = c.in_ok-reserve-2.ensures.items i }
