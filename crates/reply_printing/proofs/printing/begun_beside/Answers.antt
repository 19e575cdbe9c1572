use Rattle.std.proofs.Common.{refl, rules}
use Rattle.reply_printing.proofs.Lines.{object_begun}
use Rattle.reply_printing.proofs.printing.begun_beside.Goals as goal

pub returns-clause-bytes : goal.returns-clause-bytes
returns-clause-bytes c = object_begun c.in_ok-out.ensures.bytes c.in_ok-out.ensures.after_value c.in_ok-begin_object.ensures
