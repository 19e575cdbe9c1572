use Rattle.std.proofs.Common.{refl}
use Rattle.plain_values.proofs.Common.{digits}
use Rattle.server_specs.specs.Common.{text}
use Rattle.serde_json.proofs.OnLiterals.{serde_json_on_literals}
use Rattle.reply_printing.proofs.reply.nothing_to_undo_reply.Goals as goal

pub returns : goal.returns
unfolding text serde_json_on_literals digits
returns c = refl
