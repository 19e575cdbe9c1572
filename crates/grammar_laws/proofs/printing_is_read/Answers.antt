use Rattle.grammar_laws.proofs.Printed.{said_is_writable, printed_is_said, printed_is_read}
use Rattle.grammar_laws.proofs.printing_is_read.Goals as goal

pub returns : goal.returns
returns c = record { writable = said_is_writable; said = printed_is_said; read = printed_is_read }
