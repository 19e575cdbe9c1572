use Rattle.std.proofs.Common.{arith}
use Rattle.rehearsal.specs.Rehearsal.{read_request, read_line}
use Rattle.rehearsal.proofs.Texts.{line-made_if_ok}
use Rattle.rehearsal.proofs.lines.read_line.Goals as goal

pub returns : goal.returns
unfolding read_line
returns c = line-made_if_ok c.json_text.result _ (read_request c.args.name.now) c.json_text.ensures c.in_ok-request.ensures (omega arith)
