use Rattle.std.proofs.Common.{arith}
use Rattle.view_lang.proofs.Cuts.{blanks_end}
use Rattle.view_lang.proofs.parsing.behind_blanks.Goals as goal

pub overflow_add-result : goal.overflow_add-result
overflow_add-result c = omega (arith, blanks_end c.args.text.now c.as_bytes.result.now c.args.at c.blank_len.result c.requires c.as_bytes.ensures.value c.blank_len.ensures)
