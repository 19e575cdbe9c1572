use Rattle.rehearsal.specs.Rehearsal.{json_text}
use Rattle.rehearsal.proofs.text.json_text.Goals as goal

pub returns : goal.returns
unfolding json_text
returns c = c.in_ok-to_string.ensures.text c.requires
