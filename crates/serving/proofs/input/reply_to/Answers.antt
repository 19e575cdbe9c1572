use Rattle.std.proofs.Common.{refl, arith}
use Rattle.serving.proofs.LongLines.{other_back, other_commits, other_step}
use Rattle.serving.proofs.Served.{stored_same}
use Rattle.serving.proofs.input.reply_to.Goals as goal

pub returns-in_default : goal.returns-in_default
returns-in_default g c = record {
  step = other_step c.args.cut _ _ _ _ c.in_default.not-Line c.long_reply.ensures;
  told = stored_same c.args.server.now _ c.requires.told;
  place = refl;
  back = λ name L h. other_back c.args.cut _ _ _ name L c.in_default.not-Line h;
  untouched = λ _. refl;
  commits = other_commits c.args.cut _ _ _ _ _ c.in_default.not-Line;
  walked = omega arith;
}
