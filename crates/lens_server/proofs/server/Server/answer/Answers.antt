use Rattle.std.proofs.Common.{ap}
use Rattle.server_specs.proofs.Steps.{long_line}
use Rattle.database.specs.States.{state_of}
use Rattle.lens_server.proofs.Exported.{line_back, long_exports_none}
use Rattle.lens_server.proofs.Stepping.{committed_for, long_commits, stepped, untouched_by}
use Rattle.lens_server.proofs.server.Server.answer.Goals as goal

pub returns-then-line-gt-LONGEST_LINE-clause-step : goal.returns-then-line-gt-LONGEST_LINE-clause-step
returns-then-line-gt-LONGEST_LINE-clause-step g c = long_line _ _ _ _ c.if-line-gt-LONGEST_LINE.true c.long_reply.ensures

pub returns-then-line-gt-LONGEST_LINE-clause-commits : goal.returns-then-line-gt-LONGEST_LINE-clause-commits
returns-then-line-gt-LONGEST_LINE-clause-commits g c = long_commits _ _ _ _ _ c.if-line-gt-LONGEST_LINE.true

pub returns-clause-step : goal.returns-clause-step
returns-clause-step g c =
    stepped c.args.self.now (state_of c.self.inside.database) (state_of c.answer_line-outcome.new.database) (g.K.Keeper.faults c.args.keeper.now) (g.K.Keeper.faults c.answer_line-outcome.new.keeper)
    (g.K.Keeper.contents c.args.keeper.now) (g.K.Keeper.contents c.answer_line-outcome.new.keeper) (g.K.Keeper.calls c.args.keeper.now) (g.K.Keeper.calls c.answer_line-outcome.new.keeper)
    c.args.line.now c.reply_or_memory.result c.answer_line-outcome.result c.if-line-gt-LONGEST_LINE.false
    c.self.view_is c.answer_line-outcome.ensures.outcome (λ same. ap g.K.Keeper.faults (c.answer_line-outcome.ensures.untouched same)) c.reply_or_memory.ensures

pub returns-clause-untouched : goal.returns-clause-untouched
returns-clause-untouched g c = λ same.
    c.answer_line-outcome.ensures.untouched (untouched_by c.args.self.now (state_of c.self.inside.database) c.args.line.now c.if-line-gt-LONGEST_LINE.false c.self.view_is same)

pub returns-clause-commits : goal.returns-clause-commits
returns-clause-commits g c =
    committed_for c.args.self.now (state_of c.self.inside.database) (state_of c.answer_line-outcome.new.database) (g.K.Keeper.faults c.args.keeper.now) (g.K.Keeper.faults c.answer_line-outcome.new.keeper)
    (g.K.Keeper.contents c.args.keeper.now) (g.K.Keeper.contents c.answer_line-outcome.new.keeper) (g.K.Keeper.calls c.args.keeper.now) (g.K.Keeper.calls c.answer_line-outcome.new.keeper)
    c.args.line.now c.reply_or_memory.result c.answer_line-outcome.result c.if-line-gt-LONGEST_LINE.false
    c.self.view_is c.answer_line-outcome.ensures.outcome c.reply_or_memory.ensures

pub returns-then-line-gt-LONGEST_LINE-clause-back : goal.returns-then-line-gt-LONGEST_LINE-clause-back
returns-then-line-gt-LONGEST_LINE-clause-back g c = λ name L exports. absurd (long_exports_none c.args.self.now c.args.line.now name L c.if-line-gt-LONGEST_LINE.true exports)

pub returns-clause-back : goal.returns-clause-back
returns-clause-back g c =
    line_back c.args.self.now (state_of c.self.inside.database) c.args.line.now c.reply_or_memory.result c.answer_line-outcome.result c.if-line-gt-LONGEST_LINE.false
    c.self.view_is c.answer_line-outcome.ensures.back c.reply_or_memory.ensures
