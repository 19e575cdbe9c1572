use Rattle.std.proofs.Common.{◌≤◌, ◌<◌, ◌+◌, ◌-◌, length, refl, arith, sym, ◌∙◌}
use Rattle.server_specs.specs.Common.{Adds, request, Step}
use Rattle.lens_server.specs.Committing.{CommitsFor}
use Rattle.lens_server.specs.Counting.{most_walked}
use Rattle.serving.specs.Exports.{IsReadBack}
use Rattle.serving.specs.Running.{line_of}
use Rattle.lens_io.proofs.Progress.{shorter}
use Rattle.serving.proofs.Continued.{Served-more, unwritten}
use Rattle.serving.proofs.Finished.{ends_of, finished}
use Rattle.serving.proofs.Served.{Served-nil}
use Rattle.serving.proofs.input.serve.Goals as goal

pub lines-init : goal.lines-init
lines-init g c = record {
  served = rw c.requires.cutter (Served-nil _ _ _ _ _ _ _ _ _ _ c.requires.told);
  source = omega arith;
  sink = omega arith;
  keeper = omega arith;
  place = refl;
}

pub status_of-requires : goal.status_of-requires
status_of-requires g c = sym c.next-cut.ensures.done ∙ sym c.done.ensures ∙ c.if-done.true

pub returns-then-done-clause-serves : goal.returns-then-done-clause-serves
returns-then-done-clause-serves g c =
    finished _ _ c.next-cut.result c.lines.cutter c.next-cut.new.self c.lines.server _ _ _ _ _ _ _ _ _ _ _ _ _ _ _ _ _ _ c.lines.invariant.served c.next-cut.ensures.cuts
    (sym c.next-cut.ensures.done ∙ sym c.done.ensures ∙ c.if-done.true) c.status_of.result c.status_of.ensures

pub returns-then-done-clause-ends : goal.returns-then-done-clause-ends
returns-then-done-clause-ends g c = ends_of c.next-cut.result c.status_of.result c.status_of.ensures

pub reply_to-reply-requires-clause-line : goal.reply_to-reply-requires-clause-line
reply_to-reply-requires-clause-line g c = sym c.next-cut.ensures.done ∙ sym c.done.ensures ∙ c.if-done.false

pub returns-in-Err-clause-serves : goal.returns-in-Err-clause-serves
returns-in-Err-clause-serves g c =
    let step : Step c.lines.server (g.K.Keeper.faults c.lines.keeper) (line_of c.next-cut.result c.next-cut.new.self.line) c.reply_to-reply.result c.reply_to-reply.new.server (g.K.Keeper.faults c.reply_to-reply.new.keeper) =
    rw (← c.line.ensures) c.reply_to-reply.ensures.step in
    let commits : Adds (CommitsFor c.lines.server (g.K.Keeper.faults c.lines.keeper) (record {
      line = line_of c.next-cut.result c.next-cut.new.self.line;
      reply = c.reply_to-reply.result;
      state = c.reply_to-reply.new.server;
      count = g.K.Keeper.faults c.reply_to-reply.new.keeper;
    })) (g.K.Keeper.calls c.lines.keeper) (g.K.Keeper.calls c.reply_to-reply.new.keeper) =
    rw (← c.line.ensures) c.reply_to-reply.ensures.commits in
    let back : IsReadBack c.lines.server (record {
      line = line_of c.next-cut.result c.next-cut.new.self.line;
      reply = c.reply_to-reply.result;
      state = c.reply_to-reply.new.server;
      count = g.K.Keeper.faults c.reply_to-reply.new.keeper;
    }) =
    rw (← c.line.ensures) c.reply_to-reply.ensures.back in
    let few : c.reply_to-reply.new.walked ≤ c.lines.walked + most_walked (request (line_of c.next-cut.result c.next-cut.new.self.line)) c.lines.server =
    rw (← c.line.ensures) c.reply_to-reply.ensures.walked in
    unwritten _ _ c.next-cut.result c.lines.cutter c.next-cut.new.self c.lines.server c.reply_to-reply.new.server _ _ _ _ _ _ _ _ _ _ _ _ _ _ _ _ _ _ _ _ _ _ _ _ c.reply_to-reply.result
    c.lines.invariant.served c.next-cut.ensures.cuts (sym c.next-cut.ensures.done ∙ sym c.done.ensures ∙ c.if-done.false) step c.reply_to-reply.ensures.told commits back c.in-Err.ensures.front c.in-Err.ensures.offers_until few

pub lines-smaller : goal.lines-smaller
lines-smaller g c =
    let less : c.lines.cutter.limit + 1 - c.next-cut.new.self.taken + length c.next-cut.new.self.pending < c.lines.cutter.limit + 1 - c.lines.cutter.taken + length c.lines.cutter.pending =
    shorter c.next-cut.result c.lines.cutter.pending c.next-cut.new.self.line c.next-cut.new.self.pending c.lines.cutter.taken c.next-cut.new.self.taken c.lines.cutter.limit _ _ _ _
    c.next-cut.ensures.cuts.step (sym c.next-cut.ensures.done ∙ sym c.done.ensures ∙ c.if-done.false) in
    omega (arith, less, c.next-cut.ensures.limit)

pub lines-preserved : goal.lines-preserved
lines-preserved g c =
    let step : Step c.lines.server (g.K.Keeper.faults c.lines.keeper) (line_of c.next-cut.result c.next-cut.new.self.line) c.reply_to-reply.result c.reply_to-reply.new.server (g.K.Keeper.faults c.reply_to-reply.new.keeper) =
    rw (← c.line.ensures) c.reply_to-reply.ensures.step in
    let commits : Adds (CommitsFor c.lines.server (g.K.Keeper.faults c.lines.keeper) (record {
      line = line_of c.next-cut.result c.next-cut.new.self.line;
      reply = c.reply_to-reply.result;
      state = c.reply_to-reply.new.server;
      count = g.K.Keeper.faults c.reply_to-reply.new.keeper;
    })) (g.K.Keeper.calls c.lines.keeper) (g.K.Keeper.calls c.reply_to-reply.new.keeper) =
    rw (← c.line.ensures) c.reply_to-reply.ensures.commits in
    let back : IsReadBack c.lines.server (record {
      line = line_of c.next-cut.result c.next-cut.new.self.line;
      reply = c.reply_to-reply.result;
      state = c.reply_to-reply.new.server;
      count = g.K.Keeper.faults c.reply_to-reply.new.keeper;
    }) =
    rw (← c.line.ensures) c.reply_to-reply.ensures.back in
    let few : c.reply_to-reply.new.walked ≤ c.lines.walked + most_walked (request (line_of c.next-cut.result c.next-cut.new.self.line)) c.lines.server =
    rw (← c.line.ensures) c.reply_to-reply.ensures.walked in
    record {
      served = Served-more _ _ c.next-cut.result c.lines.cutter c.next-cut.new.self c.lines.server c.reply_to-reply.new.server _ _ _ _ _ _ _ _ _ _ _ _ _ _ _ _ _ _ _ _ _ _ _ _ c.reply_to-reply.result
          c.lines.invariant.served c.next-cut.ensures.cuts (sym c.next-cut.ensures.done ∙ sym c.done.ensures ∙ c.if-done.false) c.next-cut.ensures.limit c.next-cut.ensures.done
          step c.reply_to-reply.ensures.told commits back c.in-Ok.ensures.ok c.in-Ok.ensures.offers few;
      source = omega (arith, c.next-cut.ensures.later);
      sink = omega (arith, c.in-Ok.ensures.later);
      keeper = omega (arith, step.later, c.lines.invariant.keeper);
      place = c.reply_to-reply.ensures.place ∙ c.lines.invariant.place;
    }
