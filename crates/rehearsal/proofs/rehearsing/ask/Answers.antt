use Rattle.std.proofs.Common.{◌≡◌, ◌∙◌, true, false, ap, sym}
use Rattle.rehearsal.specs.Summary.{is_ok, rows_shown}
use Rattle.rehearsal.proofs.Points.{Halted-step, Passed-step, counted-one, on_err}
use Rattle.rehearsal.proofs.rehearsing.ask.Goals as goal

pub returns-then-reports_no_memory-clause-halted : goal.returns-then-reports_no_memory-clause-halted
returns-then-reports_no_memory-clause-halted g c = Halted-step _ _ _ _ c.answer-reply.ensures.step c.answer-reply.ensures.told c.answer-reply.ensures.commits c.answer-reply.ensures.walked c.answer-reply.ensures.looked

pub returns-in_err-reported-clause-halted : goal.returns-in_err-reported-clause-halted
returns-in_err-reported-clause-halted g c = on_err c.from_residual.result _ (Halted-step _ _ _ _ c.answer-reply.ensures.step c.answer-reply.ensures.told c.answer-reply.ensures.commits c.answer-reply.ensures.walked c.answer-reply.ensures.looked)

pub returns-clause-done : goal.returns-clause-done
returns-clause-done g c =
    let counted = counted-one c.args.tally.now c.count.new.self c.in_ok-reported.reported.accepts c.answer-reply.result c.count.ensures (c.in_ok-reported.ensures.accepts ∙ ap is_ok c.bytes.ensures) in (
      c.answer-reply.result,
      Passed-step _ _ _ c.answer-reply.result c.answer-reply.ensures.step
          (λ memory. let e : false ≡ true = sym c.if-reports_no_memory.false ∙ c.reports_no_memory.ensures.1 memory in cc)
          counted c.answer-reply.ensures.told c.answer-reply.ensures.commits c.answer-reply.ensures.walked c.answer-reply.ensures.looked,
      c.in_ok-reported.ensures.rows ∙ ap rows_shown c.bytes.ensures,
    )
