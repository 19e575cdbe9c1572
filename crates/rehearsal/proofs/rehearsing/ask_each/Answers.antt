use Rattle.std.proofs.Common.{◌∷◌, [], ◌∙◌, ap, refl, string_bytes}
use Rattle.server_specs.specs.Common.{marked}
use Rattle.rehearsal.proofs.Loops.{Halted-next, Passes-next, Room-next}
use Rattle.rehearsal.proofs.Points.{Passed-nil, on_err}
use Rattle.rehearsal.proofs.rehearsing.ask_each.Goals as goal

pub loop-line-init : goal.loop-line-init
loop-line-init g c = record { passes = ([], Passed-nil _ c.requires.told); place = refl }

pub ask-requires-clause-room : goal.ask-requires-clause-room
ask-requires-clause-room g c = Room-next _ _ (λ line. marked (string_bytes line)) c.args.lines.now c.loop-line.line-index c.loop-line-test.true c.requires.room c.loop-line.invariant.passes

pub returns-in_err-ask-clause-halted : goal.returns-in_err-ask-clause-halted
returns-in_err-ask-clause-halted g c =
    on_err c.from_residual.result _
    (Halted-next _ _ _ (λ line. marked (string_bytes line)) c.args.lines.now c.loop-line.line-index c.line-item.result _ c.loop-line-test.true c.line-item.is (ap marked c.as_bytes.ensures.value)
    c.loop-line.invariant.passes c.in_err-ask.ensures.halted)

pub loop-line-preserved : goal.loop-line-preserved
loop-line-preserved g c =
    let here = c.in_ok-ask.ensures.done in
    record {
      passes = Passes-next _ _ _ (λ line. marked (string_bytes line)) c.args.lines.now c.loop-line.line-index c.line-item.result _ c.loop-line-test.true c.line-item.is (ap marked c.as_bytes.ensures.value)
          c.loop-line.invariant.passes (here.0 ∷ [], here.1);
      place = c.in_ok-ask.ensures.place ∙ c.loop-line.invariant.place;
    }
