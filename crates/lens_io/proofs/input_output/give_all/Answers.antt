use Rattle.std.proofs.Common.{arith, ap, length, subst, take, drop, length-drop, ◌∙◌}
use Rattle.std.specs.Io.KnownBytes.{Appends}
use Rattle.lens_io.specs.Calls.{AddsOffer}
use Rattle.lens_io.proofs.Fronts.{Appends-more, Appends-nil, rest_is, within_rest}
use Rattle.lens_io.proofs.Offering.{Offering-all, Offering-nil, Offering-more, Offering-last, Offering-end}
use Rattle.lens_io.proofs.input_output.give_all.Goals as goal

-- what a call is handed is all that is left
pub loop-at-init : goal.loop-at-init
loop-at-init g c = record { within = omega arith; given = Appends-nil _; offering = Offering-nil _ _ _ (omega arith); later = omega arith }

pub loop-at-preserved : goal.loop-at-preserved
loop-at-preserved g c =
    let given : Appends (g.W.Sink.taken c.loop-at.sink) (g.W.Sink.taken c.give.new.self) (take c.in_ok-at.field-0 (drop c.loop-at.at c.args.bytes.now)) =
    subst (λ v. Appends (g.W.Sink.taken c.loop-at.sink) (g.W.Sink.taken c.give.new.self) (take c.in_ok-at.field-0 v)) (rest_is c.args.bytes.now c.loop-at.at) c.in_ok-at.ensures.bytes in
    record {
      within = within_rest c.args.bytes.now c.loop-at.at c.in_ok-at.field-0 c.loop-at.invariant.within c.in_ok-at.ensures.bound;
      given = Appends-more (g.W.Sink.taken c.args.sink.now) (g.W.Sink.taken c.loop-at.sink) (g.W.Sink.taken c.give.new.self) c.args.bytes.now c.loop-at.at c.in_ok-at.field-0 c.loop-at.invariant.given given;
      offering = Offering-more _ _ _ c.in_ok-at.field-0 _ _ _ c.loop-at.invariant.offering
          (subst (λ n. AddsOffer (g.W.Sink.offered c.loop-at.sink) (g.W.Sink.offered c.give.new.self) n c.in_ok-at.field-0)
          (ap length (rest_is c.args.bytes.now c.loop-at.at) ∙ length-drop c.loop-at.at c.args.bytes.now) c.in_ok-at.ensures.call)
          (λ none. omega (arith, none, c.in_ok-at.ensures.some)) (omega arith);
      later = omega arith;
    }

-- a call that failed is the last
pub returns-in_err-at-clause-calls : goal.returns-in_err-at-clause-calls
returns-in_err-at-clause-calls g c =
    Offering-last _ _ _ _ _ c.loop-at.invariant.offering
    (subst (λ n. AddsOffer (g.W.Sink.offered c.loop-at.sink) (g.W.Sink.offered c.give.new.self) n 0)
    (ap length (rest_is c.args.bytes.now c.loop-at.at) ∙ length-drop c.loop-at.at c.args.bytes.now) c.in_err-at.ensures.call)

pub returns-clause-calls : goal.returns-clause-calls
returns-clause-calls g c = Offering-end _ _ _ _ c.loop-at.invariant.offering

pub returns-clause-all : goal.returns-clause-all
returns-clause-all g c = Offering-all _ _ _ _ c.loop-at.invariant.offering (omega arith)
