use Rattle.std.proofs.Common.{◌∙◌, refl, subst, sym}
use Rattle.server_specs.specs.Common.{line, answer_request, request}
use Rattle.database.specs.Outcomes.{Outcome}
use Rattle.database.specs.States.{state_of}
use Rattle.database.proofs.Keyed.{same_state}
use Rattle.database.proofs.SettledPlans.{outcome_given_up, still_ready}
use Rattle.lens_server.proofs.dispatch.answer_line.Goals as goal

pub settle-requires-clause-ready : goal.settle-requires-clause-ready
settle-requires-clause-ready g c =
    still_ready c.args.database.now c.plan_line.new.database (g.K.Keeper.contents c.args.keeper.now) c.plan_line.ensures.same c.requires

pub returns-in_err-plan-clause-outcome : goal.returns-in_err-plan-clause-outcome
returns-in_err-plan-clause-outcome g c =
    let expected = answer_request (request (line c.args.line.now)) (state_of c.args.database.now) in
    subst (λ s. Outcome expected (state_of c.args.database.now) s (g.K.Keeper.faults c.args.keeper.now) (g.K.Keeper.faults c.args.keeper.now) (g.K.Keeper.contents c.args.keeper.now) (g.K.Keeper.contents c.args.keeper.now)
    (g.K.Keeper.calls c.args.keeper.now) (g.K.Keeper.calls c.args.keeper.now) c.from_residual.result) (sym (same_state c.args.database.now c.plan_line.new.database c.plan_line.ensures.same))
    (outcome_given_up expected (state_of c.args.database.now) (g.K.Keeper.faults c.args.keeper.now) (g.K.Keeper.contents c.args.keeper.now) (g.K.Keeper.calls c.args.keeper.now) c.from_residual.result
    c.from_residual.ensures.0 c.requires.can.valid c.requires.told)

pub returns-in_err-plan-clause-untouched : goal.returns-in_err-plan-clause-untouched
returns-in_err-plan-clause-untouched g c = λ same. refl

pub returns-clause-untouched : goal.returns-clause-untouched
returns-clause-untouched g c = λ same.
    c.settle.ensures.untouched (answer_request (request (line c.args.line.now)) (state_of c.args.database.now)) c.in_ok-plan.ensures.plans.plan
    (same ∙ sym (same_state c.args.database.now c.plan_line.new.database c.plan_line.ensures.same))
