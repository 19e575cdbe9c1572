use Rattle.std.proofs.Common.{◌∙◌, ap, refl, subst}
use Rattle.server_specs.specs.Common.{text}
use Rattle.database.specs.Plans.{Leads}
use Rattle.database.specs.States.{state_of}
use Rattle.database.proofs.SettledPlans.{outcome_given_up, outcome_unchanged, raised}
use Rattle.database.proofs.commit.settle.Goals as goal

pub returns-in_default-clause-outcome : goal.returns-in_default-clause-outcome
returns-in_default-clause-outcome g c = λ answer planned.
    outcome_given_up answer (state_of c.args.database.now) (g.K.Keeper.faults c.args.keeper.now) (g.K.Keeper.contents c.args.keeper.now) (g.K.Keeper.calls c.args.keeper.now) _
    refl c.requires.ready.can.valid c.requires.ready.told

pub returns-in_default-clause-untouched : goal.returns-in_default-clause-untouched
returns-in_default-clause-untouched g c = λ answer planned same. refl

-- a change that is staged changes the state
pub returns-in-Some-clause-untouched : goal.returns-in-Some-clause-untouched
returns-in-Some-clause-untouched g c = λ answer planned same.
    let leads = subst (λ o. Leads o answer.1 c.args.database.now) c.in-Some.is planned.leads in absurd (raised c.in-Some.staged (state_of c.args.database.now) answer.1 leads.0 same)

pub returns-in-None-clause-outcome : goal.returns-in-None-clause-outcome
returns-in-None-clause-outcome g c = λ answer planned.
    outcome_unchanged answer (state_of c.args.database.now) (g.K.Keeper.faults c.args.keeper.now) (g.K.Keeper.contents c.args.keeper.now) (g.K.Keeper.calls c.args.keeper.now) c.in-Ok.reply
    c.requires.ready.can.valid c.requires.ready.told (c.in-Ok.ensures ∙ ap text planned.answer) (subst (λ o. Leads o answer.1 c.args.database.now) c.in-None.is planned.leads)

pub returns-in-None-clause-untouched : goal.returns-in-None-clause-untouched
returns-in-None-clause-untouched g c = λ answer planned same. refl
