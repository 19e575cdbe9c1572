use Rattle.std.proofs.Common.{◌≡◌, ◌∙◌, Err, ap, refl, subst, sym}
use Rattle.database.proofs.Indexed.{Made, keyed_after, last_there, made, state_after, unstaged_same}
use Rattle.database.proofs.Keyed.{same_keyed}
use Rattle.database.proofs.SettledPlans.{outcome_failed, outcome_given_up, outcome_made, staged_can}
use Rattle.lens_specs.specs.Common.{CanCommit, Follows, changed}
use Rattle.table_keeper.specs.Changes.{change_view}
use Rattle.database.specs.Outcomes.{Outcome}
use Rattle.database.specs.Plans.{CanMove, CanTake, change_of}
use Rattle.database.specs.States.{state_of}
use Rattle.database.proofs.commit.commit.Goals as goal

pub commit-requires : goal.commit-requires
commit-requires g c =
    let contents = g.K.Keeper.contents c.args.keeper.now in
    subst (λ change. CanCommit (change_view change) contents) (sym c.into_parts-change.ensures.change) (staged_can c.args.staged c.args.database.now contents c.requires.staged c.requires.ready.told)

pub make-requires-clause-definition : goal.make-requires-clause-definition
make-requires-clause-definition g c = subst (λ o. CanTake o c.args.database.now.catalog) (sym c.into_parts-change.ensures.definition) c.requires.staged.definition

pub make-requires-clause-last : goal.make-requires-clause-last
make-requires-clause-last g c =
    let database = c.args.database.now in
    subst (λ change. CanMove change database.last) (sym c.into_parts-change.ensures.change) (last_there c.args.staged.change (state_of database) c.requires.ready.can.valid c.requires.staged.tables)

pub returns-in_err-stage-clause-outcome : goal.returns-in_err-stage-clause-outcome
returns-in_err-stage-clause-outcome g c =
    let database = c.args.database.now in
    let same = c.in_err-stage.ensures.err in
    λ answer leads said.
    subst (λ s. Outcome answer (state_of database) s (g.K.Keeper.faults c.args.keeper.now) (g.K.Keeper.faults c.args.keeper.now) (g.K.Keeper.contents c.args.keeper.now) (g.K.Keeper.contents c.args.keeper.now)
    (g.K.Keeper.calls c.args.keeper.now) (g.K.Keeper.calls c.args.keeper.now) c.from_residual.result) (sym (λ i. state_of (record database { tables = same i })))
    (outcome_given_up answer (state_of database) (g.K.Keeper.faults c.args.keeper.now) (g.K.Keeper.contents c.args.keeper.now) (g.K.Keeper.calls c.args.keeper.now) c.from_residual.result
    c.from_residual.ensures.0 c.requires.ready.can.valid c.requires.ready.told)

pub returns-in_err-stage-clause-keyed : goal.returns-in_err-stage-clause-keyed
returns-in_err-stage-clause-keyed g c =
    same_keyed c.args.database.now _ (record { texts = refl; tables = c.in_err-stage.ensures.err; version = refl; last = refl; past = refl }) c.requires.ready.can.keyed

pub returns-in-Ok-clause-outcome : goal.returns-in-Ok-clause-outcome
returns-in-Ok-clause-outcome g c =
    let staged = c.args.staged in let database = c.args.database.now in
    let m : Made staged database c.make.new.database =
    made staged database c.make.new.database _ _ _ c.into_parts-change.ensures.change c.into_parts-change.ensures.definition c.in_ok-stage.ensures.ok
    c.make.ensures.catalog c.make.ensures.tables c.make.ensures.version c.make.ensures.last c.make.ensures.past in
    let follows : Follows (λ a b. b ≡ changed (change_view (change_of staged.change)) a) (g.K.Keeper.contents c.args.keeper.now) (g.K.Keeper.contents c.commit.new.self) =
    subst (λ change. Follows (λ a b. b ≡ changed (change_view change) a) (g.K.Keeper.contents c.args.keeper.now) (g.K.Keeper.contents c.commit.new.self)) c.into_parts-change.ensures.change c.in-Ok.ensures.ok in
    λ answer leads said. outcome_made staged database answer (g.K.Keeper.faults c.args.keeper.now) (g.K.Keeper.faults c.commit.new.self) (g.K.Keeper.contents c.args.keeper.now)
    (g.K.Keeper.contents c.commit.new.self) (g.K.Keeper.calls c.args.keeper.now) (g.K.Keeper.calls c.commit.new.self) c.args.reply c.requires.staged c.requires.ready.told follows c.in-Ok.ensures.call c.commit.ensures.later said leads.0 (state_of c.make.new.database)
    (state_after staged database c.make.new.database m)

pub returns-in-Ok-clause-keyed : goal.returns-in-Ok-clause-keyed
returns-in-Ok-clause-keyed g c =
    let staged = c.args.staged in let database = c.args.database.now in
    let m : Made staged database c.make.new.database =
    made staged database c.make.new.database _ _ _ c.into_parts-change.ensures.change c.into_parts-change.ensures.definition c.in_ok-stage.ensures.ok
    c.make.ensures.catalog c.make.ensures.tables c.make.ensures.version c.make.ensures.last c.make.ensures.past in
    keyed_after staged database c.make.new.database c.requires.ready.can.valid c.requires.ready.can.keyed c.requires.staged m

pub returns-in-Err-clause-outcome : goal.returns-in-Err-clause-outcome
returns-in-Err-clause-outcome g c =
    let staged = c.args.staged in let database = c.args.database.now in
    let same : c.unstage.new.self ≡ database.tables = unstaged_same database.tables _ c.unstage.new.self _ c.requires.ready.can.keyed.quiet c.in_ok-stage.ensures.ok c.unstage.ensures in
    λ answer leads said. outcome_failed c.in-Err.fault c.not_kept.result staged database answer (g.K.Keeper.faults c.args.keeper.now) (g.K.Keeper.faults c.commit.new.self)
    (g.K.Keeper.contents c.args.keeper.now) (g.K.Keeper.contents c.commit.new.self) (g.K.Keeper.calls c.args.keeper.now) (g.K.Keeper.calls c.commit.new.self) c.not_kept.ensures
    c.requires.ready.can.valid c.requires.ready.told c.in-Err.ensures.err c.in-Err.ensures.call c.commit.ensures.later
    (λ e. c.commit.ensures.failed (c.in-Err.is ∙ ap Err e)) leads.0 _ (λ i. state_of (record database { tables = same i }))

pub returns-in-Err-clause-keyed : goal.returns-in-Err-clause-keyed
returns-in-Err-clause-keyed g c =
    let staged = c.args.staged in let database = c.args.database.now in
    let same : c.unstage.new.self ≡ database.tables = unstaged_same database.tables _ c.unstage.new.self _ c.requires.ready.can.keyed.quiet c.in_ok-stage.ensures.ok c.unstage.ensures in
    same_keyed database _ (record { texts = refl; tables = same; version = refl; last = refl; past = refl }) c.requires.ready.can.keyed
