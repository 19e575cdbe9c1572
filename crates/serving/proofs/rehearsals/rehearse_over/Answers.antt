use Rattle.std.proofs.Common.{◌≡◌, ◌∙◌, Err, ap, inl, inr, refl}
use Rattle.std.proofs.Math.Nat.{le_refl, le_trans}
use Rattle.arguments.specs.Views.{settings_view}
use Rattle.server_specs.specs.Common.{kept}
use Rattle.serving.proofs.Calls.{fails_by, refused_exactly, refused_exactly_now, refused_tells, served_tells, undamaged, undamaged_now}
use Rattle.serving.proofs.Opened.{at_damage, follows_from, refused, rehearses, stops, stops_early}
use Rattle.serving.proofs.Promised.{memory_alone, no_input_asked, not_unserved, ok_is_no_err, promised_rehearsal, same_err, summarized, unserved_seven}
use Rattle.serving.proofs.rehearsals.rehearse_over.Goals as goal

-- the summary was given
pub returns-in-Ok-rehearse-clause-promises : goal.returns-in-Ok-rehearse-clause-promises
returns-in-Ok-rehearse-clause-promises g c = λ left asked faults.
    let opened = c.in-Ok.ensures in
    let done = c.in-Ok-rehearse.ensures in
    let rehearsed = done.done.0 in
    let told = c.give_summary.ensures in
    let served = summarized c.give_summary.result told.ends in
    promised_rehearsal (settings_view c.args.settings.now) c.args.number g.K.Keeper.stays c.give_summary.result _ _ c.requires.asked
    (λ _. rehearses (settings_view c.args.settings.now) c.args.number _ c.in-Ok.server c.rehearse.new.server _ c.in-Ok-rehearse.summary.items _ _ _ _ _ (g.K.Keeper.faults c.open.new.keeper) _ _ (g.K.Keeper.contents c.open.new.keeper) _
    _ (g.K.Keeper.calls c.open.new.keeper) _ _ _
    opened.opens opened.calls opened.as_told rehearsed done.told
    (λ zero. rw c.deref.ensures.value at (told.all zero)) (λ five. rw c.deref.ensures.value at (told.front five)) (rw c.deref.ensures.value at told.offers))
    (λ three. absurd (not_unserved _ served (inl three)))
    (λ seven. absurd (not_unserved _ served (inr (inr seven))))
    (λ _ _. undamaged _ _ _ _ _ _ c.in-Ok.server (λ seven. not_unserved _ served (inr (inr seven))) opened.opens)
    (λ _ _. undamaged_now _ _ _ (g.K.Keeper.contents c.rehearse.new.keeper) _ _ c.give_summary.result c.in-Ok.server (λ seven. not_unserved _ served (inr (inr seven))) opened.opens
    _ _ _ c.rehearse.new.server _ rehearsed.session (follows_from (λ now. now ≡ kept c.rehearse.new.server) _ (g.K.Keeper.contents c.open.new.keeper) _ opened.as_told done.told))
    (λ six. absurd (not_unserved _ served (inr (inl six))))
    (served_tells _ c.give_summary.result (g.K.Keeper.faults c.open.new.keeper) _ _ _ _ (λ six. not_unserved _ served (inr (inl six))) opened.calls rehearsed.commits)
    (λ h. absurd (not_unserved _ served (inr h)))
    (inl served)
    (no_input_asked _ told.ends)
    told.write
    (λ six. absurd (not_unserved _ served (inr (inl six))))
    (le_refl _) told.later (le_trans opened.later done.later)
    (λ _. done.place ∙ opened.place (ok_is_no_err _ _ _ refl) (ok_is_no_err _ _ _ refl)) (λ none. done.place ∙ opened.place_stays none)
    (λ h. absurd (not_unserved _ served (inr h)))

-- memory ran out in it
pub returns-in-Ok-clause-promises : goal.returns-in-Ok-clause-promises
returns-in-Ok-clause-promises g c = λ left asked faults.
    let opened = c.in-Ok.ensures in
    let told = c.in-Err-rehearse.ensures in
    let alone = memory_alone 3 refl in
    promised_rehearsal (settings_view c.args.settings.now) c.args.number g.K.Keeper.stays 3 _ _ c.requires.asked
    (λ h. absurd (not_unserved 3 (summarized 3 h) (inl refl)))
    (λ _. stops (settings_view c.args.settings.now) c.args.number _ c.in-Ok.server c.rehearse.new.server _ (g.K.Keeper.faults c.open.new.keeper) _ _ (g.K.Keeper.contents c.open.new.keeper) _
    _ (g.K.Keeper.calls c.open.new.keeper) _ _ _
    opened.opens opened.calls opened.as_told told.stopped.0 told.told)
    (λ seven. absurd (alone.2 seven))
    (λ not_memory. absurd (not_memory refl))
    (λ not_memory. absurd (not_memory refl))
    (λ six. absurd (alone.1 six))
    (served_tells _ 3 (g.K.Keeper.faults c.open.new.keeper) _ _ _ _ alone.1 opened.calls told.stopped.0.commits)
    (λ h. absurd (alone.3 h))
    (inr (inl refl))
    ((λ four. not_unserved 3 (inr (inl four)) (inl refl)), (λ eight. not_unserved 3 (inr (inr (inr eight))) (inl refl)))
    (λ five. absurd (alone.0 five))
    (λ six. absurd (alone.1 six))
    (le_refl _) (le_refl _) (le_trans opened.later told.later)
    (λ h. absurd (alone.4 h)) (λ none. told.place ∙ opened.place_stays none)
    (λ h. absurd (alone.3 h))

-- refused
pub returns-clause-promises : goal.returns-clause-promises
returns-clause-promises g c = λ left asked faults.
    let opened = c.in-Err.ensures in
    let told = c.refuse.ensures in
    promised_rehearsal (settings_view c.args.settings.now) c.args.number g.K.Keeper.stays c.refuse.result _ _ c.requires.asked
    (λ h. absurd (not_unserved _ (summarized _ h) told.ends))
    (λ three. stops_early (settings_view c.args.settings.now) c.args.number _ c.refuse.result (g.K.Keeper.faults c.open.new.keeper) c.in-Err.fault _ _ _ _ _ _ _ _ opened.stays told.store opened.calls three refl)
    (λ seven. refused (settings_view c.args.settings.now) _ _ _ _ _ c.in-Err.fault _ _ _ _ _ _ _ _ opened.opens opened.calls (told.damaged seven))
    (λ not_memory not_store. refused_exactly _ _ _ _ _ _ c.refuse.result c.in-Err.fault not_memory not_store told.ends _ told.damaged opened.opens)
    (λ not_memory not_store. refused_exactly_now _ _ _ _ _ _ c.refuse.result c.in-Err.fault not_memory not_store told.ends _ told.damaged opened.opens)
    (fails_by _ c.refuse.result (g.K.Keeper.faults c.open.new.keeper) c.in-Err.fault _ _ told.store opened.calls)
    (refused_tells _ c.refuse.result (g.K.Keeper.faults c.open.new.keeper) c.in-Err.fault _ _ told.store opened.calls)
    (λ _. opened.stays)
    (inr told.ends)
    ((λ four. not_unserved _ (inr (inl four)) told.ends), (λ eight. not_unserved _ (inr (inr (inr eight))) told.ends))
    (λ five. absurd (not_unserved _ (inr (inr (inl five))) told.ends))
    (λ six. opened.failed (ap Err (told.store.0 six)))
    (le_refl _) told.later opened.later
    (λ h. at_damage c.in-Err.fault c.refuse.result _ _ (unserved_seven _ told.ends h) told.damaged
    (λ store memory. opened.place (λ e. store (same_err _ _ _ refl e)) (λ e. memory (same_err _ _ _ refl e))))
    opened.place_stays (λ _. refl)
