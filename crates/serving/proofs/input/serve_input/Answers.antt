use Rattle.std.proofs.Common.{◌≡◌, ◌∙◌, Err, ap, inl, inr, refl}
use Rattle.std.proofs.Math.Nat.{le_refl, le_trans}
use Rattle.arguments.specs.Views.{settings_view}
use Rattle.server_specs.specs.Common.{kept}
use Rattle.serving.proofs.Calls.{fails_by, lacks_by, refused_exactly, refused_exactly_now, refused_tells, served_tells, undamaged, undamaged_now}
use Rattle.serving.proofs.Opened.{at_damage, follows_from, refused, runs}
use Rattle.serving.proofs.Promised.{not_unserved, ok_is_no_err, promised_input, promised_nothing, same_err, unserved_seven}
use Rattle.serving.proofs.input.serve_input.Goals as goal

-- no room for lines: nothing is asked
pub returns-in_default-clause-promises : goal.returns-in_default-clause-promises
returns-in_default-clause-promises g c = promised_nothing _ g.K.Keeper.stays _

-- served
pub returns-in-Ok-open-clause-promises : goal.returns-in-Ok-open-clause-promises
returns-in-Ok-open-clause-promises g c =
    let opened = c.in-Ok-open.ensures in
    let told = c.serve.ensures in
    let limit : c.in-Ok.cutter.limit ≡ c.args.settings.now.max_input = ap (λ k. k.limit) c.in-Ok.ensures in
    promised_input (settings_view c.args.settings.now) g.K.Keeper.stays c.serve.result _ _ c.requires.asked
    (λ _. runs (settings_view c.args.settings.now) _ c.in-Ok-open.server c.in-Ok.cutter.limit _ _ _ _ _ _ _ _ _ _ (g.K.Keeper.faults c.open.new.keeper) _ _ (g.K.Keeper.contents c.open.new.keeper) _
    _ (g.K.Keeper.calls c.open.new.keeper) _ _ _
    opened.opens opened.calls opened.as_told limit told.serves)
    (λ seven. absurd (not_unserved _ told.ends (inr (inr seven))))
    (λ _ _. undamaged _ _ _ _ _ _ c.in-Ok-open.server (λ seven. not_unserved _ told.ends (inr (inr seven))) opened.opens)
    (λ _ _. undamaged_now _ _ _ (g.K.Keeper.contents c.serve.new.keeper) _ _ c.serve.result c.in-Ok-open.server (λ seven. not_unserved _ told.ends (inr (inr seven))) opened.opens
    _ _ _ _ _ told.serves.session (follows_from (λ now. now ≡ kept told.serves.last) _ (g.K.Keeper.contents c.open.new.keeper) _ opened.as_told told.serves.stored))
    (λ six. absurd (not_unserved _ told.ends (inr (inl six))))
    (served_tells _ c.serve.result (g.K.Keeper.faults c.open.new.keeper) _ _ _ _ (λ six. not_unserved _ told.ends (inr (inl six))) opened.calls told.serves.commits)
    (λ three. absurd (not_unserved _ told.ends (inl three)))
    (λ unserved. absurd (not_unserved _ told.ends unserved))
    (inl told.ends) told.read told.write
    (λ six. absurd (not_unserved _ told.ends (inr (inl six))))
    told.source_later told.sink_later (le_trans opened.later told.keeper_later)
    (λ _. told.place ∙ opened.place (ok_is_no_err _ _ _ refl) (ok_is_no_err _ _ _ refl)) (λ none. told.place ∙ opened.place_stays none)
    (λ unserved. absurd (not_unserved _ told.ends unserved))

-- refused
pub returns-in-Err-clause-promises : goal.returns-in-Err-clause-promises
returns-in-Err-clause-promises g c =
    let opened = c.in-Err.ensures in
    let told = c.refuse.ensures in
    promised_input (settings_view c.args.settings.now) g.K.Keeper.stays c.refuse.result _ _ c.requires.asked
    (λ served. absurd (not_unserved _ served told.ends))
    (λ seven. refused (settings_view c.args.settings.now) _ _ _ _ _ c.in-Err.fault _ _ _ _ _ _ _ _ opened.opens opened.calls (told.damaged seven))
    (λ not_memory not_store. refused_exactly _ _ _ _ _ _ c.refuse.result c.in-Err.fault not_memory not_store told.ends _ told.damaged opened.opens)
    (λ not_memory not_store. refused_exactly_now _ _ _ _ _ _ c.refuse.result c.in-Err.fault not_memory not_store told.ends _ told.damaged opened.opens)
    (fails_by _ c.refuse.result (g.K.Keeper.faults c.open.new.keeper) c.in-Err.fault _ _ told.store opened.calls)
    (refused_tells _ c.refuse.result (g.K.Keeper.faults c.open.new.keeper) c.in-Err.fault _ _ told.store opened.calls)
    (lacks_by _ c.refuse.result (g.K.Keeper.faults c.open.new.keeper) c.in-Err.fault _ _ told.store opened.calls)
    (λ _. opened.stays)
    (inr told.ends)
    (λ four. absurd (not_unserved _ (inr (inl four)) told.ends))
    (λ five. absurd (not_unserved _ (inr (inr (inl five))) told.ends))
    (λ six. opened.failed (ap Err (told.store.0 six)))
    (le_refl _) told.later opened.later
    (λ h. at_damage c.in-Err.fault c.refuse.result _ _ (unserved_seven _ told.ends h) told.damaged
    (λ store memory. opened.place (λ e. store (same_err _ _ _ refl e)) (λ e. memory (same_err _ _ _ refl e))))
    opened.place_stays (λ _. refl)
