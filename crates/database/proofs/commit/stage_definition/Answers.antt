use Rattle.std.proofs.Common.{◌≡◌, ◌∙◌, ◌+◌, ◌≤◌, subst, sym, OnOk}
use Rattle.base_index.specs.Held.{defined, walked_for}
use Rattle.database.specs.Staging.{needs_of}
use Rattle.database.proofs.LensNeeds.{needs_are}
use Rattle.database.proofs.commit.stage_definition.Goals as goal

pub returns-clause-ok : goal.returns-clause-ok
returns-clause-ok g c =
    let L = c.args.lens.now in let st = c.args.tables.now in
    let needs : c.deref.result.now ≡ needs_of L = c.deref.ensures.value ∙ sym (needs_are L c.in_ok-needs.needs.items c.in_ok-needs.ensures) in
    subst (λ t. OnOk c.stage_definition.result (c.stage_definition.new.self ≡ record st { next = defined t (needs_of L) st.present })) c.in_ok-new.ensures
    (subst (λ ns. OnOk c.stage_definition.result (c.stage_definition.new.self ≡ record st { next = defined c.in_ok-new.new ns st.present })) needs c.stage_definition.ensures.ok)

pub returns-clause-walked : goal.returns-clause-walked
returns-clause-walked g c =
    let L = c.args.lens.now in
    let needs : c.deref.result.now ≡ needs_of L = c.deref.ensures.value ∙ sym (needs_are L c.in_ok-needs.needs.items c.in_ok-needs.ensures) in
    subst (λ ns. c.stage_definition.new.walked ≤ c.args.walked.now + walked_for ns c.args.tables.now.present) needs c.stage_definition.ensures.walked_at_most
