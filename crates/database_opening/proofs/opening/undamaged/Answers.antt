use Rattle.std.proofs.Common.{◌≡◌, ◌∙◌, ℕ, None, ap, map, refl, subst, sym}
use Rattle.base_index.specs.Held.{AllApply, with_deltas}
use Rattle.opening_specs.specs.Opening.{mapped}
use Rattle.signed_delta.specs.Tables.{table_delta}
use Rattle.table_keeper.specs.Places.{rows_in}
use Rattle.database_opening.specs.Openings.{filling}
use Rattle.database_opening.proofs.Filled.{filled_keyed, filled_state, fillings_apply, settled_with}
use Rattle.database_opening.proofs.opening.undamaged.Goals as goal

pub stage-requires-clause-apply : goal.stage-requires-clause-apply
stage-requires-clause-apply c =
    let deltas : map table_delta c.deref.result.now ≡ map filling c.args.tables.items = ap (map table_delta) c.deref.ensures.value ∙ c.in_ok-deltas.ensures in
    subst (λ ds. AllApply ds c.args.admitted.tables.present.relations) (sym deltas) (fillings_apply c.args.admitted c.args.tables.items c.requires.empty c.requires.rising c.requires.undamaged)

pub returns-clause-state : goal.returns-clause-state
returns-clause-state c =
    let ts = c.args.tables.items in
    let st = c.args.admitted.tables.present in
    let deltas : map table_delta c.deref.result.now ≡ map filling ts = ap (map table_delta) c.deref.ensures.value ∙ c.in_ok-deltas.ensures in
    let free : c.stage.new.self.held ≡ None = ap (λ t. t.held) c.in_ok-stage.ensures.ok ∙ c.requires.empty.free in
    let tables : c.settle.new.self ≡ settled_with (with_deltas (map filling ts) st.relations) st =
    c.settle.ensures ∙ (λ i. record { present = (c.in_ok-stage.ensures.ok i).next; next = (c.in_ok-stage.ensures.ok i).next; held = free i }) ∙ (λ i. settled_with (with_deltas (deltas i) st.relations) st) in
    filled_state c.args.admitted ts _ c.requires.empty c.requires.rising c.requires.undamaged refl tables refl
    (c.in_ok-last.ensures ∙ ap (λ us. mapped {Y = ℕ} (λ _. 0) (rows_in us)) c.as_slice.ensures.value) c.in_ok-past.ensures

pub returns-clause-keyed : goal.returns-clause-keyed
returns-clause-keyed c =
    let st = c.args.admitted.tables.present in
    let db = with_deltas (map table_delta c.deref.result.now) st.relations in
    let free : c.stage.new.self.held ≡ None = ap (λ t. t.held) c.in_ok-stage.ensures.ok ∙ c.requires.empty.free in
    let tables : c.settle.new.self ≡ settled_with db st =
    c.settle.ensures ∙ (λ i. record { present = (c.in_ok-stage.ensures.ok i).next; next = (c.in_ok-stage.ensures.ok i).next; held = free i }) in
    filled_keyed c.args.admitted db _ c.requires.empty refl tables
