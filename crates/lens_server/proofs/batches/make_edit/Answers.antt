use Rattle.std.proofs.Common.{◌≡◌, ◌∙◌, Ok, ap, map, subst, sym}
use Rattle.lens_specs.specs.Common.{LeadTo}
use Rattle.base_index.specs.Held.{AllApply, with_deltas}
use Rattle.server_specs.specs.Common.{catalogue, AreStored}
use Rattle.signed_delta.specs.Tables.{table_delta}
use Rattle.lens_server.proofs.BatchSteps.{holding_itself, still_holding}
use Rattle.lens_server.proofs.batches.make_edit.Goals as goal

pub stage-requires-clause-apply : goal.stage-requires-clause-apply
stage-requires-clause-apply g c =
    subst (λ ds. AllApply (map table_delta ds) c.args.database.now.tables.present.relations) (sym c.deref.ensures.value) c.in_ok-deltas.ensures.gives.2.0

pub returns-in_err-deltas-clause-holding : goal.returns-in_err-deltas-clause-holding
returns-in_err-deltas-clause-holding g c = holding_itself c.args.database.now c.requires

pub returns-clause-holding : goal.returns-clause-holding
returns-clause-holding g c =
    let database = c.args.database.now in
    let st = database.tables.present in
    let gives = c.in_ok-deltas.ensures.gives in
    let staged = c.in_ok-stage.ensures.ok in
    let present : c.settle.new.self.present ≡ record st { relations = with_deltas (map table_delta c.deref.result.now) st.relations } = ap (λ t. t.present) c.settle.ensures ∙ ap (λ t. t.next) staged in
    let relations : c.settle.new.self.present.relations ≡ gives.0 =
    ap (λ t. t.relations) present ∙ ap (λ ds. with_deltas (map table_delta ds) st.relations) c.deref.ensures.value ∙ gives.2.1 in
    still_holding database c.settle.new.self c.requires (subst (AreStored (catalogue database.catalog.texts)) (sym relations) gives.3)
    (ap (λ t. t.held) c.settle.ensures ∙ ap (λ t. t.held) staged) (ap (λ t. t.indexes) present) (ap (λ t. t.next) c.settle.ensures ∙ sym (ap (λ t. t.present) c.settle.ensures))

pub returns-clause-made : goal.returns-clause-made
returns-clause-made g c =
    let st = c.args.database.now.tables.present in
    let gives = c.in_ok-deltas.ensures.gives in
    let relations : c.settle.new.self.present.relations ≡ gives.0 =
    ap (λ t. t.present.relations) c.settle.ensures ∙ ap (λ t. t.next.relations) c.in_ok-stage.ensures.ok
    ∙ ap (λ ds. with_deltas (map table_delta ds) st.relations) c.deref.ensures.value ∙ gives.2.1 in
    (gives.1 ∙ ap Ok (sym relations), subst (λ ds. LeadTo ds st.relations c.settle.new.self.present.relations) (sym c.new.ensures) (gives.2.0, gives.2.1 ∙ sym relations))
