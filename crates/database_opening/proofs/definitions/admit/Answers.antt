use Rattle.std.proofs.Common.{◌≡◌, ◌∙◌, ◌++◌, ◌∷◌, ◌<◌, [], ap, length, subst, sym, ◌^◌}
use Rattle.plain_values.proofs.Common.{option_to_list}
use Rattle.server_specs.specs.Common.{catalogue}
use Rattle.base_index.specs.Held.{IsQuiet}
use Rattle.view_catalog.specs.Admissions.{table_in}
use Rattle.database.specs.Plans.{IsFree}
use Rattle.database.specs.Staging.{defined_by}
use Rattle.database_opening.specs.Openings.{HasTables}
use Rattle.database_opening.proofs.Admitted.{empty_after, names_after, none_walked, on_ok, table_is_free}
use Rattle.database_opening.proofs.definitions.admit.Goals as goal

pub stage_definition-staged-requires-clause-new : goal.stage_definition-staged-requires-clause-new
stage_definition-staged-requires-clause-new g c =
    let old = c.args.admitted.now in
    subst (λ o. IsFree o old.tables.present.relations) (sym c.table-table.ensures) (table_is_free old c.in_ok-prepared.prepared c.requires.empty c.in_ok-prepared.ensures.prepared.1)

pub returns-clause-names : goal.returns-clause-names
returns-clause-names g c =
    let old = c.args.admitted.now in
    let p = c.in_ok-prepared.prepared in
    let texts : c.admit.new.self.texts ≡ old.catalog.texts ++ p.text ∷ [] = c.admit.ensures.texts ∙ ap (λ ts. ts ++ p.text ∷ []) c.prepare.ensures.texts in
    let names : c.append.new.names.items ≡ old.names.items ++ option_to_list (table_in p.name p.lens) =
    on_ok c.append.result (sym c.is_err-else-is_err.ensures.value ∙ c.if-is_err-2.false) c.append.ensures ∙ ap (λ name. old.names.items ++ option_to_list name) c.table-table.ensures in
    λ has. subst (λ ts. HasTables (catalogue ts) c.append.new.names.items) (sym texts)
    (subst (HasTables (catalogue (old.catalog.texts ++ p.text ∷ []))) (sym names)
    (names_after old.catalog.texts p old.names.items c.in_ok-prepared.ensures.prepared.1 has))

pub returns-clause-empty : goal.returns-clause-empty
returns-clause-empty g c =
    let old = c.args.admitted.now in
    let p = c.in_ok-prepared.prepared in
    let says = c.in_ok-prepared.ensures.prepared in
    let staged = on_ok c.stage_definition-staged.result (sym c.is_err.ensures.value ∙ c.if-is_err.false) c.stage_definition-staged.ensures.ok in
    let tables : c.settle.new.self.present ≡ defined_by (table_in p.name p.lens) p.lens old.tables.present =
    ap (λ t. t.present) c.settle.ensures ∙ ap (λ t. t.next) staged ∙ (λ i. defined_by (c.table-table.ensures i) (c.lens.ensures i) old.tables.present) in
    let quiet : IsQuiet c.settle.new.self = ap (λ t. t.next) c.settle.ensures ∙ sym (ap (λ t. t.present) c.settle.ensures) in
    empty_after old _ p c.requires.empty says.1 (subst (λ t. length t < 2 ^ 64) (sym says.0) c.prepare.ensures.short)
    (c.admit.ensures.texts ∙ ap (λ ts. ts ++ p.text ∷ []) c.prepare.ensures.texts) tables quiet
    (ap (λ t. t.held) c.settle.ensures ∙ ap (λ t. t.held) staged)

pub returns-clause-walked : goal.returns-clause-walked
returns-clause-walked g c =
    none_walked c.args.admitted.now c.lens.result.now c.args.walked.now c.stage_definition-staged.new.walked c.requires.empty c.stage_definition-staged.ensures.walks_on c.stage_definition-staged.ensures.walked

pub returns-then-is_err-clause-walked : goal.returns-then-is_err-clause-walked
returns-then-is_err-clause-walked g c =
    none_walked c.args.admitted.now c.lens.result.now c.args.walked.now c.stage_definition-staged.new.walked c.requires.empty c.stage_definition-staged.ensures.walks_on c.stage_definition-staged.ensures.walked
