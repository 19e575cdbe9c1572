use Rattle.std.proofs.Common.{[], ap, ◌∙◌, is_some}
use Rattle.std.specs.FinMap as finmap
use Rattle.plain_values.proofs.Common.{bytes_cmp}
use Rattle.base_index.proofs.Known.{there_new}
use Rattle.index_tests.proofs.Holding.{there_never}
use Rattle.index_tests.proofs.trial.Trial.new.Goals as goal

pub stage_definition-requires-clause-new : goal.stage_definition-requires-clause-new
stage_definition-requires-clause-new g c =
    ap (λ h. is_some (finmap.get h.present.relations c.in_ok-name.name)) c.new-tables.ensures ∙ ap is_some (finmap.get-empty bytes_cmp c.in_ok-name.name)

pub stage_definition-requires-clause-held : goal.stage_definition-requires-clause-held
stage_definition-requires-clause-held g c = ap (λ h. h.held) c.new-tables.ensures

pub invariant_of-result : goal.invariant_of-result
invariant_of-result g c =
    let t = c.in_ok-name.name in
    let there =
    ap (λ h. is_some (finmap.get h.next.relations t)) c.in_ok-stage_definition.ensures.ok ∙ there_new (t, c.in_ok-columns.columns) [] c.new-tables.result.present in
    let free = ap (λ h. h.held) c.settle.ensures ∙ ap (λ h. h.held) c.in_ok-stage_definition.ensures.ok ∙ ap (λ h. h.held) c.new-tables.ensures in
    record {
      present = ap (λ h. is_some (finmap.get h.present.relations t)) c.settle.ensures ∙ there;
      next = ap (λ h. is_some (finmap.get h.next.relations t)) c.settle.ensures ∙ there;
      held = ap is_some free;
      before = there_never c.settle.new.self.held t free;
    }
