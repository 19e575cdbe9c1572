use Rattle.std.proofs.Common.{◌≡◌, ◌∙◌, ◌∷◌, ◌+◌, ◌≤◌, ap, length, map, subst, sym, refl, rules, arith}
use Rattle.plain_values.proofs.Common.{into_iter_items}
use Rattle.edit_batches.specs.Chains.{Chain}
use Rattle.edit_batches.specs.Histories.{deltas_of}
use Rattle.request_text.specs.Edits.{edit_view}
use Rattle.server_specs.specs.Common.{edits_from}
use Rattle.lens_server.specs.Counting.{batch_looks}
use Rattle.database.specs.States.{state_of}
use Rattle.lens_server.proofs.BatchSteps.{batch_stopped, edits_made, entries_more, holding_itself, holding_on, looks_made, looks_within, one_longer}
use Rattle.lens_server.proofs.batches.make_edits.Goals as goal

pub loop-edit-init : goal.loop-edit-init
loop-edit-init g c =
    let old = c.args.database.now in let s = state_of old in let db = old.tables.present.relations in
    let items : map edit_view (into_iter_items c.into_iter-edit-iterator.result) ≡ c.args.edits = ap (map edit_view) c.into_iter-edit-iterator.ensures.into_iter_gives.0 ∙ c.into_list-edit-items.ensures in
    record {
      holding = holding_itself old c.requires;
      left = (λ i. edits_from (length (sym c.new-entries.ensures.items i)) c.args.on s (sym items i) db);
      made = subst (λ l. Chain (map deltas_of l) db db) (sym c.new-entries.ensures.items) refl;
      looked = subst (λ l. c.args.looked.now + batch_looks c.args.on s l db ≤ c.args.looked.now + batch_looks c.args.on s c.args.edits db) (sym items) (omega arith);
    }

pub make_edit-requires : goal.make_edit-requires
make_edit-requires g c = c.loop-edit.invariant.holding.can

pub loop-edit-preserved : goal.loop-edit-preserved
loop-edit-preserved g c =
    let old = c.args.database.now in let s = state_of old in let now = c.loop-edit.database in let new = c.make_edit.new.database in
    let h = c.loop-edit.invariant in
    let on = c.args.on in
    let e = edit_view c.in-Some.edit in
    let rest = map edit_view (into_iter_items c.next.new.self) in
    let items : map edit_view (into_iter_items c.loop-edit.edit-iterator) ≡ e ∷ rest = ap (map edit_view) c.in-Some.ensures.steps.0 in
    let k = length c.loop-edit.entries.items in
    let made = c.in-Ok.ensures.made in
    record {
      holding = holding_on old now new h.holding c.make_edit.ensures.holding;
      left = h.left ∙ ap (λ l. edits_from k on s l now.tables.present.relations) items
          ∙ edits_made old now k (length c.push.new.self.items) on e rest new.tables.present.relations h.holding made.0
          (one_longer c.loop-edit.entries.items c.push.new.self.items c.in-Ok.entry c.in_ok-push-in-Ok.ensures.items);
      made = entries_more c.loop-edit.entries.items c.push.new.self.items c.in-Ok.entry old.tables.present.relations now.tables.present.relations new.tables.present.relations c.in_ok-push-in-Ok.ensures.items h.made made.1;
      looked =
          looks_made old now on e rest new.tables.present.relations c.loop-edit.looked c.make_edit.new.looked (c.args.looked.now + batch_looks on s c.args.edits old.tables.present.relations) h.holding made.0
          (subst (λ l. c.loop-edit.looked + batch_looks on s l now.tables.present.relations ≤ c.args.looked.now + batch_looks on s c.args.edits old.tables.present.relations) items h.looked)
          c.make_edit.ensures.looked;
    }

pub returns-in-Err-clause-made : goal.returns-in-Err-clause-made
returns-in-Err-clause-made g c =
    let old = c.args.database.now in let now = c.loop-edit.database in
    let h = c.loop-edit.invariant in
    let e = edit_view c.in-Some.edit in
    let rest = map edit_view (into_iter_items c.next.new.self) in
    let items : map edit_view (into_iter_items c.loop-edit.edit-iterator) ≡ e ∷ rest = ap (map edit_view) c.in-Some.ensures.steps.0 in
    let k = length c.loop-edit.entries.items in
    let long : c.len.result ≡ k = c.len.ensures ∙ search rules in
    batch_stopped old now c.make_edit.new.database k c.len.result c.args.on e rest c.args.edits c.in-Err.refusal c.fault_at.result h.holding
    (h.left ∙ ap (λ l. edits_from k c.args.on (state_of old) l now.tables.present.relations) items) long c.in-Err.ensures.made c.fault_at.ensures

pub returns-in-Err-clause-holding : goal.returns-in-Err-clause-holding
returns-in-Err-clause-holding g c = holding_on c.args.database.now c.loop-edit.database c.make_edit.new.database c.loop-edit.invariant.holding c.make_edit.ensures.holding

pub returns-in-Err-clause-looked : goal.returns-in-Err-clause-looked
returns-in-Err-clause-looked g c =
    let old = c.args.database.now in let s = state_of old in let now = c.loop-edit.database in
    let h = c.loop-edit.invariant in
    let e = edit_view c.in-Some.edit in
    let rest = map edit_view (into_iter_items c.next.new.self) in
    let items : map edit_view (into_iter_items c.loop-edit.edit-iterator) ≡ e ∷ rest = ap (map edit_view) c.in-Some.ensures.steps.0 in
    looks_within old now c.args.on e rest c.loop-edit.looked c.make_edit.new.looked (c.args.looked.now + batch_looks c.args.on s c.args.edits old.tables.present.relations) h.holding
    (subst (λ l. c.loop-edit.looked + batch_looks c.args.on s l now.tables.present.relations ≤ c.args.looked.now + batch_looks c.args.on s c.args.edits old.tables.present.relations) items h.looked)
    c.make_edit.ensures.looked
