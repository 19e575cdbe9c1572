use Rattle.std.proofs.Common.{◌≡◌, ◌∙◌, ◌++◌, ◌∷◌, [], ap, append_assoc, map, option_map, sym, Some}
use Rattle.plain_values.proofs.Common.{map-append, into_iter_items}
use Rattle.borrowed_json.specs.Meaning.{items_data}
use Rattle.server_specs.specs.Common.{each_edit}
use Rattle.request_reading.specs.Edits.{edit_view}
use Rattle.request_reading.proofs.Batched.{edits_none, edits_push}
use Rattle.request_reading.proofs.batches.edits_of.Goals as goal

pub loop-json-preserved : goal.loop-json-preserved
loop-json-preserved c = record {
  seam =
      c.loop-json.invariant.seam ∙ ap (λ l. c.loop-json.yielded ++ l) c.in-Some.ensures.steps.0
      ∙ sym (append_assoc c.loop-json.yielded (c.in-Some.json ∷ []) (into_iter_items c.next.new.self));
  so_far =
      edits_push c.loop-json.yielded c.in-Some.json (edit_view c.in-Some-edit_of.edit) (sym c.edit_of.ensures ∙ ap (option_map edit_view) c.in-Some-edit_of.is)
      (map edit_view c.loop-json.edits.items) c.loop-json.invariant.so_far
      ∙ ap Some (sym (ap (map edit_view) c.in_ok-push-in-Some-edit_of.ensures.items ∙ map-append edit_view c.loop-json.edits.items (c.in-Some-edit_of.edit ∷ [])));
}

pub returns-in-None-edit_of : goal.returns-in-None-edit_of
returns-in-None-edit_of c =
    let rest = into_iter_items c.next.new.self in
    let items : c.args.list.items ≡ c.loop-json.yielded ++ c.in-Some.json ∷ rest = c.loop-json.invariant.seam ∙ ap (λ l. c.loop-json.yielded ++ l) c.in-Some.ensures.steps.0 in
    sym (ap (λ l. each_edit (items_data l)) items
    ∙ edits_none c.loop-json.yielded c.in-Some.json rest (sym c.edit_of.ensures ∙ ap (option_map edit_view) c.in-None-edit_of.is))
