use Rattle.std.proofs.Common.{◌≡◌, ◌∙◌, ◌++◌, ◌∷◌, [], None, append_assoc, ap, length, refl, subst, sym}
use Rattle.plain_values.proofs.Common.{into_iter_items}
use Rattle.server_specs.specs.Common.{catalogue, first_refused, judged}
use Rattle.grammar_laws.specs.Reading.{reading}
use Rattle.view_catalog.specs.Faults.{IsRefused}
use Rattle.database_opening.specs.Openings.{HasTables}
use Rattle.database_opening.proofs.Admitted.{empty_at_first, no_names, refused_told}
use Rattle.database_opening.proofs.definitions.admit_all.Goals as goal

pub loop-text-init : goal.loop-text-init
loop-text-init g c = record {
  texts = c.new.ensures;
  names = subst (HasTables (catalogue [])) (sym c.new-2.ensures.items) no_names;
  empty = empty_at_first _ c.new.ensures c.new-3.ensures;
  walked = refl;
  whole = c.into_iter-text-iterator.ensures.into_iter_gives.0;
}

pub loop-text-preserved : goal.loop-text-preserved
loop-text-preserved g c =
    let text = c.in-Some.text in
    let before = c.loop-text.yielded in
    let left = c.loop-text.invariant in
    let done = c.in_default.ensures {u = c.in_default.field-0} in
    let texts : c.admit.new.admitted.catalog.texts ≡ before ++ text ∷ [] = done.texts ∙ ap (λ ts. ts ++ text ∷ []) left.texts in
    record {
      texts = texts;
      names = subst (λ ts. HasTables (catalogue ts) c.admit.new.admitted.names.items) texts
          (done.names (subst (λ ts. HasTables (catalogue ts) c.loop-text.admitted.names.items) (sym left.texts) left.names));
      empty = done.empty;
      walked = c.admit.ensures.walked ∙ left.walked;
      whole = append_assoc before (text ∷ []) (into_iter_items c.next.new.self) ∙ ap (λ ts. before ++ ts) (sym c.in-Some.ensures.steps.0) ∙ left.whole;
    }

pub returns-in-Err-clause-admitted : goal.returns-in-Err-clause-admitted
returns-in-Err-clause-admitted g c =
    let text = c.in-Some.text in
    let before = c.loop-text.yielded in
    let left = c.loop-text.invariant in
    refused_told (length c.definitions-place.result.now) c.in-Err.why c.refused_at.result before c.args.definitions.items (into_iter_items c.next.new.self) text c.refused_at.ensures
    (ap length (c.definitions-place.ensures.texts ∙ left.texts)) (subst (λ ts. first_refused ts ≡ None) left.texts left.empty.taken)
    (subst (λ ts. IsRefused c.in-Err.why (judged (catalogue ts) (reading text))) left.texts c.in-Err.ensures.err)
    (sym left.whole ∙ ap (λ ts. before ++ ts) c.in-Some.ensures.steps.0)
