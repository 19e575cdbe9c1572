use Rattle.std.proofs.Common.{ap, sym, ◌∙◌, subst}
use Rattle.lens_specs.specs.Common.{Applies, new_view, Fits}
use Rattle.base_index.specs.Parts.{IsWhole, Keeps, parts_of, rows_next, rows_seen}
use Rattle.base_index.proofs.Bodies.{kept_itself}
use Rattle.key_index.proofs.Common.{on_ok}
use Rattle.base_index.proofs.body.Body.list.Goals as goal

pub list_rows-requires-clause-whole : goal.list_rows-requires-clause-whole
list_rows-requires-clause-whole c = subst IsWhole (sym c.in_ok-reserve.ensures) c.requires.whole

pub list_rows-requires-clause-quiet : goal.list_rows-requires-clause-quiet
list_rows-requires-clause-quiet c = ap rows_next c.in_ok-reserve.ensures ∙ c.requires.quiet ∙ sym (ap rows_seen c.in_ok-reserve.ensures)

pub list_rows-requires-clause-applies : goal.list_rows-requires-clause-applies
list_rows-requires-clause-applies c = subst (λ p. Applies c.args.delta.now (rows_seen p)) (sym c.in_ok-reserve.ensures) c.requires.applies

pub list_rows-requires-clause-fits : goal.list_rows-requires-clause-fits
list_rows-requires-clause-fits c = λ row there. subst (λ p. Fits p.columns row) (sym c.in_ok-reserve.ensures) (c.requires.fits row there)

pub returns-in_err-reserve-clause-whole : goal.returns-in_err-reserve-clause-whole
returns-in_err-reserve-clause-whole c = subst IsWhole (sym c.in_err-reserve.ensures) c.requires.whole

pub returns-in_err-reserve-clause-kept : goal.returns-in_err-reserve-clause-kept
returns-in_err-reserve-clause-kept c = subst (Keeps (parts_of c.args.self.now)) (sym c.in_err-reserve.ensures) (kept_itself (parts_of c.args.self.now))

pub returns-clause-next : goal.returns-clause-next
returns-clause-next c =
    on_ok c.list_rows.result (λ is. is ∙ ap (λ p. new_view (rows_seen p) c.args.delta.now) c.in_ok-reserve.ensures) c.list_rows.ensures.next

pub returns-clause-kept : goal.returns-clause-kept
returns-clause-kept c = subst (λ p. Keeps p (parts_of c.list_rows.new.self)) c.in_ok-reserve.ensures c.list_rows.ensures.kept
