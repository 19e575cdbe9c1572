use Rattle.std.proofs.Common.{sym, ap, ◌∙◌, find, option_map, Ok}
use Rattle.plain_values.proofs.Common.{get, is_other_kind}
use Rattle.lens_values.specs.Unions.{union_from}
use Rattle.plain_values.proofs.ColumnsLemmas.{clash_is}
use Rattle.lens_values.proofs.columns.Columns.union.Goals as goal

pub returns-in-Some-clause-gives : goal.returns-in-Some-clause-gives
returns-in-Some-clause-gives c = λ _.
    ap (λ o. union_from o c.args.self.now c.args.other.now)
    (sym (c.in-Some.ensures ∙ ap (λ es. option_map (λ e. e.0) (find (λ e. is_other_kind (get c.args.other.now e.0) e.1) es)) c.pairs.ensures ∙ clash_is c.args.self.now c.args.other.now))

pub returns-in_ok-put_over-in-None-clause-gives : goal.returns-in_ok-put_over-in-None-clause-gives
returns-in_ok-put_over-in-None-clause-gives c =
    ap (λ o. union_from o c.args.self.now c.args.other.now)
    (sym (c.in-None.ensures ∙ ap (λ es. option_map (λ e. e.0) (find (λ e. is_other_kind (get c.args.other.now e.0) e.1) es)) c.pairs.ensures ∙ clash_is c.args.self.now c.args.other.now))
    ∙ sym (ap Ok c.in_ok-put_over-in-None.ensures)

pub returns-in_ok-put_over-in-None-clause-alike : goal.returns-in_ok-put_over-in-None-clause-alike
returns-in_ok-put_over-in-None-clause-alike c =
    sym (c.in-None.ensures ∙ ap (λ es. option_map (λ e. e.0) (find (λ e. is_other_kind (get c.args.other.now e.0) e.1) es)) c.pairs.ensures ∙ clash_is c.args.self.now c.args.other.now)
