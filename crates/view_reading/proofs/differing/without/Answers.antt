use Rattle.std.proofs.Common.{◌∙◌, ap, rules, filter, not}
use Rattle.plain_values.proofs.Common.{filter_same, IfOk-weaker}
use Rattle.plain_values.specs.SortedSet as set
use Rattle.lens_specs.specs.Common.{has}
use Rattle.fd_laws.proofs.Common.{row_exact, row_total}
use Rattle.signed_delta.proofs.Looks.{missing_are}
use Rattle.view_reading.proofs.differing.without.Goals as goal

pub returns : goal.returns
returns c =
    let kept = filter_same _ (λ r. not (has c.args.known.now r)) _ (λ x b f' k. search rules) _ _ c.retain.ensures.filtered in
    IfOk-weaker c.new.result _ _ (λ rest made.
    made ∙ ap set.from_list (kept ∙ ap (filter (λ r. not (has c.args.known.now r))) c.into_rows-list.ensures)
    ∙ set.from_list-filter row_total row_exact (λ r. not (has c.args.known.now r)) c.args.rows ∙ missing_are c.args.rows c.args.known.now) c.new.ensures
