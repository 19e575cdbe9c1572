use Rattle.std.proofs.Common.{◌∙◌, Some, ap, subst, sym, filter}
use Rattle.plain_values.proofs.Common.{IsStrictlySortedBy, IsStrictlySortedBy-filter, row_cmp, Row}
use Rattle.plain_values.specs.SortedSet as set
use Rattle.lens_specs.specs.Common.{at, same_value}
use Rattle.fd_laws.proofs.Common.{row_exact, row_total}
use Rattle.signed_delta.proofs.Differences.{items_rise}
use Rattle.find_rows.proofs.finding.with_value.Goals as goal

pub from_rising-requires : goal.from_rising-requires
from_rising-requires c =
    let p = λ (row : Row). same_value (Some c.args.value.now) (at row c.args.col.now) in
    subst (IsStrictlySortedBy row_cmp) (sym (c.in_ok-some.ensures ∙ ap (filter p) c.into_rows.ensures)) (IsStrictlySortedBy-filter row_cmp p (set.items c.args.rows) (items_rise c.args.rows))

pub returns : goal.returns
returns c =
    let p = λ (row : Row). same_value (Some c.args.value.now) (at row c.args.col.now) in
    c.from_rising.ensures ∙ ap set.from_list (c.in_ok-some.ensures ∙ ap (filter p) c.into_rows.ensures) ∙ set.from_list-filter row_total row_exact p c.args.rows
