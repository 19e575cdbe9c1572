use Rattle.std.proofs.Common.{◌∙◌, ap, subst, sym, filter, Bool}
use Rattle.plain_values.proofs.Common.{IsStrictlySortedBy, IsStrictlySortedBy-filter, restrict, row_cmp, Row, row_cmp_total, row_cmp-IsAntisymmetric, keys_rise}
use Rattle.fd_laws.proofs.Common.{from_those}
use Rattle.plain_values.specs.SortedSet as set
use Rattle.lens_specs.specs.Common.{Fits, names, Relation, has, cut}
use Rattle.whole_put.proofs.joining.joined_to.Goals as goal

-- the test, as it is made
abbrev is_kept : Relation → Row → Bool
is_kept parts w = has parts.rows (restrict (names parts.columns) w)

pub from_rising-kept-requires : goal.from_rising-kept-requires
from_rising-kept-requires c =
    let listed = c.in_ok-with_part.ensures ∙ (λ i. filter (λ w. has (c.rows-3.ensures.rows i) (restrict ((c.in_ok-cols.ensures ∙ ap names c.columns.ensures) i) w)) ((c.rows-2.ensures ∙ ap set.items c.rows.ensures.rows) i)) in
    subst (IsStrictlySortedBy row_cmp) (sym listed) (IsStrictlySortedBy-filter row_cmp _ _ (keys_rise row_cmp c.args.rows.now.rows))

pub with_rows-requires : goal.with_rows-requires
with_rows-requires c = λ row there.
    let p = is_kept c.args.parts.now in
    let M = c.args.rows.now.rows in
    let listed = c.in_ok-with_part.ensures ∙ (λ i. filter (λ w. has (c.rows-3.ensures.rows i) (restrict ((c.in_ok-cols.ensures ∙ ap names c.columns.ensures) i) w)) ((c.rows-2.ensures ∙ ap set.items c.rows.ensures.rows) i)) in
    let kept = c.from_rising-kept.ensures ∙ ap set.from_list listed ∙ set.from_list-filter row_cmp_total row_cmp-IsAntisymmetric p M in
    subst (λ U. Fits U row) (sym (c.in_ok-copy.ensures ∙ c.columns-2.ensures))
    (c.rows.ensures.fit row (from_those p M row (ap (λ R. set.contains R row) (sym kept) ∙ there)).0)

pub returns : goal.returns
unfolding cut
returns c =
    let p = is_kept c.args.parts.now in
    let listed = c.in_ok-with_part.ensures ∙ (λ i. filter (λ w. has (c.rows-3.ensures.rows i) (restrict ((c.in_ok-cols.ensures ∙ ap names c.columns.ensures) i) w)) ((c.rows-2.ensures ∙ ap set.items c.rows.ensures.rows) i)) in
    let kept = c.from_rising-kept.ensures ∙ ap set.from_list listed ∙ set.from_list-filter row_cmp_total row_cmp-IsAntisymmetric p c.args.rows.now.rows in
    c.with_rows.ensures ∙ (λ i. record { columns = (c.in_ok-copy.ensures ∙ c.columns-2.ensures) i; rows = kept i })
