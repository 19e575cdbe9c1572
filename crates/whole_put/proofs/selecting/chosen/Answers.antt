use Rattle.std.proofs.Common.{◌∙◌, sym, ap, subst, filter}
use Rattle.plain_values.proofs.Common.{IsStrictlySortedBy, IsStrictlySortedBy-filter, row_cmp, row_cmp_total, row_cmp-IsAntisymmetric, keys_rise}
use Rattle.plain_values.specs.SortedSet as set
use Rattle.whole_put.specs.Shows.{is_shown}
use Rattle.whole_put.proofs.selecting.chosen.Goals as goal

pub from_rising-requires : goal.from_rising-requires
from_rising-requires c =
    subst (IsStrictlySortedBy row_cmp) (sym (c.in_ok-picked.ensures ∙ ap (filter (is_shown c.args.pred.now c.args.shown)) c.rows.ensures))
    (IsStrictlySortedBy-filter row_cmp _ _ (keys_rise row_cmp c.args.rows.now))

pub returns : goal.returns
returns c =
    c.from_rising.ensures
    ∙ ap set.from_list (c.in_ok-picked.ensures ∙ ap (filter (is_shown c.args.pred.now c.args.shown)) c.rows.ensures)
    ∙ set.from_list-filter row_cmp_total row_cmp-IsAntisymmetric (is_shown c.args.pred.now c.args.shown) c.args.rows.now
