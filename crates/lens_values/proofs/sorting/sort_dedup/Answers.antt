use Rattle.std.proofs.Common.{sym, ap, ◌∙◌}
use Rattle.plain_values.proofs.Common.{list_any, eq_by_cmp, is_eq, alike_right, Equal-is, dedup_is, IsStrictlySortedBy-dedup, list_any-IsPermutation}
use Rattle.lens_values.proofs.Dedup.{list_any-dedup}
use Rattle.lens_values.proofs.sorting.sort_dedup.Goals as goal

pub returns-clause-order : goal.returns-clause-order
returns-clause-order g c =
    rw (dedup_is g.T.PartialEq.eq _ _ c.dedup.ensures.filtered)
    (IsStrictlySortedBy-dedup g.met.T.Ord.total g.met.T.Ord.matches_eq _ c.sort_unstable.ensures.sorted)

pub returns-clause-members : goal.returns-clause-members
returns-clause-members g c = λ x.
    ap (list_any (eq_by_cmp g.T.Ord.cmp x)) (dedup_is g.T.PartialEq.eq _ _ c.dedup.ensures.filtered)
    ∙ list_any-dedup g.T.PartialEq.eq (eq_by_cmp g.T.Ord.cmp x)
    (λ y z e. ap is_eq (alike_right g.met.T.Ord.total y z x ((Equal-is (g.T.Ord.cmp y z)).0 (sym (g.met.T.Ord.matches_eq y z) ∙ e))))
    c.sort_unstable.new.self.items
    ∙ sym (list_any-IsPermutation (eq_by_cmp g.T.Ord.cmp x) _ _ c.sort_unstable.ensures.permutation)
