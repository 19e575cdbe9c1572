use Rattle.std.proofs.Common.{refl, ap, ◌∙◌}
use Rattle.plain_values.proofs.Common.{list_any, eq_by_cmp, is_eq, alike_right, Equal-is, dedup_is, IsStrictlySortedBy-dedup, row_cmp, row_cmp_total}
use Rattle.lens_values.proofs.Dedup.{list_any-dedup}
use Rattle.row_sets.proofs.row_set.each_once.Goals as goal

pub returns-clause-order : goal.returns-clause-order
returns-clause-order c =
    rw (dedup_is (eq_by_cmp row_cmp) _ _ c.dedup.ensures.filtered)
    (IsStrictlySortedBy-dedup row_cmp_total (λ _ _. refl) _ c.requires)

pub returns-clause-members : goal.returns-clause-members
returns-clause-members c row =
    ap (list_any (eq_by_cmp row_cmp row)) (dedup_is (eq_by_cmp row_cmp) _ _ c.dedup.ensures.filtered)
    ∙ list_any-dedup (eq_by_cmp row_cmp) (eq_by_cmp row_cmp row)
    (λ y z e. ap is_eq (alike_right row_cmp_total y z row ((Equal-is (row_cmp y z)).0 e)))
    c.args.rows.items
