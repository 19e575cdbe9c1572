use Rattle.std.proofs.Common.{sym, ◌∙◌}
use Rattle.plain_values.proofs.Common.{eq_by_cmp, list_any-IsPermutation, row_cmp}
use Rattle.row_sets.proofs.row_set.sorted.Goals as goal

pub returns-clause-members : goal.returns-clause-members
returns-clause-members c row =
    c.each_once.ensures.members row
    ∙ sym (list_any-IsPermutation (eq_by_cmp row_cmp row) _ _ c.sort.ensures.permutation)
