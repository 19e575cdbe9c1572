use Rattle.std.proofs.Common.{ap, sym, ◌∙◌, subst, ◌++◌, ◌∷◌, []}
use Rattle.plain_values.proofs.Common.{IsStrictlySortedBy, row_cmp}
use Rattle.key_index.proofs.Members.{one_rises}
use Rattle.key_index.proofs.group.set_of_one.Goals as goal

pub from_rising-requires : goal.from_rising-requires
from_rising-requires c =
    subst (IsStrictlySortedBy row_cmp) (sym (c.in_ok-push.ensures.items ∙ ap (λ rows. rows ++ c.in_ok-copy.field-0 ∷ []) c.in_ok-rows.ensures.items))
    (one_rises c.in_ok-copy.field-0)
