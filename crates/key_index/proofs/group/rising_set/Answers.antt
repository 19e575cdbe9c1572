use Rattle.std.proofs.Common.{ap, sym, ◌∙◌, subst, ◌++◌, ◌∷◌, []}
use Rattle.plain_values.proofs.Common.{IsStrictlySortedBy, row_cmp}
use Rattle.key_index.proofs.Members.{two_rise}
use Rattle.key_index.proofs.group.rising_set.Goals as goal

pub from_rising-requires : goal.from_rising-requires
from_rising-requires c =
    let first = c.in_ok-copy.field-0 in
    let second = c.in_ok-copy-2.field-0 in
    subst (IsStrictlySortedBy row_cmp)
    (sym (c.in_ok-push-2.ensures.items ∙ ap (λ rows. rows ++ second ∷ []) (c.in_ok-push.ensures.items ∙ ap (λ rows. rows ++ first ∷ []) c.in_ok-rows.ensures.items)))
    (two_rise first second (ap (λ row. row_cmp row second) c.in_ok-copy.ensures ∙ ap (λ row. row_cmp c.args.first.now row) c.in_ok-copy-2.ensures ∙ c.requires))
