-- Rows that have the columns of a look-up.
use Rattle.std.proofs.Common.{◌≡◌, ◌∙◌, ap, cond, is_some, sym, None}
use Rattle.plain_values.proofs.Common.{and_parts, restrict, Row}
use Rattle.plain_values.specs.SortedSet as set
use Rattle.lens_specs.specs.Common.{Names, at, cut}
use Rattle.fd_laws.proofs.Common.{name_total, at-cut, cut_column}
use Rattle.signed_delta.specs.Keys.{HasColumns, IsKey}

-- a row's part in columns that it has is a key of them
pub part_is_key : (C : Names) (r part : Row) → HasColumns C r → part ≡ restrict C r → IsKey C part
unfolding cut
part_is_key C r part have is c = ap (λ k. is_some (at k c)) is ∙ ap is_some (at-cut C r c) ∙ cut_column C c (at r c) (have c)

-- and it has the columns of a part that is one
pub has_as_part : (C : Names) (r : Row) → IsKey C (restrict C r) → HasColumns C r
unfolding cut
has_as_part C r over c i = ap is_some (sym (at-cut C r c ∙ ap (λ b. cond b (at r c) None) i)) ∙ over c ∙ i

-- it has those of them that are among others
pub has_shared : (C U P : Names) (r : Row) → P ≡ set.intersection C U → HasColumns C r → HasColumns P r
has_shared C U P r is have c i = have c (and_parts _ _ (sym (ap (λ Q. set.contains Q c) is ∙ set.contains-intersection name_total C U c) ∙ i)).0
