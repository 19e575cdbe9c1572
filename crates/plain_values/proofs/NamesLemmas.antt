-- Sets with the same names are one.
use Rattle.std.proofs.Common.{◌≡◌, ℕ, true, List, sym, ap, ◌∙◌, subst, nat_eq}
use Rattle.std.proofs.lemmas.Bool.{and_parts, and_from}
use Rattle.std.specs.Cmp.Lexicographic.{nat_list_cmp_total, pointwise, pointwise_decides, bytes_decides}
use Rattle.plain_values.specs.Names.{Names, same_names}
use Rattle.plain_values.specs.SortedSet as set
use Rattle.plain_values.proofs.Maps.{exact}
use Rattle.plain_values.proofs.Tests.{same_bool}

-- sets with the same names are one
pub same_is : (X Y : Names) → same_names X Y ≡ true → X ≡ Y
same_is X Y h =
    let w = and_parts _ _ h in
    set.same_set nat_list_cmp_total exact X Y (λ c. same_bool _ _ (set.is_subset-contains nat_list_cmp_total X Y w.0 c) (set.is_subset-contains nat_list_cmp_total Y X w.1 c))

pub same_itself : (X : Names) → same_names X X ≡ true
same_itself X = let own = set.contains-is_subset nat_list_cmp_total X X (λ c i. i) in and_from _ _ own own

-- lists with the same names are those of one set
pub same_lists : (X Y : Names) (xs ys : List (List ℕ)) → xs ≡ set.items X → ys ≡ set.items Y → pointwise (pointwise nat_eq) xs ys ≡ same_names X Y
same_lists X Y xs ys p q =
    (λ i. pointwise (pointwise nat_eq) (p i) (q i))
    ∙ same_bool _ _
    (λ t.
    let e = (pointwise_decides bytes_decides (set.items X) (set.items Y)).0 t in
    let is : X ≡ Y = sym (set.from_list-items nat_list_cmp_total exact X) ∙ ap set.from_list e ∙ set.from_list-items nat_list_cmp_total exact Y in
    subst (λ Z. same_names X Z ≡ true) is (same_itself X))
    (λ t. (pointwise_decides bytes_decides (set.items X) (set.items Y)).1 (ap set.items (same_is X Y t)))
