-- Laws of names and of sets of them.
use Rattle.std.proofs.Common.{◌≡◌, Bool, true, false, not, ◌&&◌, refl, sym, ap, ◌∙◌, inl, inr, nat_eq}
use Rattle.plain_values.proofs.Common.{cases_Bool, and_parts, and_from, or_cases, or_from, not-true, not_from_false, true≢false, eqb-true, or_left, or_right, exact_bytes, IsTotalOrder, tied_itself, Equal-is, nat_list_cmp_total, eq_by_cmp, is_eq, bytes_cmp}
use Rattle.plain_values.specs.SortedSet as set
use Rattle.lens_specs.specs.Common.{Name, Names, Disjoint, Within, one}

pub name_total : IsTotalOrder bytes_cmp
name_total = nat_list_cmp_total

pub name_exact : set.IsAntisymmetric bytes_cmp
name_exact = exact_bytes

pub tied_name : (q x : Name) → eq_by_cmp bytes_cmp q x ≡ true → q ≡ x
tied_name q x e = name_exact q x ((Equal-is (bytes_cmp q x)).0 e)

pub name_itself : (q : Name) → eq_by_cmp bytes_cmp q q ≡ true
name_itself q = ap is_eq (tied_itself name_total q)

-- the set of one name
pub one_itself : (A : Name) → set.contains (one A) A ≡ true
one_itself A = set.contains-insert name_total set.empty A A ∙ or_left _ _ (name_itself A)

pub one_is : (A c : Name) → set.contains (one A) c ≡ true → c ≡ A
one_is A c i = elim (cases_Bool (eq_by_cmp bytes_cmp c A)) [
  | inl t ↦ tied_name c A t
  | inr f ↦ absurd (true≢false (sym i ∙ set.contains-insert name_total set.empty A c ∙ or_from _ _ f (set.contains-empty bytes_cmp c)))
]

pub in_rest : (U C : Names) (c : Name) → set.contains U c ≡ true → set.contains C c ≡ false → set.contains (set.difference U C) c ≡ true
in_rest U C c i o = set.contains-difference name_total U C c ∙ and_from _ _ i (not_from_false _ o)

pub from_rest : (U C : Names) (c : Name) → set.contains (set.difference U C) c ≡ true → (set.contains U c ≡ true) × (set.contains C c ≡ false)
from_rest U C c i = let w = and_parts _ _ (sym (set.contains-difference name_total U C c) ∙ i) in (w.0, not-true _ w.1)

pub rest_same : (U C : Names) (c : Name) → set.contains C c ≡ false → set.contains (set.difference U C) c ≡ set.contains U c
rest_same U C c o = set.contains-difference name_total U C c ∙ ap (λ b. set.contains U c && not b) o ∙ and_true _
  where
    and_true : (b : Bool) → (b && true) ≡ b
    and_true true = refl
    and_true false = refl

pub rest_out : (U C : Names) (c : Name) → set.contains C c ≡ true → set.contains (set.difference U C) c ≡ false
rest_out U C c o = set.contains-difference name_total U C c ∙ ap (λ b. set.contains U c && not b) o ∙ and_false _
  where
    and_false : (b : Bool) → (b && false) ≡ false
    and_false true = refl
    and_false false = refl

pub none_of_len : (Y : Names) (c : Name) → nat_eq (set.len Y) 0 ≡ true → set.contains Y c ≡ false
none_of_len Y c e = ap (λ s. set.contains s c) (set.empty_of_len Y (eqb-true _ _ e)) ∙ set.contains-empty bytes_cmp c

pub subset_is : (X C : Names) → set.is_subset X C ≡ true → Within X C
subset_is X C h = set.is_subset-contains name_total X C h

pub subset_from : (X C : Names) → Within X C → set.is_subset X C ≡ true
subset_from X C h = set.contains-is_subset name_total X C h

pub within_trans : (X Y Z : Names) → Within X Y → Within Y Z → Within X Z
within_trans X Y Z h k c i = k c (h c i)

pub union_left : (X Y : Names) → Within X (set.union X Y)
union_left X Y c i = set.contains-union name_total X Y c ∙ or_left _ _ i

pub union_right : (X Y : Names) → Within Y (set.union X Y)
union_right X Y c i = set.contains-union name_total X Y c ∙ or_right _ _ i

pub union_within : (X Y D : Names) → Within X D → Within Y D → Within (set.union X Y) D
union_within X Y D h k c i = elim (or_cases _ _ (sym (set.contains-union name_total X Y c) ∙ i)) [ inl j ↦ h c j | inr j ↦ k c j ]

-- a tree with a column taken out that no edge reads is a tree
pub apart_rest : (X Y C : Names) → Disjoint X Y → Disjoint X (set.difference Y C)
apart_rest X Y C h c i = elim (cases_Bool (set.contains (set.difference Y C) c)) [
  | inl y ↦ absurd (true≢false (sym (from_rest Y C c y).0 ∙ h c i))
  | inr z ↦ z
]

pub rest_apart : (X Y C : Names) → Disjoint Y X → Disjoint (set.difference Y C) X
rest_apart X Y C h c i = h c (from_rest Y C c i).0

pub apart_back : (X Y : Names) → Disjoint X Y → (c : Name) → set.contains Y c ≡ true → set.contains X c ≡ false
apart_back X Y h c i = elim (cases_Bool (set.contains X c)) [
  | inl y ↦ absurd (true≢false (sym i ∙ h c y))
  | inr z ↦ z
]

pub apart_fewer : (X Y Z : Names) → Within Z Y → Disjoint X Y → Disjoint X Z
apart_fewer X Y Z w h c i = elim (cases_Bool (set.contains Z c)) [ inl t ↦ absurd (true≢false (sym (w c t) ∙ h c i)) | inr f ↦ f ]

pub apart_union : (X Y Z : Names) → Disjoint X Y → Disjoint X Z → Disjoint X (set.union Y Z)
apart_union X Y Z h k c i = set.contains-union name_total Y Z c ∙ or_from _ _ (h c i) (k c i)

module _ (U V : Names) where
  pub in_shared : (c : Name) → set.contains U c ≡ true → set.contains V c ≡ true → set.contains (set.intersection U V) c ≡ true
  in_shared c i j = set.contains-intersection name_total U V c ∙ and_from _ _ i j

  pub from_shared : (c : Name) → set.contains (set.intersection U V) c ≡ true → (set.contains U c ≡ true) × (set.contains V c ≡ true)
  from_shared c i = and_parts _ _ (sym (set.contains-intersection name_total U V c) ∙ i)

  pub in_left : (c : Name) → set.contains U c ≡ true → set.contains (set.union U V) c ≡ true
  in_left c i = set.contains-union name_total U V c ∙ or_left _ _ i

  pub in_right : (c : Name) → set.contains V c ≡ true → set.contains (set.union U V) c ≡ true
  in_right c i = set.contains-union name_total U V c ∙ or_right _ _ i

  pub in_neither : (c : Name) → set.contains U c ≡ false → set.contains V c ≡ false → set.contains (set.union U V) c ≡ false
  in_neither c i j = set.contains-union name_total U V c ∙ or_from _ _ i j
