-- Rows that agree have the same in each column, and the same parts.
use Rattle.std.proofs.Common.{◌≡◌, ℕ, List, ap, sym, ◌∙◌, refl, true, false, cond, Some, None, Option}
use Rattle.std.specs.Cmp.{tied_itself}
use Rattle.std.specs.Cmp.Lexicographic.{nat_list_cmp_total}
use Rattle.std.specs.Ordering.{eq_by_cmp, is_eq}
use Rattle.std.specs.FinMap as map
use Rattle.std.proofs.lemmas.Map.Lookups.{exact_bytes}
use Rattle.plain_values.specs.Names.{Names}
use Rattle.plain_values.specs.Order.{bytes_cmp}
use Rattle.plain_values.specs.Part.{restrict}
use Rattle.plain_values.specs.Row.{Row, agree, row_cmp}
use Rattle.plain_values.specs.RowOrder.{row_cmp_total, row_cmp-IsAntisymmetric}
use Rattle.plain_values.specs.SortedSet as set
use Rattle.plain_values.specs.Value.{same_value, value_cmp}
use Rattle.plain_values.specs.ValueOrder.{value_cmp_total, value_cmp-IsAntisymmetric}
use Rattle.plain_values.specs.declared.value.Value.{Value}
use Rattle.plain_values.proofs.Lists.{all_at, all_from}
use Rattle.plain_values.proofs.Tests.{is_tie, same_bool}

abbrev Name : Type 0
Name = List ℕ

tied : (q x : Name) → eq_by_cmp bytes_cmp q x ≡ true → q ≡ x
tied q x e = exact_bytes q x (is_tie (bytes_cmp q x) e)

itself : (q : Name) → eq_by_cmp bytes_cmp q q ≡ true
itself q = ap is_eq (tied_itself nat_list_cmp_total q)

pub same_value-is : (x y : Option Value) → same_value x y ≡ true → x ≡ y
same_value-is None None e = refl
same_value-is None (Some w) e = cc
same_value-is (Some v) None e = cc
same_value-is (Some v) (Some w) e = ap Some (value_cmp-IsAntisymmetric v w (is_tie (value_cmp v w) e))

pub same_value-refl : (x : Option Value) → same_value x x ≡ true
same_value-refl None = refl
same_value-refl (Some v) = ap is_eq (tied_itself value_cmp_total v)

-- agreement, column by column
pub agree_at : (C : Names) (a b : Row) → agree C a b ≡ true → (c : Name) → set.contains C c ≡ true → map.get a c ≡ map.get b c
unfolding agree
agree_at C a b h c i = same_value-is _ _ (all_at (eq_by_cmp bytes_cmp) tied itself _ (set.items C) h c (sym (set.contains-items C c) ∙ i))

pub agree_from : (C : Names) (a b : Row) → ((c : Name) → set.contains C c ≡ true → map.get a c ≡ map.get b c) → agree C a b ≡ true
unfolding agree
agree_from C a b h = all_from (eq_by_cmp bytes_cmp) tied itself _ (set.items C) (λ c i. rw (h c (set.contains-items C c ∙ i)) (same_value-refl (map.get b c)))

pub get-part : (C : Names) (r : Row) (c : Name) → map.get (restrict C r) c ≡ cond (set.contains C c) (map.get r c) None
get-part C r c = map.get-retain_keys r (set.contains C) c (λ x t. ap (set.contains C) (sym (exact_bytes c x t)))

-- rows that agree have the same parts
pub parts_same : (C : Names) (m n : Row) → agree C m n ≡ true → restrict C n ≡ restrict C m
parts_same C m n h = map.same_map nat_list_cmp_total exact_bytes _ _ (λ c.
    get-part C n c ∙ elim (set.contains C c) as (λ b. set.contains C c ≡ b → cond b (map.get n c) None ≡ cond b (map.get m c) None) [
      | true ↦ λ there. sym (agree_at C m n h c there)
      | false ↦ λ _. refl
    ] refl ∙ sym (get-part C m c))

get_same : (C : Names) (m n : Row) → restrict C n ≡ restrict C m → (c : Name) → set.contains C c ≡ true → map.get m c ≡ map.get n c
get_same C m n e c there =
    let here : (r : Row) → map.get (restrict C r) c ≡ map.get r c = λ r. get-part C r c ∙ ap (λ b. cond b (map.get r c) None) there in
    sym (here m) ∙ ap (λ p. map.get p c) (sym e) ∙ here n

-- rows agree exactly where their parts tie
pub agree_parts : (C : Names) (m n : Row) → is_eq (row_cmp (restrict C n) (restrict C m)) ≡ agree C m n
agree_parts C m n = same_bool _ _
    (λ tie. agree_from C m n (get_same C m n (row_cmp-IsAntisymmetric _ _ (is_tie (row_cmp (restrict C n) (restrict C m)) tie))))
    (λ h. ap (λ p. is_eq (row_cmp p (restrict C m))) (parts_same C m n h) ∙ ap is_eq (tied_itself row_cmp_total (restrict C m)))
