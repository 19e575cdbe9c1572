-- Laws of rows, by what they have in a column.
use Rattle.std.proofs.Common.{is_some, ◌≡◌, Bool, true, false, cond, ◌||◌, List, [], ◌∷◌, Option, Some, None, refl, sym, ap, ◌∙◌, inl, inr}
use Rattle.plain_values.proofs.Common.{true≢false, cases_Bool, row_cmp_total, row_cmp-IsAntisymmetric, IsTotalOrder, tied_itself, Equal-is, eq_by_cmp, is_eq, list_any, bytes_cmp, Row, row_cmp, same_bool}
use Rattle.std.specs.FinMap as map
use Rattle.plain_values.specs.SortedSet as set
pub use Rattle.plain_values.proofs.Agreement.{agree_at, agree_from, same_value-is, same_value-refl}
use Rattle.fd_laws.proofs.Names.{name_itself, name_total, one_itself, name_exact, tied_name}
use Rattle.lens_specs.specs.Common.{one, Name, Names, Disjoint, Within, at, agree, with_at, paste, cut, paste_list}
use Rattle.plain_values.specs.declared.value.Value.{Value}

pub row_total : IsTotalOrder row_cmp
row_total = row_cmp_total

pub row_exact : set.IsAntisymmetric row_cmp
row_exact = row_cmp-IsAntisymmetric

-- rows that have the same in each column are one
pub same_row : (a b : Row) → ((c : Name) → at a c ≡ at b c) → a ≡ b
same_row = map.same_map name_total name_exact

pub tied_row : (q x : Row) → eq_by_cmp row_cmp q x ≡ true → q ≡ x
tied_row q x e = row_exact q x ((Equal-is (row_cmp q x)).0 e)

pub row_itself : (q : Row) → eq_by_cmp row_cmp q q ≡ true
row_itself q = ap is_eq (tied_itself row_total q)

-- what is in a column after a write, a paste and a cut
pub at-with_at : (r : Row) (k : Name) (v : Option Value) (c : Name) → at (with_at r k v) c ≡ cond (eq_by_cmp bytes_cmp c k) v (at r c)
unfolding with_at
at-with_at r k None c = map.get-remove name_total r k c
at-with_at r k (Some v) c = map.get-insert name_total r k v c

pick : (b d : Bool) (u v w z : Option Value) → (b ≡ true → u ≡ v) → w ≡ cond d v z → cond b u w ≡ cond (b || d) v z
pick true d u v w z h e = h refl
pick false d u v w z h e = e

at-paste_list : (r : Row) (ks : List Name) (l : Row) (c : Name) → at (paste_list r ks l) c ≡ cond (list_any (eq_by_cmp bytes_cmp c) ks) (at l c) (at r c)
unfolding paste_list
at-paste_list r [] l c = refl
at-paste_list r (k ∷ ks) l c = at-with_at (paste_list r ks l) k (at l k) c
    ∙ pick _ _ _ _ _ _ (λ t. ap (at l) (sym (tied_name c k t))) (at-paste_list r ks l c)

pub at-paste : (r : Row) (C : Names) (l : Row) (c : Name) → at (paste r C l) c ≡ cond (set.contains C c) (at l c) (at r c)
unfolding paste
at-paste r C l c = at-paste_list r (set.items C) l c ∙ ap (λ b. cond b (at l c) (at r c)) (sym (set.contains-items C c))

pub at-cut : (C : Names) (r : Row) (c : Name) → at (cut C r) c ≡ cond (set.contains C c) (at r c) None
unfolding cut
at-cut C r c = map.get-retain_keys r (set.contains C) c (λ x t. ap (set.contains C) (sym (name_exact c x t)))

-- agreement is an equivalence
pub agree_itself : (C : Names) (a : Row) → agree C a a ≡ true
agree_itself C a = agree_from C a a (λ c i. refl)

pub agree_back : (C : Names) (a b : Row) → agree C a b ≡ true → agree C b a ≡ true
agree_back C a b h = agree_from C b a (λ c i. sym (agree_at C a b h c i))

pub agree_on : (C : Names) (a b c : Row) → agree C a b ≡ true → agree C b c ≡ true → agree C a c ≡ true
agree_on C a b c h k = agree_from C a c (λ n i. agree_at C a b h n i ∙ agree_at C b c k n i)

pub agree_alike : (C : Names) (a b l : Row) → agree C a b ≡ true → agree C a l ≡ agree C b l
agree_alike C a b l h = same_bool _ _ (λ k. agree_on C b a l (agree_back C a b h) k) (λ k. agree_on C a b l h k)

-- on fewer columns
pub agree_within : (C D : Names) (a b : Row) → Within C D → agree D a b ≡ true → agree C a b ≡ true
agree_within C D a b w h = agree_from C a b (λ c i. agree_at D a b h c (w c i))

-- a paste is like the one pasted there, and like the first elsewhere
pub agree-paste : (m : Row) (C : Names) (l : Row) → agree C (paste m C l) l ≡ true
agree-paste m C l = agree_from C _ l (λ c i. at-paste m C l c ∙ ap (λ b. cond b (at l c) (at m c)) i)

pub at-paste_out : (m : Row) (D : Names) (l : Row) (c : Name) → set.contains D c ≡ false → at (paste m D l) c ≡ at m c
at-paste_out m D l c i = at-paste m D l c ∙ ap (λ b. cond b (at l c) (at m c)) i

pub at-paste_in : (m : Row) (D : Names) (l : Row) (c : Name) → set.contains D c ≡ true → at (paste m D l) c ≡ at l c
at-paste_in m D l c i = at-paste m D l c ∙ ap (λ b. cond b (at l c) (at m c)) i

pub agree-paste_apart : (C : Names) (m : Row) (D : Names) (l : Row) → Disjoint C D → agree C (paste m D l) m ≡ true
agree-paste_apart C m D l apart = agree_from C _ m (λ c i. at-paste_out m D l c (apart c i))

-- a row that has all of l's values there already
pub paste_same : (m : Row) (C : Names) (l : Row) → agree C m l ≡ true → paste m C l ≡ m
paste_same m C l h = same_row _ m (λ c. elim (cases_Bool (set.contains C c)) [
  | inl i ↦ at-paste_in m C l c i ∙ sym (agree_at C m l h c i)
  | inr i ↦ at-paste_out m C l c i
])

pub no_value : (o : Option Value) → is_some o ≡ false → o ≡ None
no_value None e = refl
no_value (Some v) e = absurd (true≢false e)

pub cut_column : (D : Names) (c : Name) (o : Option Value) → (set.contains D c ≡ true → is_some o ≡ true) → is_some (cond (set.contains D c) o None) ≡ set.contains D c
cut_column D c o h =
    elim (set.contains D c) as (λ b. (b ≡ true → is_some o ≡ true) → is_some (cond b o None) ≡ b) [ true ↦ λ k. k refl | false ↦ λ _. refl ] h

pub at-with_same : (r : Row) (A : Name) (v : Option Value) → at (with_at r A v) A ≡ v
at-with_same r A v = at-with_at r A v A ∙ ap (λ b. cond b v (at r A)) (name_itself A)

pub at-with_other : (r : Row) (A : Name) (v : Option Value) (c : Name) → set.contains (one A) c ≡ false → at (with_at r A v) c ≡ at r c
at-with_other r A v c o =
    let f : eq_by_cmp bytes_cmp c A ≡ false = elim (cases_Bool (eq_by_cmp bytes_cmp c A)) [
      | inl t ↦ absurd (true≢false (sym (ap (set.contains (one A)) (tied_name c A t) ∙ one_itself A) ∙ o))
      | inr f ↦ f
    ] in
    at-with_at r A v c ∙ ap (λ b. cond b v (at r c)) f

pub at-cut_in : (C : Names) (r : Row) (c : Name) → set.contains C c ≡ true → at (cut C r) c ≡ at r c
at-cut_in C r c i = at-cut C r c ∙ ap (λ b. cond b (at r c) None) i

pub at-cut_out : (C : Names) (r : Row) (c : Name) → set.contains C c ≡ false → at (cut C r) c ≡ None
at-cut_out C r c i = at-cut C r c ∙ ap (λ b. cond b (at r c) None) i

pub agree-cut : (C : Names) (r : Row) → agree C (cut C r) r ≡ true
agree-cut C r = agree_from C _ r (λ c i. at-cut_in C r c i)
