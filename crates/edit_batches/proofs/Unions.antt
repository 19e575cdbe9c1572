-- Lists of rows that rise, one behind the other, and sets that share no row.
use Rattle.std.proofs.Common.{◌≡◌, ◌∙◌, ℕ, ◌+◌, ◌-◌, ◌<◌, length, take, get_or, zero, suc, List, [], ◌∷◌, ◌++◌, ap, sym, subst, refl, true, false, arith, ◌||◌, Some, filter, not}
use Rattle.plain_values.proofs.Common.{take_more, AllByRecursion, slice_get, IsStrictlySortedBy, eq_by_cmp, is_eq, is_lt, Less, same_Some, row_cmp, Row, row_cmp_total, is_tie, is_less}
use Rattle.plain_values.specs.SortedSet as set
use Rattle.lens_specs.specs.Common.{Delta, Rows, has, minus, union, compose_delta}
use Rattle.lens_values.proofs.Walks.{any_none}
use Rattle.row_sets.specs.Members.{is_in}
use Rattle.signed_delta.proofs.Differences.{rest_is, turned_apart}
use Rattle.signed_delta.specs.Disjoint.{AreApart}
use Rattle.edit_batches.specs.Chains.{no_change}
use Rattle.edit_batches.proofs.RowSets.{contained, same_rows}

-- ---- a difference and none

pub then_nothing : (d : Delta) → compose_delta d no_change ≡ d
then_nothing d = λ i. record {
  remove = same_rows (union (minus d.remove set.empty) (minus set.empty d.add)) d.remove (λ x. grind (arith, contained)) i;
  add = same_rows (union (minus d.add set.empty) (minus set.empty d.remove)) d.add (λ x. grind (arith, contained)) i;
}

pub nothing_then : (d : Delta) → compose_delta no_change d ≡ d
nothing_then d = λ i. record {
  remove = same_rows (union (minus set.empty d.add) (minus d.remove set.empty)) d.remove (λ x. grind (arith, contained)) i;
  add = same_rows (union (minus set.empty d.remove) (minus d.add set.empty)) d.add (λ x. grind (arith, contained)) i;
}

-- ---- two differences where neither takes back anything of the other

pub without : (M N : Rows) → AreApart M N → minus M N ≡ M
without M N apart = same_rows (minus M N) M (λ x. grind (arith, contained, apart x))

pub both_kept : (d e : Delta) → AreApart d.remove e.add → AreApart d.add e.remove → compose_delta d e ≡ record { remove = union d.remove e.remove; add = union d.add e.add }
both_kept d e p q = λ i. record {
  remove = union (without d.remove e.add p i) (without e.remove d.add (turned_apart d.add e.remove q) i);
  add = union (without d.add e.remove q i) (without e.add d.remove (turned_apart d.remove e.add p) i);
}

pub kept_apart : (d e : Delta) → AreApart d.remove d.add → AreApart e.remove e.add → AreApart d.remove e.add → AreApart d.add e.remove
    → AreApart (union d.remove e.remove) (union d.add e.add)
kept_apart d e p q m n row there = grind (arith, contained, there, p row, q row, m row, n row)

-- ---- lists

all_on : (P : Row → Type 0) (xs ys : List Row) → AllByRecursion P xs → AllByRecursion P ys → AllByRecursion P (xs ++ ys)
all_on P [] ys a b = b
all_on P (x ∷ xs) ys a b = (a.0, all_on P xs ys a.1 b)

-- the list rises where each of the first ones is below all of the others
rises_on : (xs ys : List Row) → IsStrictlySortedBy row_cmp xs → IsStrictlySortedBy row_cmp ys
    → AllByRecursion (λ x. AllByRecursion (λ y. row_cmp x y ≡ Less) ys) xs → IsStrictlySortedBy row_cmp (xs ++ ys)
unfolding IsStrictlySortedBy
rises_on [] ys s t a = t
rises_on (x ∷ xs) ys s t a = (all_on (λ y. row_cmp x y ≡ Less) xs ys s.0 a.0, rises_on xs ys s.1 t a.1)

-- no row of the first ones is among the others
list_parted : (xs ys : List Row) → IsStrictlySortedBy row_cmp (xs ++ ys) → AllByRecursion (λ x. AllByRecursion (λ y. row_cmp x y ≡ Less) ys) xs
unfolding IsStrictlySortedBy
list_parted [] ys s = tt
list_parted (x ∷ xs) ys s = (behind xs ys s.0, list_parted xs ys s.1)
  where
    behind : (zs ys : List Row) → AllByRecursion (λ y. row_cmp x y ≡ Less) (zs ++ ys) → AllByRecursion (λ y. row_cmp x y ≡ Less) ys
    behind [] ys a = a
    behind (z ∷ zs) ys a = behind zs ys a.1

above_tied : (q x : Row) (ys : List Row) → eq_by_cmp row_cmp q x ≡ true → AllByRecursion (λ y. row_cmp x y ≡ Less) ys → AllByRecursion (λ y. eq_by_cmp row_cmp q y ≡ false) ys
above_tied q x [] tie a = tt
above_tied q x (y ∷ ys) tie a = (ap is_eq (row_cmp_total.congr q x y (is_tie (row_cmp q x) tie) ∙ a.0), above_tied q x ys tie a.1)

parted : (xs ys : List Row) → AllByRecursion (λ x. AllByRecursion (λ y. row_cmp x y ≡ Less) ys) xs → (q : Row) → is_in xs q ≡ true → is_in ys q ≡ false
parted [] ys a q = λ there. cc
parted (x ∷ xs) ys a q = elim (eq_by_cmp row_cmp q x) as (λ b. eq_by_cmp row_cmp q x ≡ b → (b || is_in xs q) ≡ true → is_in ys q ≡ false) [
  | true ↦ λ tie _. any_none (eq_by_cmp row_cmp q) ys (above_tied q x ys tie a.0)
  | false ↦ λ _ there. parted xs ys a.1 q there
] refl

-- sets whose lists rise, one behind the other, share no row
pub behind_apart : (M N : Rows) → IsStrictlySortedBy row_cmp (set.items M ++ set.items N) → AreApart M N
behind_apart M N s row there =
    set.contains-items N row ∙ parted (set.items M) (set.items N) (list_parted (set.items M) (set.items N) s) row (sym (set.contains-items M row) ∙ there)

listed : (M : Rows) → set.from_list (set.items M) ≡ M
listed M = same_rows (set.from_list (set.items M)) M (λ q. set.contains-from_list row_cmp_total (set.items M) q ∙ sym (set.contains-items M q))

-- nor do those of which one keeps all rows that the other lacks
pub rest_apart : (M N : Rows) → filter (λ row. not (is_in (set.items N) row)) (set.items M) ≡ set.items M → AreApart M N
rest_apart M N same row there =
    let kept : has (minus M N) row ≡ has M row = ap (λ s. has s row) (sym (rest_is M N) ∙ ap (λ l. set.from_list {R = row_cmp} l) same ∙ listed M) in
    grind (arith, contained, kept, there)

-- ---- from the last row of one list and the first of the other

all_behind : (x z : Row) (ys : List Row) → row_cmp x z ≡ Less → AllByRecursion (λ y. row_cmp z y ≡ Less) ys → AllByRecursion (λ y. row_cmp x y ≡ Less) ys
all_behind x z [] less a = tt
all_behind x z (y ∷ ys) less a = (row_cmp_total.trans x z y less a.0, all_behind x z ys less a.1)

all_parted : (n : ℕ) (xs ys : List Row) (last first : Row) → length xs ≡ n + 1 → Some last ≡ slice_get xs n → Some first ≡ slice_get ys 0 → row_cmp last first ≡ Less
    → IsStrictlySortedBy row_cmp xs → IsStrictlySortedBy row_cmp ys → AllByRecursion (λ x. AllByRecursion (λ y. row_cmp x y ≡ Less) ys) xs
unfolding IsStrictlySortedBy
all_parted n [] ys last first len at_last at_first less s t = tt
all_parted n (x ∷ xs) [] last first len at_last at_first less s t = cc
all_parted zero (x ∷ []) (y ∷ ys) last first len at_last at_first less s t =
    let from_x : row_cmp x y ≡ Less = subst (λ a. row_cmp a y ≡ Less) (same_Some last x at_last) (subst (λ b. row_cmp last b ≡ Less) (same_Some first y at_first) less) in
    ((from_x, all_behind x y ys from_x t.0), tt)
all_parted (suc n) (x ∷ []) (y ∷ ys) last first len at_last at_first less s t = absurd (omega (arith, len))
all_parted zero (x ∷ z ∷ xs) (y ∷ ys) last first len at_last at_first less s t = absurd (omega (arith, len))
all_parted (suc n) (x ∷ z ∷ xs) (y ∷ ys) last first len at_last at_first less s t =
    let rest = all_parted n (z ∷ xs) (y ∷ ys) last first (omega (arith, len)) at_last at_first less s.1 t in
    (all_behind x z (y ∷ ys) s.0.0 rest.0, rest)

pub rise_behind : (xs ys : List Row) (last first : Row) → Some last ≡ slice_get xs (length xs - 1) → Some first ≡ slice_get ys 0 → is_lt (row_cmp last first) ≡ true
    → IsStrictlySortedBy row_cmp xs → IsStrictlySortedBy row_cmp ys → IsStrictlySortedBy row_cmp (xs ++ ys)
rise_behind [] ys last first at_last at_first less s t = t
rise_behind (x ∷ xs) ys last first at_last at_first less s t =
    rises_on (x ∷ xs) ys s t (all_parted (length (x ∷ xs) - 1) (x ∷ xs) ys last first (omega arith) at_last at_first (is_less (row_cmp last first) less) s t)

-- rows that are kept so far, with one more
pub one_kept : (xs : List Row) (i : ℕ) (x : Row) (rest : List Row) → i < length xs → x ≡ get_or xs i x → (take i xs ++ x ∷ []) ++ rest ≡ take (i + 1) xs ++ rest
one_kept xs i x rest l e = ap (λ l. l ++ rest) (ap (λ y. take i xs ++ y ∷ []) e ∙ sym (take_more xs i x l))
