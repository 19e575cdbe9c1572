-- Rows that a relation was asked about, and rows that it was asked for.
use Rattle.std.proofs.Common.{◌≡◌, ℕ, ◌<◌, ◌≤◌, length, get_or, take, List, [], ◌∷◌, is_some, refl, sym, ap, ◌∙◌, subst, true, arith, inl, inr, Bool, not, filter, flat_map}
use Rattle.plain_values.proofs.Common.{list_any, IsStrictlySortedBy, eq_by_cmp, true≢false, or_left, or_right, take_all, list_any_at, IsStrictlySortedBy-filter, row_cmp, Row, restrict, from_flat_map, in_flat_map}
use Rattle.plain_values.specs.SortedSet as set
use Rattle.lens_specs.specs.Common.{Names, Rows, has, minus, project, those, agree, at, cut, Delta, diff, new_view}
use Rattle.lens_laws.proofs.Common.{find_by, found_each, in_found_each}
use Rattle.lens_laws.specs.KeyedDeltas.{of_touched}
use Rattle.lens_laws.proofs.Deltas.{of_touched_is}
use Rattle.fd_laws.proofs.Common.{from_project, from_those, from_union, in_project, in_those, same_rel, sets, agree_back, agree_on, agree-cut, row_exact, row_itself, row_total, tied_row, agree_alike, at-cut_in}
use Rattle.signed_delta.specs.Disjoint.{AreApart}
use Rattle.signed_delta.specs.Keys.{HasColumns}
use Rattle.signed_delta.proofs.Differences.{items_rise}

-- a row at a place of a set's list is in the set
pub listed_at : (M : Rows) (rows : List Row) (i : ℕ) (r : Row) → rows ≡ set.items M → i < length rows → r ≡ get_or rows i r → has M r ≡ true
listed_at M rows i r is below here =
    set.contains-items M r ∙ ap (list_any (eq_by_cmp row_cmp r)) (sym is)
    ∙ list_any_at (eq_by_cmp row_cmp r) rows i r below (ap (eq_by_cmp row_cmp r) (sym here) ∙ row_itself r)

-- the rows that passed, up to the end of the list
module _ (p : Row → Bool) (M : Rows) (rows some : List Row) (i : ℕ) (is : rows ≡ set.items M) (past : length rows ≤ i) (made : some ≡ filter p (take i (set.items M))) where
  passed : some ≡ filter p (set.items M)
  passed = made ∙ ap (filter p) (take_all i (set.items M) (omega (arith, past, ap length is)))

  pub passed_rise : IsStrictlySortedBy row_cmp some
  passed_rise = subst (IsStrictlySortedBy row_cmp) (sym passed) (IsStrictlySortedBy-filter row_cmp p (set.items M) (items_rise M))

  pub passed_are : set.from_list some ≡ those p M
  passed_are = ap set.from_list passed ∙ set.from_list-filter row_total row_exact p M

-- those that are missing
pub missing_are : (M N : Rows) → those (λ r. not (has N r)) M ≡ minus M N
unfolding set.difference
missing_are M N = refl

-- ---- differences

pub answered_apart : (V R A : Rows) → AreApart (those (has V) R) (minus A V)
answered_apart V R A r i = let w : has V r ≡ true = (from_those (has V) R r i).1 in grind (arith, sets)

pub answered_is : (V : Rows) (d : Delta) → ◌≡◌ {A = Delta} (record { remove = those (has V) (minus d.remove d.add); add = minus d.add V }) (diff V (new_view V d))
unfolding of_touched
answered_is V d = of_touched_is V d

-- ---- rows found by the parts of others

-- a part has a value in each of its columns
pub part_has_columns : (C : Names) (M : Rows) (part : Row) → ((r : Row) → has M r ≡ true → HasColumns C r) → has (project C M) part ≡ true → HasColumns C part
part_has_columns C M part have i c there =
    let w = from_project C M part i in
    ap (λ r. is_some (at r c)) w.2 ∙ ap is_some (at-cut_in C w.0 c there) ∙ have w.0 w.1 c there

-- a key and its part find the same rows
pub find_by-restrict : (C : Names) (k : Row) (M : Rows) → find_by C (restrict C k) M ≡ find_by C k M
unfolding cut
find_by-restrict C k M = λ i. those (λ m. agree_alike C (cut C k) k m (agree-cut C k) i) M

from_found : (C : Names) (M : Rows) (ls : List Row) (m : Row) → has (found_each C M ls) m ≡ true
    → (l : Row) × (list_any (eq_by_cmp row_cmp l) ls ≡ true) × (has M m ≡ true) × (agree C l m ≡ true)
from_found C M [] m i = absurd (true≢false (sym i ∙ set.contains-empty row_cmp m))
from_found C M (k ∷ ks) m i = elim (from_union _ _ m i) [
  | inl j ↦ let w = from_those (agree C k) M m j in (k, or_left _ _ (row_itself k), w.0, w.1)
  | inr j ↦ let w = from_found C M ks m j in (w.0, or_right _ _ w.1, w.2, w.3)
]

-- what is found by each part of some rows is what is found by each of the rows
pub found_by_parts : (C : Names) (M R : Rows) (list : List Row)
    → list ≡ flat_map (λ k. set.items (find_by C k M)) (set.items (project C R)) → set.from_list list ≡ found_each C M (set.items R)
found_by_parts C M R list is =
    let same = eq_by_cmp row_cmp in
    let find = λ (k : Row). set.items (find_by C k M) in
    let keys = set.items (project C R) in
    ap set.from_list is ∙ same_rel _ _
    (λ m i.
    let w = from_flat_map same tied_row row_itself same tied_row row_itself find keys m (sym (set.contains-from_list row_total (flat_map find keys) m) ∙ i) in
    let part = from_project C R w.0 (set.contains-items (project C R) w.0 ∙ w.1) in
    let there = from_those (agree C w.0) M m (set.contains-items (find_by C w.0 M) m ∙ w.2) in
    let like : agree C w.0 part.0 ≡ true = ap (λ k. agree C k part.0) part.2 ∙ agree-cut C part.0 in
    in_found_each C M (set.items R) part.0 m (sym (set.contains-items R part.0) ∙ part.1) there.0
    (agree_on C part.0 w.0 m (agree_back C w.0 part.0 like) there.1))
    (λ m i.
    let w = from_found C M (set.items R) m i in
    let key = cut C w.0 in
    let there = in_project C R w.0 (set.contains-items R w.0 ∙ w.1) in
    let got = in_those (agree C key) M m w.2 (agree_on C key w.0 m (agree-cut C w.0) w.3) in
    set.contains-from_list row_total (flat_map find keys) m
    ∙ in_flat_map same tied_row row_itself same tied_row row_itself find keys key m
    (sym (set.contains-items (project C R) key) ∙ there)
    (sym (set.contains-items (find_by C key M) m) ∙ got))

-- ---- rows found by a row that is alone

-- the row that a set has alone is in it
pub only_there : (M : Rows) (a : Row) → set.items M ≡ a ∷ [] → has M a ≡ true
only_there M a only = set.contains-items M a ∙ ap (list_any (eq_by_cmp row_cmp a)) only ∙ or_left _ _ (row_itself a)

-- what it finds is what each row of the set finds
pub found_by_one : (C : Names) (M R : Rows) (a : Row) → set.items R ≡ a ∷ [] → find_by C a M ≡ found_each C M (set.items R)
found_by_one C M R a only =
    same_rel _ _ (λ r i. grind (arith, sets)) (λ r i. let none = set.contains-empty row_cmp r in grind (arith, sets))
    ∙ ap (found_each C M) (sym only)

-- a list of one row
pub alone : (rows : List Row) (a : Row) → 1 ≤ length rows → length rows < 2 → a ≡ get_or rows 0 a → rows ≡ a ∷ []
alone [] a some few is = absurd (omega arith)
alone (r ∷ []) a some few is = λ i. sym is i ∷ []
alone (r ∷ q ∷ rs) a some few is = absurd (omega arith)
