-- What an index of the left sides has, and in which order.
use Rattle.std.proofs.Common.{◌≡◌, ℕ, zero, suc, ◌+◌, ◌<◌, Bool, true, false, cond, List, [], ◌∷◌, ◌++◌, length, get_or, map, append_assoc, refl, sym, ap, ◌∙◌, subst, inl, inr, arith, append-nil, filter}
use Rattle.plain_values.proofs.Common.{Ordering, Less, Equal, Greater, list_any, IsStrictlySortedBy, eq_by_cmp, is_eq, is_gt, nat_cmp, ordering_then, IsTotalOrder, nat_cmp_total, on_total, then_total, tied_itself, cases_lt, eqb-true, false≢true, list_any_at, Less-from_sorted, bytes_cmp, in_append_left, in_append_right, from_append, in_map, from_map}
use Rattle.std.specs.Cmp.{unsigned_tied}
use Rattle.plain_values.specs.SortedSet as set
use Rattle.fd_laws.proofs.Common.{name_total, name_itself, tied_name}
use Rattle.lens_specs.specs.Common.{Name, Edge}
use Rattle.fd_closure.specs.Entries.{Entry, PlacesBelow, entries_from, entry_cmp}
use Rattle.lens_values.proofs.Groups.{Ascend}

entry_total : IsTotalOrder entry_cmp
entry_total = then_total (on_total (λ e. e.0) name_total) (on_total (λ e. e.1) nat_cmp_total)

both_tied : (r s : Ordering) → is_eq (ordering_then r s) ≡ true → (is_eq r ≡ true) × (is_eq s ≡ true)
both_tied Less s e = cc
both_tied Equal s e = (refl, e)
both_tied Greater s e = cc

abbrev pub same_entry : Entry → Entry → Bool
same_entry = eq_by_cmp entry_cmp

pub tied_entry : (x y : Entry) → same_entry x y ≡ true → x ≡ y
tied_entry x y e =
    let both = both_tied (bytes_cmp x.0 y.0) (nat_cmp x.1 y.1) e in
    let names : x.0 ≡ y.0 = tied_name x.0 y.0 both.0 in
    let places : x.1 ≡ y.1 = eqb-true x.1 y.1 (sym (unsigned_tied x.1 y.1) ∙ both.1) in
    λ i. (names i, places i)

pub entry_itself : (x : Entry) → same_entry x x ≡ true
entry_itself x = ap is_eq (tied_itself entry_total x)

-- ---- the order

first_no_higher : (r s : Ordering) → ordering_then r s ≡ Less → is_gt r ≡ false
first_no_higher Less s e = refl
first_no_higher Equal s e = refl
first_no_higher Greater s e = cc

-- the names of an index ascend
pub names_ascend : (index : List Entry) → IsStrictlySortedBy entry_cmp index → Ascend name_total (λ e. e.0) index
names_ascend index s i j d l h = elim (cases_lt i j) [
  | inl less ↦ first_no_higher _ (nat_cmp (get_or index i d).1 (get_or index j d).1) (Less-from_sorted entry_cmp index i j d s less h)
  | inr more ↦
      let same : i ≡ j = omega arith in
      ap (λ k. is_gt (bytes_cmp (get_or index i d).0 (get_or index k d).0)) (sym same) ∙ ap is_gt (tied_itself name_total (get_or index i d).0)
]

-- ---- the members

-- the entries of one edge more
pub entries_push : (es : List Edge) (e : Edge) (n m : ℕ) → m ≡ n + length es → entries_from n (es ++ e ∷ []) ≡ entries_from n es ++ map (λ c. (c, m)) (set.items e.left)
entries_push [] e n m is =
    let same : n ≡ m = omega arith in
    append-nil (map (λ c. (c, n)) (set.items e.left)) ∙ ap (λ k. map (λ c. (c, k)) (set.items e.left)) same
entries_push (x ∷ xs) e n m is =
    ap (λ l. map (λ c. (c, n)) (set.items x.left) ++ l) (entries_push xs e (suc n) m (omega arith))
    ∙ sym (append_assoc (map (λ c. (c, n)) (set.items x.left)) (entries_from (suc n) xs) (map (λ c. (c, m)) (set.items e.left)))

-- each name of a left side has its entry
pub in_entries : (F : List Edge) (n d m : ℕ) (e : Edge) (c : Name) → m ≡ n + d → d < length F → set.contains (get_or F d e).left c ≡ true → list_any (same_entry (c, m)) (entries_from n F) ≡ true
in_entries [] n d m e c is l i = absurd (omega arith)
in_entries (x ∷ xs) n zero m e c is l i =
    let same : n ≡ m = omega arith in
    let there : list_any (same_entry (c, n)) (map (λ k. (k, n)) (set.items x.left)) ≡ true =
    in_map (eq_by_cmp bytes_cmp) tied_name name_itself same_entry tied_entry entry_itself (λ k. (k, n)) (set.items x.left) c (sym (set.contains-items x.left c) ∙ i) in
    in_append_left same_entry tied_entry entry_itself (c, m) (map (λ k. (k, n)) (set.items x.left)) (entries_from (suc n) xs)
    (subst (λ k. list_any (same_entry (c, k)) (map (λ k. (k, n)) (set.items x.left)) ≡ true) same there)
in_entries (x ∷ xs) n (suc d) m e c is l i =
    in_append_right same_entry tied_entry entry_itself (c, m) (map (λ k. (k, n)) (set.items x.left)) (entries_from (suc n) xs)
    (in_entries xs (suc n) d m e c (omega arith) (omega arith) i)

-- and each entry is of a left side
pub from_entries : (F : List Edge) (n : ℕ) (x : Entry) → list_any (same_entry x) (entries_from n F) ≡ true
    → (d : ℕ) × (d < length F) × (x.1 ≡ n + d) × ((e : Edge) → set.contains (get_or F d e).left x.0 ≡ true)
from_entries [] n x i = absurd (false≢true i)
from_entries (y ∷ ys) n x i = elim (from_append same_entry tied_entry entry_itself x (map (λ c. (c, n)) (set.items y.left)) (entries_from (suc n) ys) i) [
  | inl j ↦
      let w = from_map (eq_by_cmp bytes_cmp) tied_name name_itself same_entry tied_entry entry_itself (λ c. (c, n)) (set.items y.left) x j in
      let place : x.1 ≡ n = ap (λ e. e.1) w.2 in
      (0, omega arith, omega arith, λ e. ap (set.contains y.left) (ap (λ e. e.0) w.2) ∙ set.contains-items y.left w.0 ∙ w.1)
  | inr j ↦ let w = from_entries ys (suc n) x j in (suc w.0, omega (arith, w.1), omega (arith, w.2), w.3)
]

-- the places of an index
pub places_below : (F : List Edge) (index : List Entry) → ((e : Entry) → list_any (same_entry e) index ≡ list_any (same_entry e) (entries_from 0 F)) → PlacesBelow (length F) index
places_below F index members k d l =
    let there : list_any (same_entry (get_or index k d)) index ≡ true = list_any_at (same_entry (get_or index k d)) index k d l (entry_itself (get_or index k d)) in
    let w = from_entries F 0 (get_or index k d) (sym (members (get_or index k d)) ∙ there) in
    omega (arith, w.1, w.2)

pub places-filter : (test : Entry → Bool) (n : ℕ) (es : List Entry) → PlacesBelow n es → PlacesBelow n (filter test es)
places-filter test n [] h = h
places-filter test n (x ∷ xs) h =
    let rest = places-filter test n xs (λ k d l. h (suc k) d (omega arith)) in
    elim (test x) as (λ b. PlacesBelow n (cond b (x ∷ filter test xs) (filter test xs))) [
      | true ↦ both (filter test xs) rest
      | false ↦ rest
    ]
  where
    both : (ys : List Entry) → PlacesBelow n ys → PlacesBelow n (x ∷ ys)
    both ys r zero d l = h zero d (omega arith)
    both ys r (suc k) d l = r k d (omega arith)
