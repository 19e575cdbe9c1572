-- Right rows that the shared columns tell apart, so that each left row has at most one of them.
use Rattle.std.proofs.Common.{◌≡◌, ◌≤◌, List, [], ◌∷◌, length, length-append, map, refl, sym, ap, ◌∙◌, true, inl, inr, arith}
use Rattle.plain_values.proofs.Common.{cases_Bool, length-map, filter, flat_map, list_any, eq_by_cmp, override, row_cmp, Row, in_head}
use Rattle.plain_values.specs.SortedSet as set
use Rattle.lens_specs.specs.Common.{Columns, Fits, names, Delta, new_view, Meets, Names, Rows, has, those, agree}
use Rattle.lens_laws.proofs.Common.{found_each, count_of, count-within, from_found_each, from_new_view, in_new_view_added, in_new_view_kept}
use Rattle.lens_laws.proofs.Counts.{count-from_list}
use Rattle.fd_laws.proofs.Common.{from_those, agree_at, agree_back, agree_on, row_itself, row_total, same_row, tied_row, fits_none}
use Rattle.revision.proofs.Changed.{items_those}
use Rattle.row_sets.specs.Joins.{pairs_on}
use Rattle.join_delta.specs.Joined.{AreKeyed}

-- a set whose rows are all one has at most one
one_at_most : (T : Rows) → ((x y : Row) → has T x ≡ true → has T y ≡ true → x ≡ y) → count_of T ≤ 1
one_at_most T all = by_list (set.items T) refl
  where
    by_list : (rows : List Row) → set.items T ≡ rows → count_of T ≤ 1
    by_list [] is = let none : count_of T ≡ 0 = ap length is in omega arith
    by_list (x ∷ xs) is =
        let same = eq_by_cmp row_cmp in
        let there : has T x ≡ true = set.contains-items T x ∙ ap (list_any (same x)) is ∙ in_head same tied_row row_itself x xs in
        let only : has (set.from_list (x ∷ [])) x ≡ true = set.contains-from_list row_total (x ∷ []) x ∙ in_head same tied_row row_itself x [] in
        let within = count-within T (set.from_list (x ∷ [])) (λ r i. ap (has (set.from_list (x ∷ []))) (all r x i there) ∙ only) in
        let one = count-from_list (x ∷ []) in
        omega arith

length-flat_map : (f : Row → List Row) (rows : List Row) → ((r : Row) → length (f r) ≤ 1) → length (flat_map f rows) ≤ length rows
length-flat_map f [] h = omega arith
length-flat_map f (r ∷ rows) h =
    let i = length-flat_map f rows h in
    let j = h r in
    let e = length-append (f r) (flat_map f rows) in
    omega arith

-- there is at most one pair for each row
pub pairs_few : (C : Names) (M N : Rows) → AreKeyed C N → count_of (pairs_on C M N) ≤ count_of M
pairs_few C M N keyed =
    let partners = λ (m : Row). map (λ n. override n m) (filter (agree C m) (set.items N)) in
    let each : (m : Row) → length (partners m) ≤ 1 = λ m.
    let made = length-map (filter (agree C m) (set.items N)) (λ n. override n m) in
    let listed = ap length (items_those (agree C m) N) in
    let one = one_at_most (those (agree C m) N) (λ x y i j.
    let v = from_those (agree C m) N x i in
    let w = from_those (agree C m) N y j in
    keyed x y v.0 w.0 (agree_on C x m y (agree_back C m x v.1) w.1)) in
    omega arith in
    let all = count-from_list (flat_map partners (set.items M)) in
    let few = length-flat_map partners (set.items M) each in
    omega arith

-- the rows found, as they are after the change, are of the changed ones
pub near_keyed : (C D : Names) (N X found near : Rows) (change : Delta) → C ≡ D → found ≡ found_each D N (set.items X) → near ≡ new_view found change
    → AreKeyed C (new_view N change) → AreKeyed C near
near_keyed C D N X found near change same is_found is_near keyed m n i j g = keyed m n (new m i) (new n j) g
  where
    new : (r : Row) → has near r ≡ true → has (new_view N change) r ≡ true
    new r k = elim (from_new_view (found_each D N (set.items X)) change r (ap (λ M. has M r) (sym (is_near ∙ ap (λ F. new_view F change) is_found)) ∙ k)) [
      | inl w ↦ in_new_view_kept N change r (from_found_each D N (set.items X) r w.0) w.1
      | inr a ↦ in_new_view_added N change r a
    ]

-- rows over V that agree on V are one, so where S decides V they are told apart by S
pub decided_keyed : (S : Names) (V : Columns) (N : Rows) → ((n : Row) → has N n ≡ true → Fits V n) → Meets N S (names V) → AreKeyed S N
decided_keyed S V N fit decides m n i j g =
    let all = decides m n i j g in
    same_row m n (λ c. elim (cases_Bool (set.contains (names V) c)) [
      | inl t ↦ agree_at (names V) m n all c t
      | inr o ↦ fits_none V m (fit m i) c o ∙ sym (fits_none V n (fit n j) c o)
    ])
