-- The check of an edit is that of its new view.
use Rattle.std.proofs.Common.{◌≡◌, ◌∙◌, ◌<◌, ◌&&◌, ◌||◌, ℕ, zero, suc, List, [], ◌∷◌, length, get_or, Option, Some, None, true, false, ap, sym, subst, refl, inl, inr, is_some, unwrap_or, arith}
use Rattle.plain_values.proofs.Common.{list_all, list_any, eq_by_cmp, and_parts, or_cases, restrict, row_cmp, Row, absurd_false, all_at, any_from, in_cons}
use Rattle.plain_values.specs.SortedSet as set
use Rattle.lens_specs.specs.Common.{Columns, Fits, names, AppliesTo, Delta, new_view, AllEdges, Edge, Meets, MeetsTree, Name, Names, Within, Predicate, Relation, Rows, has, minus, project, union, agree, at, cut, IsOf, IsOfSort, Sort, violating_pair, first_pair, violating_row, clash_of}
use Rattle.lens_specs.specs.Sort as spec
use Rattle.fd_laws.proofs.Common.{fits_names, from_minus, from_project, from_union, in_those, same_rel, sets, agree-cut, agree_back, agree_itself, agree_on, agree_within, row_itself, tied_row, each_edge, union_left, union_right}
use Rattle.lens_laws.proofs.Common.{edit_clash, find_by, found_each, IsSound, from_found_each, from_new_view, clash_none}
use Rattle.lens_laws.specs.Checks.{near}
use Rattle.lens_laws.proofs.EditChecks.{edit_checks_are}
use Rattle.lens_laws.proofs.Sorts.{meets_none_each}
use Rattle.fd_tree.specs.ClashView.{shown, shown_clash}
use Rattle.fd_tree.specs.declared.clash.Clash.{Clash}
use Rattle.edit_check.specs.Replaced.{Alike, AreReplaced}

-- what holds of each edge holds of the one at a place
edge_at : (P : Edge → Type 0) (T : List Edge) (i : ℕ) (e : Edge) → AllEdges P T → i < length T → e ≡ get_or T i e → P e
edge_at P [] i e all below here = absurd (omega arith)
edge_at P (k ∷ ks) zero e all below here = subst P (sym here) all.0
edge_at P (k ∷ ks) (suc i) e all below here = edge_at P ks i e all.1 (omega arith) here

-- also where the list is another name for the tree
pub edge_of : (P : Edge → Type 0) (T es : List Edge) (i : ℕ) (e : Edge) → AllEdges P T → es ≡ T → i < length es → e ≡ get_or es i e → P e
edge_of P T es i e all same below here = edge_at P es i e (subst (AllEdges P) (sym same) all) below here

-- a row over the columns has a value in each column of a side within them
pub side_there : (U : Columns) (C : Names) (r : Row) → Within C (names U) → Fits U r → (c : Name) → set.contains C c ≡ true → is_some (at r c) ≡ true
side_there U C r within fit c i = fits_names U r fit c ∙ within c i

-- the left sides of a sort's tree are within the columns of a relation of the sort
pub lefts_within : (s : Sort) (M : Relation) → IsSound s → IsOfSort M s → AllEdges (λ e. Within e.left (names M.columns)) s.tree
lefts_within s M sound is =
    let U = names s.columns in
    each_edge (λ e. Within e.left U × Within e.right U) (λ e. Within e.left (names M.columns)) (λ e w. subst (λ V. Within e.left (names V)) (sym is.0) w.0) s.tree sound.within

-- the pair of a clash on a single edge
pair_shown : (e : Edge) (o : Option (Row × Row)) (found : Clash) → Some found ≡ shown_clash (clash_of 0 e o None) → Some (found.first, found.second) ≡ o
pair_shown e None found is = cc
pair_shown e (Some p) found is =
    let same : found ≡ shown (record { place = 0; edge = e; first = p.0; second = p.1 }) = ap (λ o. unwrap_or o found) is in
    ap (λ c. Some (c.first, c.second)) same

no_pair : (e : Edge) (o : Option (Row × Row)) → None ≡ shown_clash (clash_of 0 e o None) → None ≡ o
no_pair e None is = refl
no_pair e (Some p) is = cc

pub found_pair : (e : Edge) (M : Rows) (found : Clash) → Some found ≡ shown_clash (violating_pair (e ∷ []) M) → Some (found.first, found.second) ≡ first_pair e (set.items M)
unfolding violating_pair
found_pair e M found is = pair_shown e (first_pair e (set.items M)) found is

pub found_none : (e : Edge) (M : Rows) → None ≡ shown_clash (violating_pair (e ∷ []) M) → None ≡ first_pair e (set.items M)
unfolding violating_pair
found_none e M is = no_pair e (first_pair e (set.items M)) is

-- what is found by each of the added rows
pub found_by_each : (C D : Names) (V M A B : Rows) → C ≡ D → A ≡ B → M ≡ found_each C V (set.items A) → M ≡ found_each D V (set.items B)
found_by_each C D V M A B same added found = found ∙ (λ i. found_each (same i) V (set.items (added i)))

-- the added rows, and what was found and stays
pub near_is : (e : Edge) (V M : Rows) (d : Delta) → M ≡ found_each e.left V (set.items d.add) → union d.add (minus M d.remove) ≡ near e V d
unfolding near
near_is e V M d found = ap (λ N. union d.add (minus N d.remove)) found

-- and no other is
is_only : (M : Rows) (a : Row) → set.items M ≡ a ∷ [] → (r : Row) → has M r ≡ true → r ≡ a
is_only M a only r i = elim (in_cons (eq_by_cmp row_cmp) tied_row row_itself r a [] (ap (list_any (eq_by_cmp row_cmp r)) (sym only) ∙ sym (set.contains-items M r) ∙ i)) [ inl is ↦ is | inr j ↦ cc ]

-- the rows of a relation of a sort meet its tree
pub meets_of : (s : Sort) (M : Relation) → IsOfSort M s → MeetsTree M.rows s.tree
meets_of s M is = clash_none s.tree M.rows is.1.clash

module _ (e : Edge) (V : Rows) (d : Delta) (a : Row) (only : set.items d.add ≡ a ∷ []) where
  -- what is found by the rows of a set that has one
  pub found_by_only : found_each e.left V (set.items d.add) ≡ find_by e.left a V
  found_by_only = ap (found_each e.left V) only ∙ same_rel _ _ (λ r i. let none = set.contains-empty row_cmp r in grind (arith, sets)) (λ r i. grind (arith, sets))

  -- each row that is found by the only added one and stays agrees with it on the right side: none near it clash
  module _ (meets : Meets V e.left e.right) (M : Rows) (found : M ≡ find_by e.left a V) (alike : list_all (λ r. agree e.right a r || has d.remove r) (set.items M) ≡ true) where
    kept_agrees : (r : Row) → has V r ≡ true → has d.remove r ≡ false → agree e.left a r ≡ true → agree e.right a r ≡ true
    kept_agrees r i stays g =
        let there = sym (set.contains-items M r) ∙ ap (λ N. has N r) found ∙ in_those (agree e.left a) V r i g in
        let passes = all_at (eq_by_cmp row_cmp) tied_row row_itself (λ q. agree e.right a q || has d.remove q) (set.items M) alike r there in
        elim (or_cases (agree e.right a r) (has d.remove r) passes) [ inl t ↦ t | inr t ↦ absurd_false _ t stays ]

    near_meets : Meets (near e V d) e.left e.right
    unfolding near
    near_meets p q i j g = elim (from_union d.add _ p i) [
      | inl x ↦
          let is = is_only d.add a only p x in
          subst (λ r. agree e.right r q ≡ true) (sym is) (elim (from_union d.add _ q j) [
            | inl y ↦ subst (λ r. agree e.right a r ≡ true) (sym (is_only d.add a only q y)) (agree_itself e.right a)
            | inr y ↦ let w = from_minus _ d.remove q y in kept_agrees q (from_found_each e.left V _ q w.0) w.1 (ap (λ r. agree e.left r q) (sym is) ∙ g)
          ])
      | inr x ↦
          let w = from_minus _ d.remove p x in
          let old = from_found_each e.left V _ p w.0 in
          elim (from_union d.add _ q j) [
            | inl y ↦
                let is = is_only d.add a only q y in
                subst (λ r. agree e.right p r ≡ true) (sym is) (agree_back e.right a p (kept_agrees p old w.1 (agree_back e.left p a (ap (agree e.left p) (sym is) ∙ g))))
            | inr y ↦ let u = from_minus _ d.remove q y in meets p q old (from_found_each e.left V _ q u.0) g
          ]
    ]

    pub no_pair_near : None ≡ first_pair e (set.items (near e V d))
    no_pair_near = sym (meets_none_each (near e V d) e near_meets)

-- where each added row is replaced, each row near them is alike to one that was there, and none of them clash
module _ (e : Edge) (V : Rows) (d : Delta) (meets : Meets V e.left e.right) (removed : (r : Row) → has d.remove r ≡ true → has V r ≡ true) (replaced : AreReplaced e d) where
  was_there : (r : Row) → has (near e V d) r ≡ true → (q : Row) × (has V q ≡ true) × Alike e r q
  unfolding near
  was_there r i = elim (from_union d.add _ r i) [
    | inl new ↦ let w = replaced r new in (w.0, removed w.0 w.1, w.2)
    | inr old ↦ (r, from_found_each e.left V _ r (from_minus _ d.remove r old).0, (agree_itself e.left r, agree_itself e.right r))
  ]

  alike_meet : Meets (near e V d) e.left e.right
  alike_meet p q i j g =
      let a = was_there p i in
      let b = was_there q j in
      let there = meets a.0 b.0 a.1 b.1 (agree_on e.left a.0 q b.0 (agree_on e.left a.0 p q (agree_back e.left p a.0 a.2.0) g) b.2.0) in
      agree_on e.right p b.0 q (agree_on e.right p a.0 b.0 a.2.1 there) (agree_back e.right q b.0 b.2.1)

  pub no_pair_replaced : None ≡ first_pair e (set.items (near e V d))
  no_pair_replaced = sym (meets_none_each (near e V d) e alike_meet)

-- the only added row is replaced where it agrees with a removed one on both sides
pub one_replaced : (e : Edge) (d : Delta) (a : Row) → set.items d.add ≡ a ∷ [] → list_any (λ q. agree e.left a q && agree e.right a q) (set.items d.remove) ≡ true → AreReplaced e d
one_replaced e d a only alike r i =
    let w = any_from (eq_by_cmp row_cmp) tied_row row_itself (λ q. agree e.left a q && agree e.right a q) (set.items d.remove) alike in
    let both = and_parts (agree e.left a w.0) (agree e.right a w.0) w.2 in
    (w.0, set.contains-items d.remove w.0 ∙ w.1, subst (λ z. Alike e z w.0) (sym (is_only d.add a only r i)) both)

-- each is where its part in both sides is among those of the removed ones
pub each_replaced : (e : Edge) (d : Delta) → let C = set.union e.left e.right in list_all (λ r. has (project C d.remove) (restrict C r)) (set.items d.add) ≡ true → AreReplaced e d
unfolding cut
each_replaced e d all r i =
    let C = set.union e.left e.right in
    let part = all_at (eq_by_cmp row_cmp) tied_row row_itself (λ q. has (project C d.remove) (restrict C q)) (set.items d.add) all r (sym (set.contains-items d.add r) ∙ i) in
    let w = from_project C d.remove (cut C r) part in
    let same = agree_on C r (cut C r) w.0 (agree_back C (cut C r) r (agree-cut C r)) (subst (λ z. agree C z w.0 ≡ true) (sym w.2) (agree-cut C w.0)) in
    (w.0, w.1, (agree_within e.left C r w.0 (union_left e.left e.right) same, agree_within e.right C r w.0 (union_right e.left e.right) same))

none_shown : (o : Option spec.Clash) → None ≡ shown_clash o → o ≡ None
none_shown None is = refl
none_shown (Some c) is = cc

module _ (s : Sort) (M : Relation) (d : Delta) (is : IsOfSort M s) where
  -- the least refused row of the new view is the least refused added row
  pub new_off : (P : Predicate) (A : Rows) (o : Option Row) → P ≡ s.predicate → A ≡ d.add → o ≡ violating_row P A → violating_row s.predicate (new_view M.rows d) ≡ o
  new_off P A o same added found = (edit_checks_are s M.rows d is.1).0 ∙ sym (found ∙ (λ i. violating_row (same i) (added i)))

  -- the first clash of the new view is the one near the added rows
  pub new_clash : (T : List Edge) (o p : Option Clash) → T ≡ s.tree → p ≡ shown_clash (edit_clash T M.rows d) → p ≡ o → shown_clash (violating_pair s.tree (new_view M.rows d)) ≡ o
  new_clash T o p same found is_o = ap shown_clash (edit_checks_are s M.rows d is.1).1 ∙ sym (ap (λ F. shown_clash (edit_clash F M.rows d)) same) ∙ sym found ∙ is_o

  -- where neither is there, the new view is of the sort
  pub new_is_of : AppliesTo d M → violating_row s.predicate (new_view M.rows d) ≡ None → shown_clash (violating_pair s.tree (new_view M.rows d)) ≡ None → IsOf (new_view M.rows d) s
  new_is_of applies none met = record {
    columns = λ r i. elim (from_new_view M.rows d r i) [ inl old ↦ is.1.columns r old.0 | inr new ↦ subst (λ U. Fits U r) is.0 (applies.1 r new) ];
    off = none;
    clash = none_shown _ (sym met);
  }
