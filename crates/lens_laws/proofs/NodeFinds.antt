-- What the nodes find by look-ups in their sources is what a look-up in the whole gives.
use Rattle.std.proofs.Common.{◌≡◌, ◌&&◌, Bool, true, false, cond, List, map, sym, ap, ◌∙◌, is_some, Option, None, inl, inr, [], ◌∷◌, arith}
use Rattle.plain_values.proofs.Common.{and_from, and_parts, cases_Bool, or_left, or_right, false_from_ne_true, Contains, list_any, filter, flat_map, eq_by_cmp, row_cmp, Row, bytes_cmp, in_filter, from_filter, in_map, from_map, in_flat_map, from_flat_map, any_at, any_from, absurd_false, same_bool}
use Rattle.plain_values.specs.SortedSet as set
use Rattle.plain_values.specs.declared.value.Value.{Value}
use Rattle.lens_laws.proofs.Asked.{contains_cases}
use Rattle.fd_laws.proofs.Common.{fits_names, name_itself, tied_name, from_shared, same_rel, in_those, from_those, in_project, from_project, in_join, row_total, tied_row, row_itself, agree_at, agree_from, agree_back, agree_on, agree_within, agree-cut, at-cut, cut_column, in_renamed, from_renamed, agree_alike}
use Rattle.lens_laws.proofs.Rename.{at-renamed}
use Rattle.lens_laws.proofs.Join.{from_natural, in_natural, natural_paste}
use Rattle.lens_specs.specs.Common.{Columns, Fits, both_columns, names, Name, Names, Within, renamed_names, renamed_row, join_get, Rows, has, those, project, agree, paste, cut}
use Rattle.lens_laws.specs.Finds.{IsOver, matched}
use Rattle.lens_laws.specs.KeyedDeltas.{find_by}

-- ---- keys

-- what is found depends on the key's values in the columns alone
pub find_alike : (C : Names) (k q : Row) (M : Rows) → agree C k q ≡ true → find_by C k M ≡ find_by C q M
find_alike C k q M g = ap (λ p. those p M) (λ i m. agree_alike C k q m g i)

pub find_cut : (C : Names) (k : Row) (M : Rows) → find_by C (cut C k) M ≡ find_by C k M
find_cut C k M = find_alike C (cut C k) k M (agree-cut C k)

-- a row cut down to columns that it has
pub cut_is_over : (D C : Names) (k : Row) → IsOver D k → Within C D → IsOver C (cut C k)
cut_is_over D C k h w c = ap is_some (at-cut C k c) ∙ cut_column C c _ (λ i. h c ∙ w c i)

pub fits_is_over : (U : Columns) (r : Row) → Fits U r → IsOver (names U) r
fits_is_over U r h c = fits_names U r h c

-- a row of the list of a set is in it
pub contained : (rs : List Row) (r : Row) → Contains rs r → list_any (eq_by_cmp row_cmp r) rs ≡ true
contained [] r h = absurd (omega arith)
contained (q ∷ qs) r h = elim (contains_cases r q qs h) [
  | inl is ↦ or_left _ _ (ap (eq_by_cmp row_cmp r) (sym is) ∙ row_itself r)
  | inr j ↦ or_right (eq_by_cmp row_cmp r q) _ (contained qs r j)
]

pub has_contained : (M : Rows) (r : Row) → Contains (set.items M) r → has M r ≡ true
has_contained M r h = set.contains-items M r ∙ contained (set.items M) r h

-- ---- rows put together with what is found for them
pub in_matched : (f : Row → Row → Row) (look : Row → Rows) (M : Rows) (r q : Row) → has M r ≡ true → has (look r) q ≡ true → has (matched f look M) (f r q) ≡ true
unfolding matched
in_matched f look M r q i j =
    set.contains-from_list row_total _ (f r q)
    ∙ in_flat_map (eq_by_cmp row_cmp) tied_row row_itself (eq_by_cmp row_cmp) tied_row row_itself (λ x. map (f x) (set.items (look x))) (set.items M) r (f r q) (sym (set.contains-items M r) ∙ i)
    (in_map (eq_by_cmp row_cmp) tied_row row_itself (eq_by_cmp row_cmp) tied_row row_itself (f r) (set.items (look r)) q (sym (set.contains-items (look r) q) ∙ j))

pub from_matched : (f : Row → Row → Row) (look : Row → Rows) (M : Rows) (w : Row) → has (matched f look M) w ≡ true → (r : Row) × (q : Row) × (has M r ≡ true) × (has (look r) q ≡ true) × (w ≡ f r q)
unfolding matched
from_matched f look M w h =
    let u = from_flat_map (eq_by_cmp row_cmp) tied_row row_itself (eq_by_cmp row_cmp) tied_row row_itself (λ x. map (f x) (set.items (look x))) (set.items M) w (sym (set.contains-from_list row_total _ w) ∙ h) in
    let v = from_map (eq_by_cmp row_cmp) tied_row row_itself (eq_by_cmp row_cmp) tied_row row_itself (f u.0) (set.items (look u.0)) w u.2 in
    (u.0, v.0, set.contains-items M u.0 ∙ u.1, set.contains-items (look u.0) v.0 ∙ v.1, v.2)

-- pairs put together by another function that gives the same
pub matched_same : (f g : Row → Row → Row) (look : Row → Rows) (M : Rows) → ((r q : Row) → has M r ≡ true → has (look r) q ≡ true → f r q ≡ g r q) → matched f look M ≡ matched g look M
matched_same f g look M h = same_rel _ _
    (λ w i. let u = from_matched f look M w i in ap (has _) (u.4 ∙ h u.0 u.1 u.2 u.3) ∙ in_matched g look M u.0 u.1 u.2 u.3)
    (λ w i. let u = from_matched g look M w i in ap (has _) (u.4 ∙ sym (h u.0 u.1 u.2 u.3)) ∙ in_matched f look M u.0 u.1 u.2 u.3)

-- those that pass a test, as one list: what each row gives is tested as it is made
abbrev pub kept_pairs : (Row → Bool) → (Row → Row → Row) → (Row → Rows) → Row → List Row
kept_pairs p f look r = filter p (map (f r) (set.items (look r)))

in_kept_pairs : (p : Row → Bool) (f : Row → Row → Row) (look : Row → Rows) (r q : Row) → has (look r) q ≡ true → p (f r q) ≡ true → list_any (eq_by_cmp row_cmp (f r q)) (kept_pairs p f look r) ≡ true
in_kept_pairs p f look r q i t = in_filter (eq_by_cmp row_cmp) tied_row row_itself p (map (f r) (set.items (look r))) (f r q)
    (in_map (eq_by_cmp row_cmp) tied_row row_itself (eq_by_cmp row_cmp) tied_row row_itself (f r) (set.items (look r)) q (sym (set.contains-items (look r) q) ∙ i)) t

from_kept_pairs : (p : Row → Bool) (f : Row → Row → Row) (look : Row → Rows) (r w : Row) → list_any (eq_by_cmp row_cmp w) (kept_pairs p f look r) ≡ true → (q : Row) × (has (look r) q ≡ true) × (w ≡ f r q) × (p w ≡ true)
from_kept_pairs p f look r w i =
    let v = from_filter (eq_by_cmp row_cmp) tied_row row_itself p (map (f r) (set.items (look r))) w i in
    let t = from_map (eq_by_cmp row_cmp) tied_row row_itself (eq_by_cmp row_cmp) tied_row row_itself (f r) (set.items (look r)) w v.0 in
    (t.0, set.contains-items (look r) t.0 ∙ t.1, t.2, v.1)

pub matched_kept : (p : Row → Bool) (f : Row → Row → Row) (look : Row → Rows) (M : Rows) → those p (matched f look M) ≡ set.from_list (flat_map (kept_pairs p f look) (set.items M))
matched_kept p f look M =
    let all = flat_map (kept_pairs p f look) (set.items M) in
    same_rel _ _
    (λ w i.
    let v = from_those p (matched f look M) w i in
    let u = from_matched f look M w v.0 in
    set.contains-from_list row_total all w ∙ ap (λ z. list_any (eq_by_cmp row_cmp z) all) u.4
    ∙ in_flat_map (eq_by_cmp row_cmp) tied_row row_itself (eq_by_cmp row_cmp) tied_row row_itself (kept_pairs p f look) (set.items M) u.0 (f u.0 u.1) (sym (set.contains-items M u.0) ∙ u.2)
    (in_kept_pairs p f look u.0 u.1 u.3 (ap p (sym u.4) ∙ v.1)))
    (λ w i.
    let u = from_flat_map (eq_by_cmp row_cmp) tied_row row_itself (eq_by_cmp row_cmp) tied_row row_itself (kept_pairs p f look) (set.items M) w (sym (set.contains-from_list row_total all w) ∙ i) in
    let v = from_kept_pairs p f look u.0 w u.2 in
    let j = in_matched f look M u.0 v.0 (set.contains-items M u.0 ∙ u.1) v.1 in
    in_those p (matched f look M) w (ap (has (matched f look M)) v.2 ∙ j) v.3)

-- ---- one node
-- the set under the old name has what the set has: A where it has B, and no B
contains-old : (A B : Name) (C : Names) → ((c : Name) → set.contains C c ≡ true → eq_by_cmp bytes_cmp c A ≡ false) → (c : Name)
    → set.contains (renamed_names B A C) c ≡ cond (eq_by_cmp bytes_cmp c A) (set.contains C B) (cond (eq_by_cmp bytes_cmp c B) false (set.contains C c))
contains-old A B C apart c = elim (cases_Bool (eq_by_cmp bytes_cmp c A)) [
  | inl t ↦
      same_bool _ _
      (λ i.
      let w = from_renamed B A C c i in
      elim (cases_Bool (eq_by_cmp bytes_cmp w.0 B)) [
        | inl x ↦ ap (set.contains C) (sym (tied_name w.0 B x)) ∙ w.1
        | inr x ↦ absurd_false _ (ap (λ z. eq_by_cmp bytes_cmp z A) (sym (w.2 ∙ ap (λ y. cond y A w.0) x)) ∙ t) (apart w.0 w.1)
      ])
      (λ i. ap (set.contains (renamed_names B A C)) (tied_name c A t ∙ sym (ap (λ y. cond y A B) (name_itself B))) ∙ in_renamed B A C B i)
      ∙ sym (ap (λ b. cond b (set.contains C B) (cond (eq_by_cmp bytes_cmp c B) false (set.contains C c))) t)
  | inr f ↦
      elim (cases_Bool (eq_by_cmp bytes_cmp c B)) [
        | inl t ↦
            false_from_ne_true _ (λ i.
            let w = from_renamed B A C c i in
            elim (cases_Bool (eq_by_cmp bytes_cmp w.0 B)) [
              | inl x ↦ absurd_false _ (ap (λ z. eq_by_cmp bytes_cmp z A) (w.2 ∙ ap (λ y. cond y A w.0) x) ∙ name_itself A) f
              | inr x ↦ absurd_false _ (ap (λ z. eq_by_cmp bytes_cmp z B) (sym (w.2 ∙ ap (λ y. cond y A w.0) x)) ∙ t) x
            ])
            ∙ sym (ap (λ b. cond b false (set.contains C c)) t)
        | inr g ↦
            same_bool _ _
            (λ i.
            let w = from_renamed B A C c i in
            elim (cases_Bool (eq_by_cmp bytes_cmp w.0 B)) [
              | inl x ↦ absurd_false _ (ap (λ z. eq_by_cmp bytes_cmp z A) (w.2 ∙ ap (λ y. cond y A w.0) x) ∙ name_itself A) f
              | inr x ↦ ap (set.contains C) (w.2 ∙ ap (λ y. cond y A w.0) x) ∙ w.1
            ])
            (λ i. ap (set.contains (renamed_names B A C)) (sym (ap (λ y. cond y A c) g)) ∙ in_renamed B A C c i)
            ∙ sym (ap (λ b. cond b false (set.contains C c)) g)
      ]
      ∙ sym (ap (λ b. cond b (set.contains C B) (cond (eq_by_cmp bytes_cmp c B) false (set.contains C c))) f)
]

some_cond : (b d : Bool) (x y : Option Value) → is_some (cond b x (cond d None y)) ≡ cond b (is_some x) (cond d false (is_some y))
some_cond b d x y = grind arith

-- a key over new names is one over the old ones
pub over_renamed : (A B : Name) (C : Names) (k : Row) → ((c : Name) → set.contains C c ≡ true → eq_by_cmp bytes_cmp c A ≡ false) → IsOver C k → IsOver (renamed_names B A C) (renamed_row B A k)
over_renamed A B C k apart o c = simp (at-renamed, some_cond, o, ← contains-old)

-- a row of the source by a key within the part is one whose part is the row
pub has_part : (D X : Names) (M : Rows) (r : Row) → Within X D → list_any (λ m. eq_by_cmp row_cmp r (cut D m)) (set.items (find_by X (cut X r) M)) ≡ has (project D M) r
has_part D X M r w = same_bool _ _
    (λ h.
    let u = any_from (eq_by_cmp row_cmp) tied_row row_itself (λ m. eq_by_cmp row_cmp r (cut D m)) (set.items (find_by X (cut X r) M)) h in
    ap (has _) (tied_row r _ u.2) ∙ in_project D M u.0 (from_those (agree X (cut X r)) M u.0 (set.contains-items _ u.0 ∙ u.1)).0)
    (λ i.
    let u = from_project D M r i in
    let g : agree X (cut X r) u.0 ≡ true = agree_on X _ r _ (agree-cut X r) (agree_within X D r u.0 w (ap (λ z. agree D z u.0) u.2 ∙ agree-cut D u.0)) in
    any_at (eq_by_cmp row_cmp) tied_row row_itself (λ m. eq_by_cmp row_cmp r (cut D m)) (set.items (find_by X (cut X r) M)) u.0
    (sym (set.contains-items _ u.0) ∙ in_those (agree X (cut X r)) M u.0 u.1 g)
    (ap (λ z. eq_by_cmp row_cmp z (cut D u.0)) u.2 ∙ row_itself (cut D u.0)))

-- a join has a row that fits where each side has its part
pub has_in_join : (U V : Columns) (M N : Rows) → ((m : Row) → has M m ≡ true → Fits U m) → ((n : Row) → has N n ≡ true → Fits V n) → (r : Row) → Fits (both_columns U V) r
    → (has M (cut (names U) r) && has N (cut (names V) r)) ≡ has (join_get (names U) (names V) M N) r
has_in_join U V M N hM hN r o = grind (arith, same_bool, and_parts, in_natural, from_natural, and_from)

module _ (UC VC : Columns) (M N : Rows) (hM : (m : Row) → has M m ≡ true → Fits UC m) (hN : (n : Row) → has N n ≡ true → Fits VC n) where
  abbrev U : Names
  U = names UC

  abbrev V : Names
  V = names VC

  abbrev S : Names
  S = set.intersection U V

  -- the key's part on one side, against the row's part there
  part : (C W : Names) (k w : Row) → agree C k w ≡ true → agree (set.intersection C W) k (cut W w) ≡ true
  part C W k w g = agree_from _ k (cut W w) (λ c i.
      let b = from_shared C W c i in
      agree_at C k w g c b.0 ∙ sym (agree_at W (cut W w) w (agree-cut W w) c b.1))

  in_both : (C : Names) (k w : Row) (m n : Row) → agree C k w ≡ true → has M m ≡ true → has N n ≡ true → agree S m n ≡ true → w ≡ paste m V n → has (find_by C k (join_get U V M N)) w ≡ true
  unfolding join_get
  in_both C k w m n g i j a is = in_those (agree C k) _ w (ap (has _) is ∙ in_join S V M N m n i j a) g

  -- the left side is asked by its part of the key, and for each row found the right side by the shared columns
  pub left_first_is : (C : Names) (k : Row) → let P = set.intersection C U in
      those (agree C k) (matched (λ m n. paste m V n) (λ m. find_by S (cut S m) N) (find_by P (cut P k) M)) ≡ find_by C k (join_get U V M N)
  left_first_is C k =
      let P = set.intersection C U in
      same_rel _ _
      (λ w i.
      let v = from_those (agree C k) _ w i in
      let u = from_matched (λ m n. paste m V n) (λ m. find_by S (cut S m) N) _ w v.0 in
      let l = from_those (agree P (cut P k)) M u.0 u.2 in
      let r = from_those (agree S (cut S u.0)) N u.1 u.3 in
      in_both C k w u.0 u.1 v.1 l.0 r.0 (agree_on S u.0 _ u.1 (agree_back S _ u.0 (agree-cut S u.0)) r.1) u.4)
      (λ w i.
      let v = from_those (agree C k) _ w i in
      let e = from_natural UC VC M N hM hN w v.0 in
      let p = natural_paste UC VC M N hM hN w v.0 in
      in_those (agree C k) _ w (ap (has _) (sym p.0) ∙ in_matched (λ m n. paste m V n) (λ m. find_by S (cut S m) N) (find_by P (cut P k) M) (cut U w) (cut V w)
      (in_those (agree P (cut P k)) M _ e.0 (agree_on P _ k _ (agree-cut P k) (part C U k w v.1)))
      (in_those (agree S (cut S (cut U w))) N _ e.1 (agree_on S _ (cut U w) _ (agree-cut S (cut U w)) p.1))) v.1)

  -- the right side is asked by its part of the key, and for each row found the left side by the shared columns
  pub right_first_is : (C : Names) (k : Row) → let P = set.intersection C V in
      those (agree C k) (matched (λ n m. paste m V n) (λ n. find_by S (cut S n) M) (find_by P (cut P k) N)) ≡ find_by C k (join_get U V M N)
  right_first_is C k =
      let P = set.intersection C V in
      same_rel _ _
      (λ w i.
      let v = from_those (agree C k) _ w i in
      let u = from_matched (λ n m. paste m V n) (λ n. find_by S (cut S n) M) _ w v.0 in
      let r = from_those (agree P (cut P k)) N u.0 u.2 in
      let l = from_those (agree S (cut S u.0)) M u.1 u.3 in
      in_both C k w u.1 u.0 v.1 l.0 r.0 (agree_back S u.0 u.1 (agree_on S u.0 _ u.1 (agree_back S _ u.0 (agree-cut S u.0)) l.1)) u.4)
      (λ w i.
      let v = from_those (agree C k) _ w i in
      let e = from_natural UC VC M N hM hN w v.0 in
      let p = natural_paste UC VC M N hM hN w v.0 in
      in_those (agree C k) _ w (ap (has _) (sym p.0) ∙ in_matched (λ n m. paste m V n) (λ n. find_by S (cut S n) M) (find_by P (cut P k) N) (cut V w) (cut U w)
      (in_those (agree P (cut P k)) N _ e.1 (agree_on P _ k _ (agree-cut P k) (part C V k w v.1)))
      (in_those (agree S (cut S (cut V w))) M _ e.0 (agree_on S _ (cut V w) _ (agree-cut S (cut V w)) (agree_back S _ _ p.1)))) v.1)
