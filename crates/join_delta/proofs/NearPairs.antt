-- Pairs of left rows that the view lacks, found among those with the right rows near them.
use Rattle.std.proofs.Common.{◌≡◌, List, not, is_some, length, sym, ap, ◌∙◌, subst, true, inl, inr, arith}
use Rattle.plain_values.proofs.Common.{and_from, and_parts, false_from_ne_true, restrict, Row, absurd_false, same_bool}
use Rattle.plain_values.specs.SortedSet as set
use Rattle.lens_specs.specs.Common.{Columns, Fits, names, Delta, new_view, Name, Names, join_get, Rows, has, minus, those, agree, at, cut, paste}
use Rattle.lens_laws.proofs.Common.{found_each, from_found_each, from_new_view, in_found_each, in_new_view_added, in_new_view_kept, cut_right, from_natural}
use Rattle.fd_laws.proofs.Common.{fits_names, from_shared, from_minus, from_those, in_join, in_minus, in_those, same_rel, sets, from_join}
use Rattle.lens_laws.proofs.Join.{cut_left, in_natural}
use Rattle.row_sets.specs.Joins.{pairs_on}
use Rattle.row_sets.proofs.Natural.{natural_is}
use Rattle.join_delta.specs.Joined.{shared_names}
use Rattle.join_delta.specs.Pairs.{has_parts, shows}
use Rattle.join_delta.proofs.NoRows.{has_none}

-- no rows join to none
pub none_left : (U V : Names) (X N O over : Rows) (rows : List Row) → rows ≡ set.items X → length rows ≡ 0 → over ≡ set.empty → over ≡ minus (join_get U V X N) O
unfolding join_get
none_left U V X N O over rows listed none is = is ∙ same_rel _ _
    (λ r i. absurd_false _ i (set.contains-empty _ r))
    (λ r i.
    let p = from_join (set.intersection U V) V X N r (from_minus (join_get U V X N) O r i).0 in
    absurd_false _ p.2 (has_none X p.0 (ap length (sym listed) ∙ none)))

-- a row over the columns of one side has a value in each shared column
pub shared_left : (U V : Columns) (r : Row) → Fits U r → (c : Name) → set.contains (shared_names U V) c ≡ true → is_some (at r c) ≡ true
shared_left U V r fit c i = fits_names U r fit c ∙ (from_shared (names U) (names V) c i).0

pub shared_right : (U V : Columns) (r : Row) → Fits V r → (c : Name) → set.contains (shared_names U V) c ≡ true → is_some (at r c) ≡ true
shared_right U V r fit c i = fits_names V r fit c ∙ (from_shared (names U) (names V) c i).1

-- X are left rows; the right source is changed, and the join edited
module _ (U V : Columns) (M N X : Rows) (change d : Delta) (fit_left : (m : Row) → has M m ≡ true → Fits U m) (fit_right : (n : Row) → has N n ≡ true → Fits V n)
    (fit : (x : Row) → has X x ≡ true → Fits U x) (fit_new : (n : Row) → has change.add n ≡ true → Fits V n) where
  abbrev S : Names
  S = shared_names U V

  abbrev J : Rows
  J = join_get (names U) (names V) M N

  -- the right rows near them
  abbrev pub near : Rows
  near = new_view (found_each S N (set.items X)) change

  -- and the pairs with these
  abbrev pub pairs : Rows
  pairs = join_get (names U) (names V) X near

  -- those of the join as it was
  abbrev pub old : Rows
  old = those (has_parts (names U) (names V) M N) pairs

  near_fits : (n : Row) → has near n ≡ true → Fits V n
  near_fits n i = elim (from_new_view (found_each S N (set.items X)) change n i) [
    | inl w ↦ fit_right n (from_found_each S N (set.items X) n w.0)
    | inr j ↦ fit_new n j
  ]

  near_new : (n : Row) → has near n ≡ true → has (new_view N change) n ≡ true
  near_new n i = elim (from_new_view (found_each S N (set.items X)) change n i) [
    | inl w ↦ in_new_view_kept N change n (from_found_each S N (set.items X) n w.0) w.1
    | inr j ↦ in_new_view_added N change n j
  ]

  new_near : (x n : Row) → has X x ≡ true → has (new_view N change) n ≡ true → agree S x n ≡ true → has near n ≡ true
  new_near x n there i g = elim (from_new_view N change n i) [
    | inl w ↦ in_new_view_kept (found_each S N (set.items X)) change n (in_found_each S N (set.items X) x n (sym (set.contains-items X x) ∙ there) w.0 g) w.1
    | inr j ↦ in_new_view_added (found_each S N (set.items X)) change n j
  ]

  -- a pair, by its parts
  from_pairs : (q : Row) → has pairs q ≡ true → (x : Row) × (n : Row) × (has X x ≡ true) × (has near n ≡ true) × (agree S x n ≡ true) × (q ≡ paste x (names V) n)
  unfolding join_get
  from_pairs q i = from_join S (names V) X near q i

  in_pairs : (x n : Row) → has X x ≡ true → has near n ≡ true → agree S x n ≡ true → has pairs (paste x (names V) n) ≡ true
  unfolding join_get
  in_pairs x n i j g = in_join S (names V) X near x n i j g

  left_part : (x n : Row) → has X x ≡ true → has near n ≡ true → agree S x n ≡ true → cut (names U) (paste x (names V) n) ≡ x
  left_part x n i j g = cut_left U V X near fit near_fits x n i j g

  pub left_part_fits : (q : Row) → has pairs q ≡ true → Fits U (restrict (names U) q)
  unfolding cut
  left_part_fits q i =
      let p = from_pairs q i in
      subst (λ r. Fits U r) (sym (ap (cut (names U)) p.5 ∙ left_part p.0 p.1 p.2 p.3 p.4)) (fit p.0 p.2)

  pub right_part_fits : (q : Row) → has pairs q ≡ true → Fits V (restrict (names V) q)
  unfolding cut
  right_part_fits q i =
      let p = from_pairs q i in
      subst (λ r. Fits V r) (sym (ap (cut (names V)) p.5 ∙ cut_right U V X near fit near_fits p.0 p.1 p.2 p.3)) (near_fits p.1 p.3)

  -- a pair is in the join as it was where its parts are there
  old_is : (q : Row) → has pairs q ≡ true → has_parts (names U) (names V) M N q ≡ has J q
  unfolding cut
  old_is q i = same_bool _ _
      (λ t. let w = and_parts _ _ t in in_natural U V M N fit_left fit_right q (from_natural U V X near fit near_fits q i).2 w.0 w.1)
      (λ h. let w = from_natural U V M N fit_left fit_right q h in and_from _ _ w.0 w.1)

  in_view : (q : Row) → has pairs q ≡ true → has (new_view J d) q ≡ true → has (new_view old d) q ≡ true
  in_view q i h = elim (from_new_view J d q h) [
    | inl y ↦ in_new_view_kept old d q (in_those _ pairs q i (old_is q i ∙ y.0)) y.1
    | inr y ↦ in_new_view_added old d q y
  ]

  from_view : (q : Row) → has (new_view old d) q ≡ true → has (new_view J d) q ≡ true
  from_view q h = elim (from_new_view old d q h) [
    | inl y ↦ let w = from_those (has_parts (names U) (names V) M N) pairs q y.0 in in_new_view_kept J d q (sym (old_is q w.0) ∙ w.1) y.1
    | inr y ↦ in_new_view_added J d q y
  ]

  -- the pairs that the edited join lacks
  lacking_are : those (λ q. not (shows (names U) (names V) M N d q)) pairs ≡ minus pairs (new_view old d)
  unfolding new_view
  lacking_are = same_rel _ _ (λ r i. grind (arith, sets)) (λ r i. grind (arith, sets))

  -- all of them, whether near or not
  pairs_new : pairs ≡ join_get (names U) (names V) X (new_view N change)
  unfolding join_get
  pairs_new = same_rel _ _
      (λ q i.
      let p = from_join S (names V) X near q i in
      ap (has (join_get (names U) (names V) X (new_view N change))) p.5 ∙ in_join S (names V) X (new_view N change) p.0 p.1 p.2 (near_new p.1 p.3) p.4)
      (λ q i.
      let p = from_join S (names V) X (new_view N change) q i in
      ap (has pairs) p.5 ∙ in_join S (names V) X near p.0 p.1 p.2 (new_near p.0 p.1 p.2 p.3 p.4) p.4)

  -- those that the edited join lacks
  over_are : minus pairs (new_view old d) ≡ minus pairs (new_view J d)
  over_are = same_rel _ _
      (λ q i. let v = from_minus pairs (new_view old d) q i in in_minus pairs (new_view J d) q v.0 (false_from_ne_true _ (λ h. absurd_false _ (in_view q v.0 h) v.1)))
      (λ q i. let v = from_minus pairs (new_view J d) q i in in_minus pairs (new_view old d) q v.0 (false_from_ne_true _ (λ h. absurd_false _ (from_view q h) v.1)))

  -- the pairs as they are made
  pub pairs_are : pairs_on S X near ≡ pairs
  unfolding join_get
  pairs_are = natural_is U V X near near_fits

  -- pairs_are, from what the code makes one after the other
  module _ (SH UN VN : Names) (found made_near made_pairs : Rows) (sh : SH ≡ S) (un : UN ≡ names U) (vn : VN ≡ names V) (is_found : found ≡ found_each SH N (set.items X))
      (is_near : made_near ≡ new_view found change) (is_pairs : made_pairs ≡ pairs_on SH X made_near) where
    near_is : made_near ≡ near
    near_is = is_near ∙ ap (λ F. new_view F change) (is_found ∙ ap (λ C. found_each C N (set.items X)) sh)

    pub pairs_is : made_pairs ≡ pairs
    pairs_is = is_pairs ∙ (λ i. pairs_on (sh i) X (near_is i)) ∙ pairs_are

    pub left_fits : (q : Row) → has made_pairs q ≡ true → Fits U (restrict UN q)
    left_fits q i = subst (λ C. Fits U (restrict C q)) (sym un) (left_part_fits q (ap (λ P. has P q) (sym pairs_is) ∙ i))

    pub right_fits : (q : Row) → has made_pairs q ≡ true → Fits V (restrict VN q)
    right_fits q i = subst (λ C. Fits V (restrict C q)) (sym vn) (right_part_fits q (ap (λ P. has P q) (sym pairs_is) ∙ i))

    pub over_made : those (λ q. not (shows UN VN M N d q)) made_pairs ≡ minus (join_get (names U) (names V) X (new_view N change)) (new_view J d)
    over_made = (λ i. those (λ q. not (shows (un i) (vn i) M N d q)) (pairs_is i)) ∙ lacking_are ∙ over_are ∙ ap (λ P. minus P (new_view J d)) pairs_new
