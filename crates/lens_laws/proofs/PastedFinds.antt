-- What a join finds, as the list that a loop makes of the rows found on both sides.
use Rattle.std.proofs.Common.{◌≡◌, cond, List, ◌++◌, map, is_some, sym, ap, ◌∙◌, subst, flat_map, filter, arith}
use Rattle.plain_values.proofs.Common.{Contains, bytes_cmp, override, restrict, Row}
use Rattle.std.specs.FinMap as finmap
use Rattle.plain_values.specs.SortedSet as set
use Rattle.fd_laws.proofs.Common.{fits_names, name_total, from_shared, from_those, same_row, at-paste}
use Rattle.fd_laws.proofs.Columns.{find-append}
use Rattle.lens_laws.proofs.NodeFinds.{cut_is_over, fits_is_over, has_contained, matched_same, matched_kept, left_first_is, right_first_is}
use Rattle.lens_specs.specs.Common.{Columns, Fits, names, Names, Within, join_get, Rows, those, at, agree, paste, cut}
use Rattle.lens_laws.specs.Finds.{AllFit, IsOver}
use Rattle.lens_laws.specs.KeyedDeltas.{find_by}

at-both : (n m : Row) (c : _) → at (override n m) c ≡ cond (is_some (at n c)) (at n c) (at m c)
at-both n m c = finmap.get-from_entries name_total (finmap.entries n ++ finmap.entries m) c ∙ find-append (finmap.entries n) (finmap.entries m) c
    ∙ ap (λ o. cond (is_some o) o (finmap.find bytes_cmp c (finmap.entries m))) (sym (finmap.get-entries n c))
    ∙ ap (λ o. cond (is_some (at n c)) (at n c) o) (sym (finmap.get-entries m c))

-- two rows put together are the one pasted with the other, where that has just the columns
pub both_is_paste : (V : Columns) (m n : Row) → Fits V n → override n m ≡ paste m (names V) n
both_is_paste V m n h = same_row _ _ (λ c. at-both n m c ∙ ap (λ b. cond b (at n c) (at m c)) (fits_names V n h c) ∙ sym (at-paste m (names V) n c))

module _ (UC VC : Columns) (M N : Rows) (hM : AllFit UC M) (hN : AllFit VC N) (C : Names) (k : Row) where
  abbrev U : Names
  U = names UC

  abbrev V : Names
  V = names VC

  abbrev S : Names
  S = set.intersection (names UC) (names VC)

  pub left_list_is : let P = set.intersection C U in
      set.from_list (flat_map (λ m. filter (agree C k) (map (λ n. override n m) (set.items (find_by S (cut S m) N)))) (set.items (find_by P (cut P k) M))) ≡ find_by C k (join_get U V M N)
  left_list_is =
      let P = set.intersection C U in
      let found = find_by P (cut P k) M in
      sym (matched_kept (agree C k) (λ m n. override n m) (λ m. find_by S (cut S m) N) found)
      ∙ ap (those (agree C k)) (matched_same (λ m n. override n m) (λ m n. paste m V n) (λ m. find_by S (cut S m) N) found
      (λ m n i j. both_is_paste VC m n (hN n (from_those (agree S (cut S m)) N n j).0)))
      ∙ left_first_is UC VC M N hM hN C k

  pub right_list_is : let P = set.intersection C V in
      set.from_list (flat_map (λ n. filter (agree C k) (map (λ m. override n m) (set.items (find_by S (cut S n) M)))) (set.items (find_by P (cut P k) N))) ≡ find_by C k (join_get U V M N)
  right_list_is =
      let P = set.intersection C V in
      let found = find_by P (cut P k) N in
      sym (matched_kept (agree C k) (λ n m. override n m) (λ n. find_by S (cut S n) M) found)
      ∙ ap (those (agree C k)) (matched_same (λ n m. override n m) (λ n m. paste m V n) (λ n. find_by S (cut S n) M) found
      (λ n m i j. both_is_paste VC m n (hN n (from_those (agree P (cut P k)) N n i).0)))
      ∙ right_first_is UC VC M N hM hN C k

-- ---- the lists that a join finds, with names for the steps of a function: the names of both sides, those shared, the key's part, the key cut down, and what the first look-up gives
-- a row that one side gives has the columns of that side, so also those shared
pub found_are_over : (U : Columns) (S P : Names) (q : Row) (M F : Rows) (rows : List Row) → AllFit U M → Within S (names U) → F ≡ find_by P q M → rows ≡ set.items F → (m : Row) → Contains rows m → IsOver S (restrict S m)
unfolding cut
found_are_over U S P q M F rows h w eF er m i =
    cut_is_over (names U) S m (fits_is_over U m (h m (from_those (agree P q) M m (has_contained _ m (subst (λ z. Contains z m) (er ∙ ap set.items eF) i))).0)) w

pub shared_within : (U V : Columns) (L R S : Names) → L ≡ names U → R ≡ names V → S ≡ set.intersection L R → Within S (names U) × Within S (names V)
shared_within U V L R S eL eR eS = grind (arith, from_shared)

module _ (UC VC : Columns) (M N : Rows) (hM : AllFit UC M) (hN : AllFit VC N) (C : Names) (k : Row) (L R S P : Names) (q : Row) (F : Rows) (rows pairs : List Row)
    (eL : L ≡ names UC) (eR : R ≡ names VC) (eS : S ≡ set.intersection L R) (eq : q ≡ restrict P k) (er : rows ≡ set.items F) where
  same_shared : S ≡ set.intersection (names UC) (names VC)
  same_shared = eS ∙ ap (λ z. set.intersection z R) eL ∙ ap (set.intersection (names UC)) eR

  pub left_pairs_are : P ≡ set.intersection C L → F ≡ find_by P q M → pairs ≡ flat_map (λ m. filter (agree C k) (map (λ n. override n m) (set.items (find_by S (restrict S m) N)))) rows → set.from_list pairs ≡ find_by C k (join_get (names UC) (names VC) M N)
  unfolding cut
  left_pairs_are eP eF ep =
      let list : Names → Row → List Row = λ Z m. filter (agree C k) (map (λ n. override n m) (set.items (find_by Z (restrict Z m) N))) in
      let f : F ≡ find_by (set.intersection C (names UC)) (restrict (set.intersection C (names UC)) k) M = eF ∙ ap (λ z. find_by P z M) eq ∙ ap (λ z. find_by z (restrict z k) M) (eP ∙ ap (set.intersection C) eL) in
      ap set.from_list (ep ∙ ap (λ z. flat_map (list z) rows) same_shared ∙ ap (flat_map (list (set.intersection (names UC) (names VC)))) (er ∙ ap set.items f))
      ∙ left_list_is UC VC M N hM hN C k

  pub right_pairs_are : P ≡ set.intersection C R → F ≡ find_by P q N → pairs ≡ flat_map (λ n. filter (agree C k) (map (λ m. override n m) (set.items (find_by S (restrict S n) M)))) rows → set.from_list pairs ≡ find_by C k (join_get (names UC) (names VC) M N)
  unfolding cut
  right_pairs_are eP eF ep =
      let list : Names → Row → List Row = λ Z n. filter (agree C k) (map (λ m. override n m) (set.items (find_by Z (restrict Z n) M))) in
      let f : F ≡ find_by (set.intersection C (names VC)) (restrict (set.intersection C (names VC)) k) N = eF ∙ ap (λ z. find_by P z N) eq ∙ ap (λ z. find_by z (restrict z k) N) (eP ∙ ap (set.intersection C) eR) in
      ap set.from_list (ep ∙ ap (λ z. flat_map (list z) rows) same_shared ∙ ap (flat_map (list (set.intersection (names UC) (names VC)))) (er ∙ ap set.items f))
      ∙ right_list_is UC VC M N hM hN C k
