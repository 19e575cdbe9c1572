-- Walks along two strictly rising lists.
use Rattle.std.proofs.Common.{◌≡◌, ℕ, ◌+◌, ◌<◌, ◌≤◌, ◌-◌, List, [], ◌∷◌, ◌++◌, length, take, drop, get_or, ap, sym, subst, ◌∙◌, refl, Bool, true, false, cond, zero, suc, add-one, arith, append_assoc, map, append-nil, not, filter, Option, Some, find, ◌||◌}
use Rattle.plain_values.proofs.Common.{drop-cons, get_or_default, take_rest, Ordering, Less, Equal, Greater, match_ordering, eq_by_cmp, is_eq, ordering_reverse, on, AllByRecursion, list_any, IsStrictlySortedBy, IsTotalOrder, alike_right, tied_back, on_total, KeysRise, first_with, is_among}

All-map : {K : Type 0} {P Q : K → Type 0} → ((x : K) → P x → Q x) → (xs : List K) → AllByRecursion P xs → AllByRecursion Q xs
All-map f [] a = tt
All-map f (x ∷ xs) a = (f x a.0, All-map f xs a.1)

of_keys : {K X : Type 0} (key : X → K) (P : K → Type 0) (xs : List X) → AllByRecursion P (map key xs) → AllByRecursion (λ x. P (key x)) xs
of_keys key P [] a = tt
of_keys key P (x ∷ xs) a = (a.0, of_keys key P xs a.1)

to_keys : {K X : Type 0} (key : X → K) (P : K → Type 0) (xs : List X) → AllByRecursion (λ x. P (key x)) xs → AllByRecursion P (map key xs)
to_keys key P [] a = tt
to_keys key P (x ∷ xs) a = (a.0, to_keys key P xs a.1)

pub any_none : {K : Type 0} (test : K → Bool) (xs : List K) → AllByRecursion (λ x. test x ≡ false) xs → list_any test xs ≡ false
any_none test [] a = refl
any_none test (x ∷ xs) a = λ i. a.0 i || any_none test xs a.1 i

filter_alike : {K : Type 0} (test other : K → Bool) (xs : List K) → AllByRecursion (λ x. test x ≡ other x) xs → filter test xs ≡ filter other xs
filter_alike test other [] a = refl
filter_alike test other (x ∷ xs) a = λ i. cond (a.0 i) (x ∷ filter_alike test other xs a.1 i) (filter_alike test other xs a.1 i)

-- a member that fails the test changes nothing in what is found
find-without : {K : Type 0} (test : K → Bool) (xs : List K) (y : K) (ys : List K) → test y ≡ false → find test (xs ++ y ∷ ys) ≡ find test (xs ++ ys)
find-without test [] y ys e = ap (λ b. cond b (Some y) (find test ys)) e
find-without test (x ∷ xs) y ys e = ap (λ o. cond (test x) (Some x) o) (find-without test xs y ys e)

-- nor do some that all fail it
find-past : {K : Type 0} (test : K → Bool) (xs ys : List K) → AllByRecursion (λ x. test x ≡ false) xs → find test (xs ++ ys) ≡ find test ys
find-past test [] ys a = refl
find-past test (x ∷ xs) ys a = ap (λ b. cond b (Some x) (find test (xs ++ ys))) a.0 ∙ find-past test xs ys a.1

by_rank : {K : Type 0} (P : List K → Type 0) (k : Ordering) (xs ys zs : List K) → (k ≡ Less → P xs) → (k ≡ Equal → P ys) → (k ≡ Greater → P zs) → P (match_ordering k xs ys zs)
by_rank P Less xs ys zs a b c = a refl
by_rank P Equal xs ys zs a b c = b refl
by_rank P Greater xs ys zs a b c = c refl

drop_past : {K : Type 0} (xs : List K) (i : ℕ) → length xs ≤ i → drop i xs ≡ []
drop_past [] zero l = refl
drop_past [] (suc i) l = refl
drop_past (x ∷ xs) zero l = absurd (omega arith)
drop_past (x ∷ xs) (suc i) l = drop_past xs i (omega arith)

take_all : {K : Type 0} (xs : List K) (n : ℕ) → length xs ≤ n → take n xs ≡ xs
take_all [] zero l = refl
take_all [] (suc n) l = refl
take_all (x ∷ xs) zero l = absurd (omega arith)
take_all (x ∷ xs) (suc n) l = ap (λ l. x ∷ l) (take_all xs n (omega arith))

at_place : {K : Type 0} (xs : List K) (i : ℕ) (x : K) → i < length xs → x ≡ get_or xs i x → drop i xs ≡ x ∷ drop (i + 1) xs
at_place xs i x l e = drop-cons xs i x l ∙ ap (λ y. y ∷ drop (suc i) xs) (sym e) ∙ ap (λ n. x ∷ drop n xs) (sym (add-one i))

-- ---- the merge of two lists

module _ {K : Type 0} (R : K → K → Ordering) where
  -- x ∷ xs merged with the last argument, where `with` merges xs with a list
  abbrev pub merge_step : K → List K → (List K → List K) → List K → List K
  merge_step x xs with [] = x ∷ xs
  merge_step x xs with (y ∷ ys) = match_ordering (R x y) (x ∷ with (y ∷ ys)) (x ∷ with ys) (y ∷ merge_step x xs with ys)

  -- the two lists merged; of two equal members it keeps the first list's
  abbrev pub merge : List K → List K → List K
  merge [] ys = ys
  merge (x ∷ xs) ys = merge_step x xs (merge xs) ys

  abbrev Below : K → List K → Type 0
  Below x ys = AllByRecursion (λ y. R x y ≡ Less) ys

  merge-nil : (xs : List K) → merge xs [] ≡ xs
  merge-nil [] = refl
  merge-nil (x ∷ xs) = refl

  all_at : (P : K → Type 0) (x : K) (xs : List K) (with : List K → List K) → P x → AllByRecursion P xs → ((ys : List K) → AllByRecursion P ys → AllByRecursion P (with ys)) → (ys : List K) → AllByRecursion P ys → AllByRecursion P (merge_step x xs with ys)
  all_at P x xs with p a h [] b = (p, a)
  all_at P x xs with p a h (y ∷ ys) b = by_rank (AllByRecursion P) (R x y) _ _ _ (λ _. (p, h (y ∷ ys) b)) (λ _. (p, h ys b.1)) (λ _. (b.0, all_at P x xs with p a h ys b.1))

  all_merged : (P : K → Type 0) (xs ys : List K) → AllByRecursion P xs → AllByRecursion P ys → AllByRecursion P (merge xs ys)
  all_merged P [] ys a b = b
  all_merged P (x ∷ xs) ys a b = all_at P x xs (merge xs) a.0 a.1 (λ zs. all_merged P xs zs a.1) ys b

-- where one of the two is at its end
module _ {K : Type 0} (R : K → K → Ordering) (xs ys : List K) (i j : ℕ) where
  pub merge_ends : length xs ≤ i → merge R (drop i xs) (drop j ys) ≡ drop i xs ++ drop j ys
  merge_ends l = let e = drop_past xs i l in (λ k. merge R (e k) (drop j ys)) ∙ ap (λ l. l ++ drop j ys) (sym e)

  pub merge_ends_right : length ys ≤ j → merge R (drop i xs) (drop j ys) ≡ drop i xs ++ drop j ys
  merge_ends_right l =
      let e = drop_past ys j l in
      (λ k. merge R (drop i xs) (e k)) ∙ merge-nil R (drop i xs) ∙ sym (append-nil (drop i xs)) ∙ ap (λ l. drop i xs ++ l) (sym e)

  -- then what was merged is all, with the rest of both
  pub merged_all : (all first new whole : List K) → merge R (drop i xs) (drop j ys) ≡ drop i xs ++ drop j ys → first ≡ all ++ take (length xs - i) (drop i xs) → new ≡ first ++ take (length ys - j) (drop j ys)
      → all ++ merge R (drop i xs) (drop j ys) ≡ whole → new ≡ whole
  merged_all all first new whole ends one other h =
      other ∙ (λ k. (one ∙ ap (λ l. all ++ l) (take_rest xs i)) k ++ take_rest ys j k) ∙ append_assoc all (drop i xs) (drop j ys) ∙ ap (λ l. all ++ l) (sym ends) ∙ h

-- one turn of a merge that stands at x and at y, after `all`: it adds z, the first of what is still to come
module _ {K : Type 0} (R : K → K → Ordering) (xs ys all : List K) (i j : ℕ) (x y : K) (u : i < length xs) (v : j < length ys) (a : x ≡ get_or xs i x) (c : y ≡ get_or ys j y) where
  abbrev to_come : Ordering → List K
  to_come r = match_ordering r (x ∷ merge R (drop (i + 1) xs) (drop j ys)) (x ∷ merge R (drop (i + 1) xs) (drop (j + 1) ys)) (y ∷ merge R (drop i xs) (drop (j + 1) ys))

  turned : to_come (R x y) ≡ merge R (drop i xs) (drop j ys)
  turned =
      (λ k. match_ordering (R x y) (x ∷ merge R (drop (i + 1) xs) (at_place ys j y v c k)) (x ∷ merge R (drop (i + 1) xs) (drop (j + 1) ys)) (y ∷ merge R (at_place xs i x u a k) (drop (j + 1) ys)))
      ∙ (λ k. merge R (sym (at_place xs i x u a) k) (sym (at_place ys j y v c) k))

  pub turn : (r : Ordering) (w z : K) (next new whole : List K) → R x y ≡ r → to_come r ≡ w ∷ next → z ≡ w → new ≡ all ++ z ∷ [] → all ++ merge R (drop i xs) (drop j ys) ≡ whole → new ++ next ≡ whole
  turn r w z next new whole is first same added h =
      (λ k. (added ∙ ap (λ l. all ++ l ∷ []) same) k ++ next) ∙ append_assoc all (w ∷ []) next ∙ ap (λ l. all ++ l) (sym first ∙ ap to_come (sym is) ∙ turned) ∙ h

  pub from_left : (z : K) → z ≡ get_or xs i z → z ≡ x
  from_left z is = is ∙ get_or_default xs i z x u ∙ sym a

  pub from_right : (z : K) → z ≡ get_or ys j z → z ≡ y
  from_right z is = is ∙ get_or_default ys j z y v ∙ sym c

module _ {K : Type 0} {R : K → K → Ordering} (o : IsTotalOrder R) where
  pub under : (x y : K) → R x y ≡ Greater → R y x ≡ Less
  under x y h = o.antisymm y x ∙ ap ordering_reverse h

  pub apart : (x y : K) → R x y ≡ Less → eq_by_cmp R y x ≡ false
  apart x y h = ap is_eq (o.antisymm y x ∙ ap ordering_reverse h)

  pub below_all : (x y : K) (ys : List K) → R x y ≡ Less → Below R y ys → Below R x (y ∷ ys)
  below_all x y ys h a = (h, All-map {P = λ z. R y z ≡ Less} {Q = λ z. R x z ≡ Less} (λ z l. o.trans x y z h l) ys a)

  level_all : (x y : K) (ys : List K) → R x y ≡ Equal → Below R y ys → Below R x ys
  level_all x y ys h a = All-map {P = λ z. R y z ≡ Less} {Q = λ z. R x z ≡ Less} (λ z l. o.congr x y z h ∙ l) ys a

  rises_at : (x : K) (xs : List K) → IsStrictlySortedBy R (x ∷ xs) → ((ys : List K) → IsStrictlySortedBy R ys → IsStrictlySortedBy R (merge R xs ys)) → (ys : List K) → IsStrictlySortedBy R ys → IsStrictlySortedBy R (merge R (x ∷ xs) ys)
  unfolding IsStrictlySortedBy
  rises_at x xs s h [] t = s
  rises_at x xs s h (y ∷ ys) t = by_rank (IsStrictlySortedBy R) (R x y) _ _ _
      (λ k. (all_merged R (λ z. R x z ≡ Less) xs (y ∷ ys) s.0 (below_all x y ys k t.0), h (y ∷ ys) t))
      (λ k. (all_merged R (λ z. R x z ≡ Less) xs ys s.0 (level_all x y ys k t.0), h ys t.1))
      (λ k. (all_merged R (λ z. R y z ≡ Less) (x ∷ xs) ys (below_all y x xs (under x y k) s.0) t.0, rises_at x xs s h ys t.1))

  merge_rises : (xs ys : List K) → IsStrictlySortedBy R xs → IsStrictlySortedBy R ys → IsStrictlySortedBy R (merge R xs ys)
  unfolding IsStrictlySortedBy
  merge_rises [] ys s t = t
  merge_rises (x ∷ xs) ys s t = rises_at x xs s (λ zs. merge_rises xs zs s.1) ys t

  drop_rises : (xs : List K) (i : ℕ) → IsStrictlySortedBy R xs → IsStrictlySortedBy R (drop i xs)
  unfolding IsStrictlySortedBy
  drop_rises xs zero s = s
  drop_rises [] (suc i) s = s
  drop_rises (x ∷ xs) (suc i) s = drop_rises xs i s.1

-- ---- by keys

module _ {K X : Type 0} {R : K → K → Ordering} (o : IsTotalOrder R) (key : X → K) where
  by_members : (xs : List X) → KeysRise R key xs → IsStrictlySortedBy (on key R) xs
  unfolding IsStrictlySortedBy
  by_members [] s = tt
  by_members (x ∷ xs) s = (of_keys key (λ k. R (key x) k ≡ Less) xs s.0, by_members xs s.1)

  by_keys : (xs : List X) → IsStrictlySortedBy (on key R) xs → KeysRise R key xs
  unfolding IsStrictlySortedBy
  by_keys [] s = tt
  by_keys (x ∷ xs) s = (to_keys key (λ k. R (key x) k ≡ Less) xs s.0, by_keys xs s.1)

  pub merged_rises : (xs ys : List X) → KeysRise R key xs → KeysRise R key ys → KeysRise R key (merge (on key R) xs ys)
  merged_rises xs ys s t = by_keys _ (merge_rises (on_total key o) xs ys (by_members xs s) (by_members ys t))

  abbrev test : K → X → Bool
  test k x = eq_by_cmp R k (key x)

  -- a key that ties with y is none of those above it
  past_all : (k : K) (y : X) (xs : List X) → test k y ≡ true → Below (on key R) y xs → AllByRecursion (λ x. test k x ≡ false) xs
  past_all k y xs e a = All-map {P = λ x. R (key y) (key x) ≡ Less} {Q = λ x. test k x ≡ false} (λ x l. ap is_eq (o.congr k (key y) (key x) (is_tie (R k (key y)) e) ∙ l)) xs a
    where
      is_tie : (r : Ordering) → is_eq r ≡ true → r ≡ Equal
      is_tie Less e = cc
      is_tie Equal e = refl
      is_tie Greater e = cc

  as_first : (k : K) (x y : X) → R (key x) (key y) ≡ Equal → test k y ≡ test k x
  as_first k x y e = ap is_eq (sym (alike_right o (key x) (key y) k e))

  abbrev found : K → List X → Option X
  found k xs = find (test k) xs

  tied_next : (k : K) (x y : X) (xs ys : List X) → R (key x) (key y) ≡ Equal
      → cond (test k x) (Some x) (found k (xs ++ ys)) ≡ cond (test k x) (Some x) (found k (xs ++ y ∷ ys))
  tied_next k x y xs ys tie = elim (test k x) as (λ b. test k x ≡ b → cond b (Some x) (found k (xs ++ ys)) ≡ cond b (Some x) (found k (xs ++ y ∷ ys))) [
    | true ↦ λ _. refl
    | false ↦ λ e. sym (find-without (test k) xs y ys (as_first k x y tie ∙ e))
  ] refl

  before_all : (k : K) (y : X) (xs ys : List X) → Below (on key R) y xs → cond (test k y) (Some y) (found k (xs ++ ys)) ≡ found k (xs ++ y ∷ ys)
  before_all k y xs ys a = elim (test k y) as (λ b. test k y ≡ b → cond b (Some y) (found k (xs ++ ys)) ≡ found k (xs ++ y ∷ ys)) [
    | true ↦ λ e. sym (find-past (test k) xs (y ∷ ys) (past_all k y xs e a) ∙ ap (λ b. cond b (Some y) (found k ys)) e)
    | false ↦ λ e. sym (find-without (test k) xs y ys e)
  ] refl

  found_at : (k : K) (x : X) (xs : List X) → IsStrictlySortedBy (on key R) (x ∷ xs) → ((ys : List X) → found k (merge (on key R) xs ys) ≡ found k (xs ++ ys))
      → (ys : List X) → found k (merge (on key R) (x ∷ xs) ys) ≡ found k ((x ∷ xs) ++ ys)
  unfolding IsStrictlySortedBy
  found_at k x xs s h [] = ap (found k) (sym (append-nil (x ∷ xs)))
  found_at k x xs s h (y ∷ ys) = by_rank (λ l. found k l ≡ found k ((x ∷ xs) ++ y ∷ ys)) (R (key x) (key y)) _ _ _
      (λ _. ap (λ r. cond (test k x) (Some x) r) (h (y ∷ ys)))
      (λ tie. ap (λ r. cond (test k x) (Some x) r) (h ys) ∙ tied_next k x y xs ys tie)
      (λ r. ap (λ r. cond (test k y) (Some y) r) (found_at k x xs s h ys) ∙ before_all k y (x ∷ xs) ys (below_all (on_total key o) y x xs (under o (key x) (key y) r) s.0))

  found-merge : (k : K) (xs ys : List X) → IsStrictlySortedBy (on key R) xs → found k (merge (on key R) xs ys) ≡ found k (xs ++ ys)
  unfolding IsStrictlySortedBy
  found-merge k [] ys s = refl
  found-merge k (x ∷ xs) ys s = found_at k x xs s (λ zs. found-merge k xs zs s.1) ys

  -- at each key a merge has the first member of both lists
  pub first_with-merge : (xs ys : List X) (k : K) → KeysRise R key xs → first_with R key (merge (on key R) xs ys) k ≡ first_with R key (xs ++ ys) k
  first_with-merge xs ys k s = found-merge k xs ys (by_members xs s)

  -- ---- the members whose keys are among others

  -- the members whose keys are among the others, or else those whose keys are not
  abbrev pub kept : Bool → List X → List K → List X
  kept b xs ks = filter (λ x. cond b (is_among R ks (key x)) (not (is_among R ks (key x)))) xs

  pub missing-nil : (xs : List X) → kept false xs [] ≡ xs
  missing-nil [] = refl
  missing-nil (x ∷ xs) = ap (λ l. x ∷ l) (missing-nil xs)

  pub common-nil : (xs : List X) → kept true xs [] ≡ []
  common-nil [] = refl
  common-nil (x ∷ xs) = common-nil xs

  -- a key that is below each of the members changes nothing for them
  skip : (b : Bool) (k : K) (ks : List K) (xs : List X) → AllByRecursion (λ x. R k (key x) ≡ Less) xs → kept b xs (k ∷ ks) ≡ kept b xs ks
  skip b k ks xs a = filter_alike _ _ xs (All-map {P = λ x. R k (key x) ≡ Less} {Q = λ x. cond b (is_among R (k ∷ ks) (key x)) (not (is_among R (k ∷ ks) (key x))) ≡ cond b (is_among R ks (key x)) (not (is_among R ks (key x)))}
      (λ x l. ap (λ t. cond b (t || is_among R ks (key x)) (not (t || is_among R ks (key x)))) (apart o k (key x) l)) xs a)

  lacks : (k l : K) (ks : List K) → R k l ≡ Less → IsStrictlySortedBy R (l ∷ ks) → is_among R (l ∷ ks) k ≡ false
  unfolding IsStrictlySortedBy
  lacks k l ks less t = any_none (eq_by_cmp R k) (l ∷ ks) (All-map {P = λ z. R k z ≡ Less} {Q = λ z. eq_by_cmp R k z ≡ false} (λ z l. ap is_eq l) (l ∷ ks) (below_all o k l ks less t.0))

  chosen : (b t : Bool) → Bool
  chosen b t = cond b t (not t)

  kept_less : (b : Bool) (x : X) (k : K) (xs : List X) (ks : List K) → R (key x) k ≡ Less → IsStrictlySortedBy R (k ∷ ks) → kept b (x ∷ xs) (k ∷ ks) ≡ cond b (kept b xs (k ∷ ks)) (x ∷ kept b xs (k ∷ ks))
  kept_less true x k xs ks less t = ap (λ r. cond r (x ∷ kept true xs (k ∷ ks)) (kept true xs (k ∷ ks))) (lacks (key x) k ks less t)
  kept_less false x k xs ks less t = ap (λ r. cond (not r) (x ∷ kept false xs (k ∷ ks)) (kept false xs (k ∷ ks))) (lacks (key x) k ks less t)

  kept_greater : (b : Bool) (x : X) (k : K) (xs : List X) (ks : List K) → R (key x) k ≡ Greater → KeysRise R key (x ∷ xs) → kept b (x ∷ xs) (k ∷ ks) ≡ kept b (x ∷ xs) ks
  unfolding IsStrictlySortedBy
  kept_greater b x k xs ks more s = skip b k ks (x ∷ xs) (of_keys key (λ l. R k l ≡ Less) (x ∷ xs) (below_all o k (key x) (map key xs) (under o (key x) k more) s.0))

  kept_equal : (b : Bool) (x : X) (k : K) (xs : List X) (ks : List K) → R (key x) k ≡ Equal → KeysRise R key (x ∷ xs) → kept b (x ∷ xs) (k ∷ ks) ≡ cond b (x ∷ kept b xs ks) (kept b xs ks)
  unfolding IsStrictlySortedBy
  kept_equal true x k xs ks tie s =
      ap (λ r. cond (is_eq r || is_among R ks (key x)) (x ∷ kept true xs (k ∷ ks)) (kept true xs (k ∷ ks))) tie
      ∙ ap (λ l. x ∷ l) (skip true k ks xs (of_keys key (λ l. R k l ≡ Less) xs (level_all o k (key x) (map key xs) (tied_back o (key x) k tie) s.0)))
  kept_equal false x k xs ks tie s =
      ap (λ r. cond (not (is_eq r || is_among R ks (key x))) (x ∷ kept false xs (k ∷ ks)) (kept false xs (k ∷ ks))) tie
      ∙ skip false k ks xs (of_keys key (λ l. R k l ≡ Less) xs (level_all o k (key x) (map key xs) (tied_back o (key x) k tie) s.0))

  dropped_keys : (xs : List X) (i : ℕ) → KeysRise R key xs → KeysRise R key (drop i xs)
  dropped_keys xs i s = by_keys _ (drop_rises (on_total key o) xs i (by_members xs s))

  -- one turn of a walk along the members xs from i on and the keys ks from j on, after `all`
  module _ (xs all : List X) (ks : List K) (i j : ℕ) (x : X) (k : K) (u : i < length xs) (v : j < length ks) (a : x ≡ get_or xs i x) (c : k ≡ get_or ks j k) where
    abbrev left : ℕ → List X
    left n = drop n xs

    abbrev right : ℕ → List K
    right n = drop n ks

    opened : (b : Bool) → kept b (left i) (right j) ≡ kept b (x ∷ left (i + 1)) (k ∷ right (j + 1))
    opened b = λ z. kept b (at_place xs i x u a z) (at_place ks j k v c z)

    members_rise : KeysRise R key xs → KeysRise R key (x ∷ left (i + 1))
    members_rise s = subst (KeysRise R key) (at_place xs i x u a) (dropped_keys xs i s)

    keys_rise : IsStrictlySortedBy R ks → IsStrictlySortedBy R (k ∷ right (j + 1))
    keys_rise t = subst (IsStrictlySortedBy R) (at_place ks j k v c) (drop_rises o ks j t)

    -- a copy of the member was added
    pub pushed : (new : List X) (other : X) → new ≡ all ++ other ∷ [] → other ≡ get_or xs i other → new ≡ all ++ x ∷ []
    pushed new other added at = added ∙ ap (λ y. all ++ y ∷ []) (at ∙ get_or_default xs i other x u ∙ sym a)

    -- how the member's key, as it was read, stands to the other
    pub ranked : (own : K) (found rank : Ordering) → own ≡ key x → found ≡ R own k → found ≡ rank → R (key x) k ≡ rank
    ranked own found rank is e r = ap (λ l. R l k) (sym is) ∙ sym e ∙ r

    -- the key is above the member, and so are all that follow
    pub missing_less : (whole : List X) → IsStrictlySortedBy R ks → R (key x) k ≡ Less → all ++ kept false (left i) (right j) ≡ whole → (all ++ x ∷ []) ++ kept false (left (i + 1)) (right j) ≡ whole
    missing_less whole t r h =
        append_assoc all (x ∷ []) (kept false (left (i + 1)) (right j))
        ∙ ap (λ l. all ++ x ∷ kept false (left (i + 1)) l) (at_place ks j k v c)
        ∙ ap (λ l. all ++ l) (sym (opened false ∙ kept_less false x k (left (i + 1)) (right (j + 1)) r (keys_rise t))) ∙ h

    pub missing_pushed : (new whole : List X) → new ≡ all ++ x ∷ [] → IsStrictlySortedBy R ks → R (key x) k ≡ Less → all ++ kept false (left i) (right j) ≡ whole → new ++ kept false (left (i + 1)) (right j) ≡ whole
    missing_pushed new whole is t r h = ap (λ l. l ++ kept false (left (i + 1)) (right j)) is ∙ missing_less whole t r h

    pub common_less : (whole : List X) → IsStrictlySortedBy R ks → R (key x) k ≡ Less → all ++ kept true (left i) (right j) ≡ whole → all ++ kept true (left (i + 1)) (right j) ≡ whole
    common_less whole t r h =
        ap (λ l. all ++ kept true (left (i + 1)) l) (at_place ks j k v c)
        ∙ ap (λ l. all ++ l) (sym (opened true ∙ kept_less true x k (left (i + 1)) (right (j + 1)) r (keys_rise t))) ∙ h

    pub missing_equal : (whole : List X) → KeysRise R key xs → R (key x) k ≡ Equal → all ++ kept false (left i) (right j) ≡ whole → all ++ kept false (left (i + 1)) (right (j + 1)) ≡ whole
    missing_equal whole s r h = ap (λ l. all ++ l) (sym (opened false ∙ kept_equal false x k (left (i + 1)) (right (j + 1)) r (members_rise s))) ∙ h

    pub common_pushed : (new whole : List X) → new ≡ all ++ x ∷ [] → KeysRise R key xs → R (key x) k ≡ Equal → all ++ kept true (left i) (right j) ≡ whole → new ++ kept true (left (i + 1)) (right (j + 1)) ≡ whole
    common_pushed new whole is s r h =
        ap (λ l. l ++ kept true (left (i + 1)) (right (j + 1))) is
        ∙ append_assoc all (x ∷ []) (kept true (left (i + 1)) (right (j + 1)))
        ∙ ap (λ l. all ++ l) (sym (opened true ∙ kept_equal true x k (left (i + 1)) (right (j + 1)) r (members_rise s))) ∙ h

    pub kept_past : (b : Bool) (whole : List X) → KeysRise R key xs → R (key x) k ≡ Greater → all ++ kept b (left i) (right j) ≡ whole → all ++ kept b (left i) (right (j + 1)) ≡ whole
    kept_past b whole s r h =
        ap (λ l. all ++ kept b l (right (j + 1))) (at_place xs i x u a)
        ∙ ap (λ l. all ++ l) (sym (opened b ∙ kept_greater b x k (left (i + 1)) (right (j + 1)) r (members_rise s))) ∙ h

  -- where one of the two is at its end
  module _ (xs : List X) (ks : List K) (i j : ℕ) where
    pub missing_ends : length xs ≤ i → kept false (drop i xs) (drop j ks) ≡ drop i xs
    missing_ends l = let e = drop_past xs i l in ap (λ l. kept false l (drop j ks)) e ∙ sym e

    pub missing_ends_right : length ks ≤ j → kept false (drop i xs) (drop j ks) ≡ drop i xs
    missing_ends_right l = ap (λ l. kept false (drop i xs) l) (drop_past ks j l) ∙ missing-nil (drop i xs)

    pub common_ends : length xs ≤ i → kept true (drop i xs) (drop j ks) ≡ []
    common_ends l = ap (λ l. kept true l (drop j ks)) (drop_past xs i l)

    pub common_ends_right : length ks ≤ j → kept true (drop i xs) (drop j ks) ≡ []
    common_ends_right l = ap (λ l. kept true (drop i xs) l) (drop_past ks j l) ∙ common-nil (drop i xs)

    -- then what was kept is all, with the rest of the members or without it
    pub missing_all : (all new whole : List X) → kept false (drop i xs) (drop j ks) ≡ drop i xs → new ≡ all ++ take (length xs - i) (drop i xs) → all ++ kept false (drop i xs) (drop j ks) ≡ whole → new ≡ whole
    missing_all all new whole ends is h = is ∙ ap (λ l. all ++ l) (take_rest xs i ∙ sym ends) ∙ h

    pub common_all : (all whole : List X) → kept true (drop i xs) (drop j ks) ≡ [] → all ++ kept true (drop i xs) (drop j ks) ≡ whole → all ≡ whole
    common_all all whole ends h = sym (append-nil all) ∙ ap (λ l. all ++ l) (sym ends) ∙ h
