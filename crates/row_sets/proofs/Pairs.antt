-- Pairs of rows that agree, and what an index of them finds.
use Rattle.std.proofs.Common.{◌≡◌, List, [], ◌∷◌, ◌++◌, ap, sym, ◌∙◌, refl, Bool, true, false, cond, map, inl, inr, get_or, arith, ◌||◌, ◌&&◌, filter, flat_map}
use Rattle.plain_values.proofs.Common.{Ordering, Less, Equal, Greater, AllByRecursion, list_any, eq_by_cmp, is_eq, is_gt, ordering_then, IsStrictlySortedBy, IsTotalOrder, on_total, then_total, tied_itself, IsAntisymmetric, cases_lt, list_any-append, Less-from_sorted, override, restrict, row_cmp, Row, row_cmp_total, row_cmp-IsAntisymmetric, is_tie, same_bool, then_equal, agree_parts}
use Rattle.plain_values.specs.SortedSet as set
use Rattle.lens_specs.specs.Common.{Names, agree, cut, Rows, image, project}
use Rattle.row_sets.specs.Joins.{entry_cmp, pairs_on, with_key}
use Rattle.lens_values.proofs.Groups.{Ascend}

or-true : (a : Bool) → (a || true) ≡ true
or-true true = refl
or-true false = refl

-- ---- lists

any-map : {X Y : Type 0} (p : Y → Bool) (f : X → Y) (xs : List X) → list_any p (map f xs) ≡ list_any (λ x. p (f x)) xs
any-map p f [] = refl
any-map p f (x ∷ xs) = ap (λ b. p (f x) || b) (any-map p f xs)

pub any-flat_map : {X Y : Type 0} (p : Y → Bool) (f : X → List Y) (xs : List X) → list_any p (flat_map f xs) ≡ list_any (λ x. list_any p (f x)) xs
any-flat_map p f [] = refl
any-flat_map p f (x ∷ xs) = list_any-append p (f x) (flat_map f xs) ∙ ap (λ b. list_any p (f x) || b) (any-flat_map p f xs)

pub any-filtered : {X Y : Type 0} (p : Y → Bool) (f : X → Y) (test : X → Bool) (xs : List X) → list_any p (map f (filter test xs)) ≡ list_any (λ x. test x && p (f x)) xs
any-filtered p f test [] = refl
any-filtered p f test (x ∷ xs) = elim (test x) as (λ b. list_any p (map f (cond b (x ∷ filter test xs) (filter test xs))) ≡ ((b && p (f x)) || list_any (λ x. test x && p (f x)) xs)) [
  | true ↦ ap (λ b. p (f x) || b) (any-filtered p f test xs)
  | false ↦ any-filtered p f test xs
]

any_alike : {X : Type 0} (p q : X → Bool) (xs : List X) → ((x : X) → p x ≡ q x) → list_any p xs ≡ list_any q xs
any_alike p q xs h = ap (λ t. list_any t xs) (λ i x. h x i)

module _ {K : Type 0} {R : K → K → Ordering} (o : IsTotalOrder R) (same : IsAntisymmetric R) where
  itself : (x : K) → eq_by_cmp R x x ≡ true
  itself x = ap is_eq (tied_itself o x)

  -- one that passes
  pub one_of : (p : K → Bool) (xs : List K) → list_any p xs ≡ true → (x : K) × (list_any (eq_by_cmp R x) xs ≡ true) × (p x ≡ true)
  one_of p [] h = cc
  one_of p (x ∷ xs) h = elim (p x) as (λ b. p x ≡ b → (b || list_any p xs) ≡ true → (y : K) × (list_any (eq_by_cmp R y) (x ∷ xs) ≡ true) × (p y ≡ true)) [
    | true ↦ λ e _. (x, ap (λ b. b || list_any (eq_by_cmp R x) xs) (itself x), e)
    | false ↦ λ e more. let w = one_of p xs more in (w.0, ap (λ b. eq_by_cmp R w.0 x || b) w.1 ∙ or-true (eq_by_cmp R w.0 x), w.2)
  ] refl h

  passes : (p : K → Bool) (x : K) (xs : List K) → list_any (eq_by_cmp R x) xs ≡ true → p x ≡ true → list_any p xs ≡ true
  passes p x [] h e = cc
  passes p x (y ∷ ys) h e = elim (eq_by_cmp R x y) as (λ b. eq_by_cmp R x y ≡ b → (b || list_any (eq_by_cmp R x) ys) ≡ true → (p y || list_any p ys) ≡ true) [
    | true ↦ λ tie _. ap (λ b. b || list_any p ys) (ap p (sym (same x y (is_tie (R x y) tie))) ∙ e)
    | false ↦ λ _ more. ap (λ b. p y || b) (passes p x ys more e) ∙ or-true (p y)
  ] refl h

  same_members : (xs ys : List K) → ((x : K) → list_any (eq_by_cmp R x) xs ≡ list_any (eq_by_cmp R x) ys) → (p : K → Bool) → list_any p xs ≡ list_any p ys
  same_members xs ys alike p = same_bool _ _
      (λ h. let w = one_of p xs h in passes p w.0 ys (sym (alike w.0) ∙ w.1) w.2)
      (λ h. let w = one_of p ys h in passes p w.0 xs (alike w.0 ∙ w.1) w.2)

  -- what holds of each member, by recursion
  pub all_members : (P : K → Type 0) (xs : List K) → ((x : K) → list_any (eq_by_cmp R x) xs ≡ true → P x) → AllByRecursion P xs
  all_members P [] h = tt
  all_members P (x ∷ xs) h = (h x (ap (λ b. b || list_any (eq_by_cmp R x) xs) (itself x)), all_members P xs (λ y there. h y (ap (λ b. eq_by_cmp R y x || b) there ∙ or-true (eq_by_cmp R y x))))

-- ---- rows that agree

-- ---- an index

entry_cmp_total : IsTotalOrder entry_cmp
entry_cmp_total = then_total (on_total (λ e. e.0) row_cmp_total) (on_total (λ e. e.1) row_cmp_total)

entry_cmp-IsAntisymmetric : IsAntisymmetric entry_cmp
entry_cmp-IsAntisymmetric e f tie =
    let both = then_equal (row_cmp e.0 f.0) (row_cmp e.1 f.1) tie in
    λ i. (row_cmp-IsAntisymmetric e.0 f.0 both.0 i, row_cmp-IsAntisymmetric e.1 f.1 both.1 i)

-- what the index of a set pairs, the set pairs
pub paired_is : (C : Names) (M N : Rows) (index : List (Row × Row))
    → ((e : Row × Row) → list_any (eq_by_cmp entry_cmp e) index ≡ list_any (eq_by_cmp entry_cmp e) (map (with_key C) (set.items N)))
    → set.from_list (flat_map (λ m. map (λ e. override e.1 m) (filter (λ e. is_eq (row_cmp e.0 (restrict C m))) index)) (set.items M)) ≡ pairs_on C M N
paired_is C M N index alike = set.same_set row_cmp_total row_cmp-IsAntisymmetric _ _ (λ q.
    let tied : Row → Bool = eq_by_cmp row_cmp q in
    set.contains-from_list row_cmp_total (flat_map (λ m. map (λ e. override e.1 m) (filter (λ e. is_eq (row_cmp e.0 (restrict C m))) index)) (set.items M)) q
    ∙ any-flat_map tied (λ m. map (λ e. override e.1 m) (filter (λ e. is_eq (row_cmp e.0 (restrict C m))) index)) (set.items M)
    ∙ any_alike _ _ (set.items M) (λ m.
    any-filtered tied (λ e. override e.1 m) (λ e. is_eq (row_cmp e.0 (restrict C m))) index
    ∙ same_members entry_cmp_total entry_cmp-IsAntisymmetric index (map (with_key C) (set.items N)) alike (λ e. is_eq (row_cmp e.0 (restrict C m)) && tied (override e.1 m))
    ∙ any-map (λ e. is_eq (row_cmp e.0 (restrict C m)) && tied (override e.1 m)) (with_key C) (set.items N)
    ∙ any_alike _ _ (set.items N) (λ n. ap (λ b. b && tied (override n m)) (agree_parts C m n))
    ∙ sym (any-filtered tied (λ n. override n m) (agree C m) (set.items N)))
    ∙ sym (any-flat_map tied (λ m. map (λ n. override n m) (filter (agree C m) (set.items N))) (set.items M))
    ∙ sym (set.contains-from_list row_cmp_total (flat_map (λ m. map (λ n. override n m) (filter (agree C m) (set.items N))) (set.items M)) q))

map-append : {X Y : Type 0} (f : X → Y) (xs ys : List X) → map f (xs ++ ys) ≡ map f xs ++ map f ys
map-append f [] ys = refl
map-append f (x ∷ xs) ys = ap (λ l. f x ∷ l) (map-append f xs ys)

map-map : {X Y Z : Type 0} (f : Y → Z) (g : X → Y) (xs : List X) → map f (map g xs) ≡ map (λ x. f (g x)) xs
map-map f g [] = refl
map-map f g (x ∷ xs) = ap (λ l. f (g x) ∷ l) (map-map f g xs)

-- the images of what each row makes
each_image : {X Y Z W : Type 0} (f : Z → W) (with : X → Y → Z) (some : X → List Y) (xs : List X)
    → flat_map (λ x. map (λ y. f (with x y)) (some x)) xs ≡ map f (flat_map (λ x. map (with x) (some x)) xs)
each_image f with some [] = refl
each_image f with some (x ∷ xs) =
    (λ i. sym (map-map f (with x) (some x)) i ++ each_image f with some xs i)
    ∙ sym (map-append f (map (with x) (some x)) (flat_map (λ y. map (with y) (some y)) xs))

-- the parts of the rows of a list are those of its set
listed_parts : (C : Names) (rows : List Row) → set.from_list (map (restrict C) rows) ≡ project C (set.from_list rows)
unfolding project image cut
listed_parts C rows = set.same_set row_cmp_total row_cmp-IsAntisymmetric _ _ (λ q.
    let tied : Row → Bool = eq_by_cmp row_cmp q in
    set.contains-from_list row_cmp_total (map (restrict C) rows) q
    ∙ any-map tied (restrict C) rows
    ∙ same_members row_cmp_total row_cmp-IsAntisymmetric rows (set.items (set.from_list rows))
    (λ r. sym (set.contains-from_list row_cmp_total rows r) ∙ set.contains-items (set.from_list rows) r) (λ r. tied (restrict C r))
    ∙ sym (any-map tied (restrict C) (set.items (set.from_list rows)))
    ∙ sym (set.contains-from_list row_cmp_total (map (restrict C) (set.items (set.from_list rows))) q))

-- and the parts of what the index pairs are those of the pairs
pub parts_paired : (C K : Names) (M N : Rows) (index : List (Row × Row))
    → ((e : Row × Row) → list_any (eq_by_cmp entry_cmp e) index ≡ list_any (eq_by_cmp entry_cmp e) (map (with_key C) (set.items N)))
    → set.from_list (flat_map (λ m. map (λ e. restrict K (override e.1 m)) (filter (λ e. is_eq (row_cmp e.0 (restrict C m))) index)) (set.items M)) ≡ project K (pairs_on C M N)
parts_paired C K M N index alike =
    let found : Row → List (Row × Row) = λ m. filter (λ e. is_eq (row_cmp e.0 (restrict C m))) index in
    ap set.from_list (each_image (restrict K) (λ m e. override e.1 m) found (set.items M))
    ∙ listed_parts K (flat_map (λ m. map (λ e. override e.1 m) (found m)) (set.items M))
    ∙ ap (project K) (paired_is C M N index alike)

first_no_higher : (a b : Ordering) → ordering_then a b ≡ Less → is_gt a ≡ false
first_no_higher Less b e = refl
first_no_higher Equal b e = refl
first_no_higher Greater b e = cc

-- the parts of an index ascend
pub parts_ascend : (index : List (Row × Row)) → IsStrictlySortedBy entry_cmp index → Ascend row_cmp_total (λ e. e.0) index
parts_ascend index s i j d l h = elim (cases_lt i j) [
  | inl less ↦ first_no_higher _ (row_cmp (get_or index i d).1 (get_or index j d).1) (Less-from_sorted entry_cmp index i j d s less h)
  | inr more ↦
      let same : i ≡ j = omega arith in
      ap (λ k. is_gt (row_cmp (get_or index i d).0 (get_or index k d).0)) (sym same) ∙ ap is_gt (tied_itself row_cmp_total (get_or index i d).0)
]
