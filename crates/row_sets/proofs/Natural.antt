-- The natural join of relations, by putting agreeing rows together.
use Rattle.std.proofs.Common.{◌≡◌, List, [], ◌∷◌, ◌++◌, ap, sym, subst, ◌∙◌, refl, Bool, true, false, cond, map, ◌||◌, ◌&&◌, filter, flat_map, is_some, Option, Some, None}
use Rattle.plain_values.proofs.Common.{AllByRecursion, list_any, eq_by_cmp, nat_list_cmp_total, bytes_cmp, override, row_cmp, Row, row_cmp_total, row_cmp-IsAntisymmetric, keys_rise, exact, fits_same, is_tie, first_holds, second_holds}
use Rattle.std.specs.FinMap as finmap
use Rattle.plain_values.specs.SortedSet as set
use Rattle.plain_values.specs.declared.value.Kind.{Kind}
use Rattle.plain_values.specs.declared.value.Value.{Value}
use Rattle.lens_specs.specs.Common.{Name, Names, agree, paste, with_at, Columns, Fits, fits_at, names, Rows, paste_list, joined_with, natural}
use Rattle.plain_values.proofs.Agreement.{agree_at}
use Rattle.lens_specs.specs.Relation.{join}
use Rattle.row_sets.specs.Joins.{pairs_on}
use Rattle.row_sets.proofs.Pairs.{all_members, any-filtered, any-flat_map, one_of}

abbrev pub first_of : {X : Type 0} → Option X → Option X → Option X
first_of None later = later
first_of (Some x) later = Some x

-- ---- what two maps have put together

module _ {X : Type 0} where
  found : (b : Bool) (x : X) (o p q : Option X) → p ≡ first_of o q → cond b (Some x) p ≡ first_of (cond b (Some x) o) q
  found true x o p q e = refl
  found false x o p q e = e

  find_either : (es fs : List (Name × X)) (c : Name) → finmap.find bytes_cmp c (es ++ fs) ≡ first_of (finmap.find bytes_cmp c es) (finmap.find bytes_cmp c fs)
  find_either [] fs c = refl
  find_either (e ∷ es) fs c = found (eq_by_cmp bytes_cmp c e.0) e.1 _ _ _ (find_either es fs c)

  pub get-both : (m n : finmap.FinMap bytes_cmp X) (c : Name) → finmap.get (override m n) c ≡ first_of (finmap.get m c) (finmap.get n c)
  get-both m n c = finmap.get-from_entries nat_list_cmp_total (finmap.entries m ++ finmap.entries n) c ∙ find_either (finmap.entries m) (finmap.entries n) c
      ∙ sym (λ i. first_of (finmap.get-entries m c i) (finmap.get-entries n c i))

-- ---- a pasted row

get-with_at : (r : Row) (d : Name) (o : Option Value) (c : Name) → finmap.get (with_at r d o) c ≡ cond (eq_by_cmp bytes_cmp c d) o (finmap.get r c)
unfolding with_at
get-with_at r d None c = finmap.get-remove nat_list_cmp_total r d c
get-with_at r d (Some v) c = finmap.get-insert nat_list_cmp_total r d v c

chosen : (tie there : Bool) (mine own other : Option Value) → (tie ≡ true → mine ≡ own) → cond tie mine (cond there own other) ≡ cond (tie || there) own other
chosen true there mine own other e = e refl
chosen false there mine own other e = refl

get-paste_list : (r l : Row) (cs : List Name) (c : Name) → finmap.get (paste_list r cs l) c ≡ cond (list_any (eq_by_cmp bytes_cmp c) cs) (finmap.get l c) (finmap.get r c)
unfolding paste_list
get-paste_list r l [] c = refl
get-paste_list r l (d ∷ cs) c =
    get-with_at (paste_list r cs l) d (finmap.get l d) c
    ∙ ap (cond (eq_by_cmp bytes_cmp c d) (finmap.get l d)) (get-paste_list r l cs c)
    ∙ chosen (eq_by_cmp bytes_cmp c d) (list_any (eq_by_cmp bytes_cmp c) cs) (finmap.get l d) (finmap.get l c) (finmap.get r c)
    (λ tie. ap (finmap.get l) (sym (exact c d (is_tie (bytes_cmp c d) tie))))

in_names : (V : Columns) (c : Name) → list_any (eq_by_cmp bytes_cmp c) (set.items (names V)) ≡ is_some (finmap.get V c)
unfolding names
in_names V c = ap (list_any (eq_by_cmp bytes_cmp c)) (set.items-from_list nat_list_cmp_total (finmap.keys V) (keys_rise bytes_cmp V)) ∙ sym (finmap.contains_key-keys V c)

where_fits : (o p : Option Value) (k : Option Kind) → fits_at o k ≡ true → cond (is_some k) o p ≡ first_of o p
where_fits None p None e = refl
where_fits None p (Some k) e = cc
where_fits (Some v) p None e = cc
where_fits (Some v) p (Some k) e = refl

-- pasted with a row over V, a row has what that row has, and else its own
paste_is : (V : Columns) (m n : Row) → Fits V n → paste m (names V) n ≡ override n m
unfolding paste
paste_is V m n fits = finmap.same_map nat_list_cmp_total exact _ _ (λ c.
    get-paste_list m n (set.items (names V)) c ∙ ap (λ b. cond b (finmap.get n c) (finmap.get m c)) (in_names V c)
    ∙ where_fits (finmap.get n c) (finmap.get m c) (finmap.get V c) (fits c) ∙ sym (get-both n m c))

pasted_are : (S : Names) (V : Columns) (m : Row) (ns : List Row) → AllByRecursion (Fits V) ns → map (λ n. override n m) (filter (agree S m) ns) ≡ joined_with S (names V) m ns
pasted_are S V m [] a = refl
pasted_are S V m (n ∷ ns) a = elim (agree S m n) as (λ b. map (λ n. override n m) (cond b (n ∷ filter (agree S m) ns) (filter (agree S m) ns)) ≡ map (λ n. paste m (names V) n) (cond b (n ∷ filter (agree S m) ns) (filter (agree S m) ns))) [
  | true ↦ λ i. sym (paste_is V m n a.0) i ∷ pasted_are S V m ns a.1 i
  | false ↦ pasted_are S V m ns a.1
]

-- the pairs that agree on the shared columns are the natural join
pub natural_is : (U V : Columns) (M N : Rows) → ((n : Row) → set.contains N n ≡ true → Fits V n) → pairs_on (set.intersection (names U) (names V)) M N ≡ natural (names U) (names V) M N
unfolding join
natural_is U V M N fit =
    let all : AllByRecursion (Fits V) (set.items N) = all_members row_cmp_total row_cmp-IsAntisymmetric (Fits V) (set.items N) (λ n there. fit n (set.contains-items N n ∙ there)) in
    ap (λ f. set.from_list (flat_map f (set.items M))) (λ i m. pasted_are (set.intersection (names U) (names V)) V m (set.items N) all i)

-- ---- and they fit the columns of both

-- the first of two values fits in the first of two columns, where both values are equal if both columns are there
one_fits : (mine other : Option Value) (k j : Option Kind) → fits_at mine k ≡ true → fits_at other j ≡ true → ((is_some k && is_some j) ≡ true → mine ≡ other)
    → fits_at (first_of other mine) (first_of k j) ≡ true
one_fits mine None None None e f same = e
one_fits mine None None (Some j) e f same = cc
one_fits mine None (Some k) None e f same = e
one_fits mine None (Some k) (Some j) e f same = cc
one_fits mine (Some w) None j e f same = f
one_fits mine (Some w) (Some k) None e f same = cc
one_fits mine (Some w) (Some k) (Some j) e f same = ap (λ o. fits_at o (Some k)) (sym (same refl)) ∙ e

in_both : (U V : Columns) (c : Name) → (is_some (finmap.get U c) && is_some (finmap.get V c)) ≡ true → set.contains (set.intersection (names U) (names V)) c ≡ true
in_both U V c both = set.contains-intersection nat_list_cmp_total (names U) (names V) c
    ∙ (λ i. (set.contains-items (names U) c ∙ in_names U c) i && (set.contains-items (names V) c ∙ in_names V c) i) ∙ both

pair_fits : (U V : Columns) (m n : Row) → Fits U m → Fits V n → agree (set.intersection (names U) (names V)) m n ≡ true → Fits (override U V) (override n m)
pair_fits U V m n fit fit' agrees c =
    fits_same _ _ _ _ (sym (get-both n m c)) (sym (get-both U V c))
    (one_fits (finmap.get m c) (finmap.get n c) (finmap.get U c) (finmap.get V c) (fit c) (fit' c) (λ both. agree_at (set.intersection (names U) (names V)) m n agrees c (in_both U V c both)))

-- a row of the right side agrees with the row of the left one, and the row is their pair
right_of : (S : Names) (N : Rows) (m row : Row) → list_any (eq_by_cmp row_cmp row) (map (λ n. override n m) (filter (agree S m) (set.items N))) ≡ true
    → (n : Row) × (set.contains N n ≡ true) × (agree S m n ≡ true) × (row ≡ override n m)
right_of S N m row there =
    let tied : Row → Bool = eq_by_cmp row_cmp row in
    let w = one_of row_cmp_total row_cmp-IsAntisymmetric (λ n. agree S m n && tied (override n m)) (set.items N) (sym (any-filtered tied (λ n. override n m) (agree S m) (set.items N)) ∙ there) in (
      w.0,
      set.contains-items N w.0 ∙ w.1,
      first_holds (agree S m w.0) (tied (override w.0 m)) w.2,
      row_cmp-IsAntisymmetric row (override w.0 m) (is_tie _ (second_holds (agree S m w.0) (tied (override w.0 m)) w.2)),
    )

-- a row of the left side has such a row of the right one
left_of : (S : Names) (M N : Rows) (row : Row) → set.contains (pairs_on S M N) row ≡ true
    → (m : Row) × (set.contains M m ≡ true) × (list_any (eq_by_cmp row_cmp row) (map (λ n. override n m) (filter (agree S m) (set.items N))) ≡ true)
left_of S M N row there =
    let pairs : Row → List Row = λ m. map (λ n. override n m) (filter (agree S m) (set.items N)) in
    let tied : Row → Bool = eq_by_cmp row_cmp row in
    let w = one_of row_cmp_total row_cmp-IsAntisymmetric (λ m. list_any tied (pairs m)) (set.items M)
    (sym (any-flat_map tied pairs (set.items M)) ∙ sym (set.contains-from_list row_cmp_total (flat_map pairs (set.items M)) row) ∙ there) in
    (w.0, set.contains-items M w.0 ∙ w.1, w.2)

pub joined_fit : (U V : Columns) (M N : Rows) → ((m : Row) → set.contains M m ≡ true → Fits U m) → ((n : Row) → set.contains N n ≡ true → Fits V n)
    → (row : Row) → set.contains (pairs_on (set.intersection (names U) (names V)) M N) row ≡ true → Fits (override U V) row
joined_fit U V M N fit fit' row there =
    let S : Names = set.intersection (names U) (names V) in
    let left = left_of S M N row there in
    let right = right_of S N left.0 row left.2 in
    subst (Fits (override U V)) (sym right.3) (pair_fits U V left.0 right.0 (fit left.0 left.1) (fit' right.0 right.1) right.2)
