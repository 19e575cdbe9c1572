-- Rows that revision changes, from those near the new rows.
use Rattle.std.proofs.Common.{◌≡◌, ℕ, ◌<◌, length, get_or, List, [], ◌∷◌, is_some, map, refl, sym, ap, ◌∙◌, subst, Bool, true, false, cond, suc, zero, arith, filter}
use Rattle.plain_values.proofs.Common.{IsStrictlySortedBy-filter, row_cmp, Row, keys_rise}
use Rattle.plain_values.specs.SortedSet as set
use Rattle.lens_specs.specs.Common.{Columns, Fits, names, Name, Names, Within, at, Rows, image, those, AllEdges, Edge, revise, revise_row}
use Rattle.lens_laws.proofs.Common.{found, is_changed, touched}
use Rattle.fd_laws.proofs.Common.{fits_names, row_exact, row_total}
use Rattle.revision.specs.Near.{HasChanged}
use Rattle.revision.specs.Touching.{all_touched, becomes, differing}
use Rattle.revision.specs.declared.touching.Touched.{Touched}
use Rattle.revision.proofs.ByEdges.{found_enough}
use Rattle.revision.proofs.Near.{changed_among}

-- ---- edges, and the columns of a row

-- what holds of each edge holds of the one at a place
pub edge_at : (P : Edge → Type 0) (T : List Edge) (i : ℕ) (e : Edge) → AllEdges P T → i < length T → e ≡ get_or T i e → P e
edge_at P [] i e all below here = absurd (omega arith)
edge_at P (k ∷ ks) zero e all below here = subst P (sym here) all.0
edge_at P (k ∷ ks) (suc i) e all below here = edge_at P ks i e all.1 (omega arith) here

-- a row over the columns has a value in each column of a side within them
pub side_there : (U : Columns) (C : Names) (r : Row) → Within C (names U) → Fits U r → (c : Name) → set.contains C c ≡ true → is_some (at r c) ≡ true
side_there U C r within fit c i = fits_names U r fit c ∙ within c i

-- ---- those that are changed

-- the list of those that pass
pub items_those : (p : Row → Bool) (M : Rows) → set.items (those p M) ≡ filter p (set.items M)
items_those p M =
    ap set.items (sym (set.from_list-filter row_total row_exact p M))
    ∙ set.items-from_list row_total (filter p (set.items M)) (IsStrictlySortedBy-filter row_cmp p (set.items M) (keys_rise row_cmp M))

pub either_way : {X Y : Type 0} (f : X → Y) (b : Bool) (x : X) (ys : List Y) (xs : List X) → ys ≡ map f xs → cond b (f x ∷ ys) ys ≡ map f (cond b (x ∷ xs) xs)
either_way f true x ys xs is = ap (λ l. f x ∷ l) is
either_way f false x ys xs is = is

differing_is : (T : List Edge) (L : Rows) (ms : List Row) → differing ms (map (λ m. revise_row T m L) ms) ≡ map (becomes T L) (filter (is_changed T L) ms)
differing_is T L [] = refl
differing_is T L (m ∷ ms) = either_way (becomes T L) (is_changed T L m) m _ (filter (is_changed T L) ms) (differing_is T L ms)

-- the rows near the new ones that are not what they become
pub all_are : (T : List Edge) (M L near : Rows) (rows same revised : List Row) → HasChanged T M L near → rows ≡ set.items near → same ≡ set.items near
    → revised ≡ map (λ m. revise_row T m L) same → differing rows revised ≡ all_touched T M L
all_are T M L near rows same revised enough listed again made =
    (λ i. differing (listed i) ((made ∙ ap (map (λ m. revise_row T m L)) again) i))
    ∙ differing_is T L (set.items near)
    ∙ ap (map (becomes T L)) (sym (items_those (is_changed T L) near) ∙ ap set.items (changed_among T M L near enough))

-- ---- what changed rows were, and what they become

pub befores_are : (T : List Edge) (M L : Rows) (changes : List Touched) → changes ≡ map (becomes T L) (set.items M) → set.from_list (map (λ t. t.before) changes) ≡ M
befores_are T M L changes is =
    ap (λ ts. set.from_list (map (λ t. t.before) ts)) is
    ∙ ap set.from_list (as_they_were (set.items M)) ∙ set.from_list-items row_total row_exact M
  where
    as_they_were : (ms : List Row) → map (λ t. t.before) (map (becomes T L) ms) ≡ ms
    as_they_were [] = refl
    as_they_were (m ∷ ms) = ap (λ l. m ∷ l) (as_they_were ms)

pub afters_are : (T : List Edge) (M L : Rows) (changes : List Touched) → changes ≡ map (becomes T L) (set.items M) → set.from_list (map (λ t. t.after) changes) ≡ revise T M L
unfolding revise image
afters_are T M L changes is =
    ap (λ ts. set.from_list (map (λ t. t.after) ts)) is ∙ ap set.from_list (revised (set.items M))
  where
    revised : (ms : List Row) → map (λ t. t.after) (map (becomes T L) ms) ≡ map (λ m. revise_row T m L) ms
    revised [] = refl
    revised (m ∷ ms) = ap (λ l. revise_row T m L ∷ l) (revised ms)

-- what is touched is the changed rows
pub touched_is : (T : List Edge) (M L : Rows) → those (is_changed T L) M ≡ touched T M L
unfolding touched
touched_is T M L = sym (changed_among T M L (found T M L) (found_enough T M L (found T M L) refl))

pub touched_list : (T : List Edge) (M L : Rows) → all_touched T M L ≡ map (becomes T L) (set.items (touched T M L))
touched_list T M L = ap (λ N. map (becomes T L) (set.items N)) (touched_is T M L)
