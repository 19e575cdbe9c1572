-- Lists of rising rows, with a row more at the end and with a row less.
use Rattle.std.proofs.Common.{◌≡◌, ℕ, ◌+◌, ◌-◌, ◌<◌, List, [], ◌∷◌, ◌++◌, length, get_or, take, drop, ap, sym, ◌∙◌, subst, refl, Bool, true, false, arith, zero, suc, ◌&&◌, ◌||◌, not, Option, Some, None}
use Rattle.plain_values.proofs.Common.{AllByRecursion, HoldsAt, remove, slice_get, slice_get-get_or, IsStrictlySortedBy, eq_by_cmp, is_eq, eq_by_cmp_equiv, Ordering, Less, Equal, Greater, row_cmp, Row, row_cmp_total, row_cmp-IsAntisymmetric}
use Rattle.plain_values.specs.SortedSet as set
use Rattle.lens_specs.specs.Common.{Rows}
use Rattle.key_index.specs.Lists.{set_of}
use Rattle.key_index.proofs.Fronts.{above, at_place, in_listed}
use Rattle.key_index.proofs.Groups.{tied}
use Rattle.key_index.proofs.RowSets.{at_tie, contained, same_rows}

all_more : (P : Row → Type 0) (xs : List Row) (q : Row) → AllByRecursion P xs → P q → AllByRecursion P (xs ++ q ∷ [])
all_more P [] q a p = (p, tt)
all_more P (x ∷ xs) q a p = (a.0, all_more P xs q a.1 p)

last_all : (P : Row → Type 0) (x : Row) (xs : List Row) (d : Row) → AllByRecursion P (x ∷ xs) → P (get_or (x ∷ xs) (length xs) d)
last_all P x [] d a = a.0
last_all P x (y ∷ ys) d a = last_all P y ys d a.1

-- a row above the last is above all
above_all : (x : Row) (xs : List Row) (q last : Row) → IsStrictlySortedBy row_cmp (x ∷ xs) → last ≡ get_or (x ∷ xs) (length xs) last → row_cmp last q ≡ Less
    → IsStrictlySortedBy row_cmp (x ∷ xs ++ q ∷ [])
unfolding IsStrictlySortedBy
above_all x [] q last rise is less = ((ap (λ y. row_cmp y q) (sym is) ∙ less, tt), (tt, tt))
above_all x (y ∷ ys) q last rise is less =
    let rest = above_all y ys q last rise.1 is less in
    let low : row_cmp x last ≡ Less = ap (row_cmp x) is ∙ last_all (λ z. row_cmp x z ≡ Less) y ys last rise.0 in
    (all_more (λ z. row_cmp x z ≡ Less) (y ∷ ys) q rise.0 (row_cmp_total.trans x last q low less), rest)

pub more_rises : (xs : List Row) (q last : Row) → IsStrictlySortedBy row_cmp xs → 0 < length xs → last ≡ get_or xs (length xs - 1) last → row_cmp last q ≡ Less
    → IsStrictlySortedBy row_cmp (xs ++ q ∷ [])
more_rises [] q last rise some is less = absurd (omega (arith, some))
more_rises (x ∷ xs) q last rise some is less =
    let end : length (x ∷ xs) - 1 ≡ length xs = omega arith in
    above_all x xs q last rise (is ∙ ap (λ n. get_or (x ∷ xs) n last) end) less

-- the set with the row
pub listed_more : (xs : List Row) (row : Row) → set_of (xs ++ row ∷ []) ≡ set.insert (set_of xs) row
listed_more xs row = same_rows _ _ (λ x. in_listed xs row x ∙ sym (set.contains-insert row_cmp_total (set_of xs) row x))

all_less : (P : Row → Type 0) (xs : List Row) (i : ℕ) → AllByRecursion P xs → AllByRecursion P (remove xs i)
all_less P [] zero a = tt
all_less P [] (suc i) a = tt
all_less P (x ∷ xs) zero a = a.1
all_less P (x ∷ xs) (suc i) a = (a.0, all_less P xs i a.1)

pub less_rises : (xs : List Row) (i : ℕ) → IsStrictlySortedBy row_cmp xs → IsStrictlySortedBy row_cmp (remove xs i)
unfolding IsStrictlySortedBy
less_rises [] zero rise = tt
less_rises [] (suc i) rise = tt
less_rises (x ∷ xs) zero rise = rise.1
less_rises (x ∷ xs) (suc i) rise = (all_less (λ z. row_cmp x z ≡ Less) xs i rise.0, less_rises xs i rise.1)

-- a row below the others is not among them
lowest : (y : Row) (ys : List Row) → AllByRecursion (λ z. row_cmp y z ≡ Less) ys → set.contains (set_of ys) y ≡ false
lowest y [] all = set.contains-empty row_cmp y
lowest y (z ∷ zs) all =
    let rest = lowest y zs all.1 in
    let low = (eq_by_cmp_equiv row_cmp_total).symm y z ∙ above y z all.0 in
    grind (arith, contained, rest, low)

-- one of the rows was taken out
removed : (xs : List Row) (q : Row) (i : ℕ) → IsStrictlySortedBy row_cmp xs → i < length xs → q ≡ get_or xs i q → (x : Row)
    → set.contains (set_of (remove xs i)) x ≡ (not (eq_by_cmp row_cmp x q) && set.contains (set_of xs) x)
unfolding IsStrictlySortedBy
removed [] q i rise l e x = absurd (omega arith)
removed (y ∷ ys) q zero rise l e x =
    let alike = at_tie (set_of ys) y x false (lowest y ys rise.0) in
    let same : eq_by_cmp row_cmp x q ≡ eq_by_cmp row_cmp x y = ap (eq_by_cmp row_cmp x) e in
    grind (arith, contained, alike, same)
removed (y ∷ ys) q (suc i) rise l e x =
    let rest = removed ys q i rise.1 (omega arith) e x in
    let below = (eq_by_cmp_equiv row_cmp_total).symm y q ∙ above y q (at_place (λ z. row_cmp y z ≡ Less) ys i q rise.0 (omega arith) e) in
    let apart : eq_by_cmp row_cmp x y ≡ true → eq_by_cmp row_cmp x q ≡ false = λ tie. ap (λ r. eq_by_cmp row_cmp r q) (tied x y tie) ∙ below in
    grind (arith, contained, rest, apart)

-- the set without the row that a search has found
pub listed_less : (xs : List Row) (q : Row) (i : ℕ) → IsStrictlySortedBy row_cmp xs → i < length xs → HoldsAt (λ y. row_cmp y q ≡ Equal) xs i → set_of (remove xs i) ≡ set.remove (set_of xs) q
listed_less xs q i rise l at =
    let here : q ≡ get_or xs i q = sym (row_cmp-IsAntisymmetric (get_or xs i q) q (at q)) in
    same_rows _ _ (λ x. removed xs q i rise l here x ∙ sym (set.contains-remove row_cmp_total (set_of xs) q x))

some_is : (a b : Row) → ◌≡◌ {A = Option Row} (Some a) (Some b) → a ≡ b
some_is a b e = cc

-- where a list has a last row
pub last_of : (xs : List Row) (last : Row) → slice_get xs (length xs - 1) ≡ Some last → (0 < length xs) × (last ≡ get_or xs (length xs - 1) last)
last_of [] last e = cc
last_of (x ∷ xs) last e =
    (omega arith, some_is last _ (sym e ∙ slice_get-get_or (x ∷ xs) (length (x ∷ xs) - 1) last (omega arith)))

-- where it has none
pub none_last : (xs : List Row) → slice_get xs (length xs - 1) ≡ None → xs ≡ []
none_last [] e = refl
none_last (x ∷ xs) e =
    let no : ◌≡◌ {A = Option Row} (Some (get_or (x ∷ xs) (length (x ∷ xs) - 1) x)) None = sym (slice_get-get_or (x ∷ xs) (length (x ∷ xs) - 1) x (omega arith)) ∙ e in cc
