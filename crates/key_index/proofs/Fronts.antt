-- Lists of rows: the first ones, and those behind.
use Rattle.std.proofs.Common.{◌≡◌, ℕ, ◌≤◌, ◌<◌, ◌+◌, ◌-◌, List, [], ◌∷◌, ◌++◌, length, take, drop, get_or, ap, sym, ◌∙◌, subst, refl, Bool, true, false, arith, add-one, zero, suc, ◌&&◌, ◌||◌, if◌then◌else◌}
use Rattle.plain_values.proofs.Common.{AllByRecursion, IsStrictlySortedBy, tied_itself, eq_by_cmp, Less, Equal, drop_all, take_all, length-drop, take-append-le, drop-append-le, row_cmp, Row, row_cmp_total}
use Rattle.plain_values.specs.SortedSet as set
use Rattle.lens_specs.specs.Common.{Rows, has}
use Rattle.key_index.specs.Lists.{AreKeyed, rows_of, set_of}
use Rattle.key_index.specs.declared.index.Index.{Index}
use Rattle.key_index.specs.declared.keyed.Keyed.{Keyed}
use Rattle.key_index.proofs.Adding.{front_more}
use Rattle.key_index.proofs.Lists.{in_pushed, none_less, one_less}
use Rattle.key_index.proofs.Groups.{tied}
use Rattle.key_index.proofs.RowSets.{at_tie, contained, same_rows}

-- the first of a list have their keys, as all do
pub front_keyed : (indexes : List Index) (list : List Keyed) (n : ℕ) → AreKeyed indexes list → AreKeyed indexes (take n list)
front_keyed indexes [] zero all i d within = all i d within
front_keyed indexes [] (suc n) all i d within = all i d within
front_keyed indexes (k ∷ ks) zero all i d within = absurd (omega arith)
front_keyed indexes (k ∷ ks) (suc n) all zero d within = all 0 d (omega arith)
front_keyed indexes (k ∷ ks) (suc n) all (suc i) d within = front_keyed indexes ks n (λ j e inside. all (suc j) e (omega arith)) i d (omega arith)

-- the rows of a list are those of its front and those behind
pub in_parts : (list : List Keyed) (n : ℕ) (x : Row) → has (rows_of list) x ≡ (has (rows_of (take n list)) x || has (rows_of (drop n list)) x)
in_parts [] zero x = grind (arith, contained)
in_parts [] (suc n) x = grind (arith, contained)
in_parts (k ∷ ks) zero x = grind (arith, contained)
in_parts (k ∷ ks) (suc n) x = let rest = in_parts ks n x in grind (arith, contained, rest)

-- nothing stands behind the front
pub none_behind : (list : List Keyed) (n : ℕ) (x : Row) → length list ≤ n → has (rows_of (drop n list)) x ≡ false
none_behind list n x short = ap (λ l. has (rows_of l) x) (drop_all n list short) ∙ set.contains-empty row_cmp x

pub none_back : (x : Row) → has (set_of []) x ≡ false
none_back x = set.contains-empty row_cmp x

pub none_back_of : (list : List Row) (x : Row) → list ≡ [] → has (set_of list) x ≡ false
none_back_of list x none = ap (λ l. has (set_of l) x) none ∙ none_back x

-- a slice from a place on is what stands behind it
pub slice_behind : (xs ys : List Keyed) (n : ℕ) → xs ≡ ys → take (length xs - n) (drop n xs) ≡ drop n ys
slice_behind xs ys n e = take_all (length xs - n) (drop n xs) (omega (arith, length-drop n xs)) ∙ ap (drop n) e

-- the last of a list is taken off, behind the front
module _ (gone left : List Keyed) (k : Keyed) (first : ℕ) (parts : gone ≡ left ++ k ∷ []) (within : first ≤ length left) where
  pub same_front : take first left ≡ take first gone
  same_front = sym (take-append-le first left (k ∷ []) within) ∙ ap (take first) (sym parts)

  pub more_behind : drop first gone ≡ drop first left ++ k ∷ []
  more_behind = ap (drop first) parts ∙ drop-append-le first left (k ∷ []) within

  pub one_less_behind : (rows : Rows) → set.difference (set.remove rows k.row) (rows_of (drop first left)) ≡ set.difference rows (rows_of (drop first gone))
  one_less_behind rows = one_less rows (drop first left) k ∙ ap (λ l. set.difference rows (rows_of l)) (sym more_behind)

-- nothing is left behind the front
pub all_gone : (list : List Keyed) (first : ℕ) (rows : Rows) → length list ≡ first → set.difference rows (rows_of (drop first list)) ≡ rows
all_gone list first rows many = ap (λ l. set.difference rows (rows_of l)) (drop_all first list (omega arith)) ∙ none_less rows

-- a row goes that is hidden
pub hidden_less : (rows hidden : Rows) (left : List Keyed) (k : Keyed)
    → set.difference (if set.contains hidden k.row then set.remove rows k.row else rows) (set.intersection (set.remove hidden k.row) (rows_of left))
    ≡ set.difference rows (set.intersection hidden (rows_of (left ++ k ∷ [])))
hidden_less rows hidden left k =
    elim (set.contains hidden k.row) as (λ b. set.contains hidden k.row ≡ b
    → set.difference (if b then set.remove rows k.row else rows) (set.intersection (set.remove hidden k.row) (rows_of left)) ≡ set.difference rows (set.intersection hidden (rows_of (left ++ k ∷ [])))) [
      | true ↦ λ there. same_rows _ _ (λ x. grind (arith, contained, in_pushed left k x, at_tie hidden k.row x true there))
      | false ↦ λ absent. same_rows _ _ (λ x. grind (arith, contained, in_pushed left k x, at_tie hidden k.row x false absent))
    ] refl

pub none_both : (rows hidden : Rows) (list : List Keyed) → list ≡ [] → set.difference rows (set.intersection hidden (rows_of list)) ≡ rows
none_both rows hidden list none = same_rows _ _ (λ x. let e = ap (λ l. set.contains (rows_of l) x) none in grind (arith, contained, e))

pub at_place : {A : Type 0} (P : A → Type 0) (xs : List A) (i : ℕ) (x : A) → AllByRecursion P xs → i < length xs → x ≡ get_or xs i x → P x
at_place P [] i x all l e = absurd (omega arith)
at_place P (y ∷ ys) zero x all l e = subst P (sym e) all.0
at_place P (y ∷ ys) (suc i) x all l e = at_place P ys i x all.1 (omega arith) e

not_less : Less ≡ Equal → ⊥
not_less e = cc

-- a row above another is not that one
pub above : (y x : Row) → row_cmp y x ≡ Less → eq_by_cmp row_cmp x y ≡ false
above y x less = elim (eq_by_cmp row_cmp x y) as (λ b. eq_by_cmp row_cmp x y ≡ b → b ≡ false) [
  | true ↦ λ tie. absurd (not_less (sym less ∙ ap (row_cmp y) (tied x y tie) ∙ tied_itself row_cmp_total y))
  | false ↦ λ _. refl
] refl

-- in a rising list no row stands among those before it
pub not_before : (xs : List Row) (i : ℕ) (x : Row) → IsStrictlySortedBy row_cmp xs → i < length xs → x ≡ get_or xs i x → set.contains (set_of (take i xs)) x ≡ false
unfolding IsStrictlySortedBy
not_before [] i x rise l e = absurd (omega arith)
not_before (y ∷ ys) zero x rise l e = set.contains-empty row_cmp x
not_before (y ∷ ys) (suc i) x rise l e =
    let rest = not_before ys i x rise.1 (omega arith) e in
    let high = above y x (at_place (λ z. row_cmp y z ≡ Less) ys i x rise.0 (omega arith) e) in
    grind (arith, contained, rest, high)

-- the first rows of a list go, and one more
pub one_more_less : (rows : Rows) (xs : List Row) (i : ℕ) (x : Row) → i < length xs → x ≡ get_or xs i x
    → set.remove (set.difference rows (set_of (take i xs))) x ≡ set.difference rows (set_of (take (i + 1) xs))
one_more_less rows xs i x l e = same_rows _ _ (λ q. let f = ap (λ s. set.contains s q) (front_more xs i x l e) in grind (arith, contained, f))

pub no_row_less : (rows : Rows) → set.difference rows (set_of []) ≡ rows
no_row_less rows = same_rows _ _ (λ q. grind (arith, contained))

-- one more stands behind the front
pub one_behind : (list : List Keyed) (k : Keyed) (n : ℕ) (x : Row) → n ≤ length list
    → set.contains (rows_of (drop n (list ++ k ∷ []))) x ≡ (eq_by_cmp row_cmp x k.row || set.contains (rows_of (drop n list)) x)
one_behind list k n x within = ap (λ l. set.contains (rows_of l) x) (drop-append-le n list (k ∷ []) within) ∙ in_pushed (drop n list) k x

-- one more is listed
pub in_listed : (list : List Row) (row x : Row) → set.contains (set_of (list ++ row ∷ [])) x ≡ (eq_by_cmp row_cmp x row || set.contains (set_of list) x)
in_listed [] row x = grind (arith, contained)
in_listed (k ∷ ks) row x = let rest = in_listed ks row x in grind (arith, contained, rest)

-- the rows, and one more if it is hidden
pub in_hidden : (b : Bool) (hidden : Rows) (row x : Row) → set.contains (if b then set.insert hidden row else hidden) x ≡ ((b && eq_by_cmp row_cmp x row) || set.contains hidden x)
in_hidden true hidden row x = grind (arith, contained)
in_hidden false hidden row x = refl

-- the rows of a list with one more
pub rows_pushed : (list : List Keyed) (k : Keyed) → rows_of (list ++ k ∷ []) ≡ set.insert (rows_of list) k.row
rows_pushed list k = same_rows _ _ (λ x. grind (arith, contained, in_pushed list k x))

in_front : (xs : List Keyed) (i : ℕ) (k : Keyed) (q : Row) → i < length xs → k ≡ get_or xs i k → has (rows_of (take (suc i) xs)) q ≡ (eq_by_cmp row_cmp q k.row || has (rows_of (take i xs)) q)
in_front [] i k q l e = absurd (omega arith)
in_front (y ∷ ys) zero k q l e = set.contains-insert row_cmp_total (rows_of []) y.row q ∙ ap (λ z. eq_by_cmp row_cmp q z.row || has (rows_of []) q) (sym e)
in_front (y ∷ ys) (suc i) k q l e = let rest = in_front ys i k q (omega arith) e in grind (arith, contained, rest)

-- the rows of the front with one more
pub front_pushed : (xs : List Keyed) (i : ℕ) (k : Keyed) → i < length xs → k ≡ get_or xs i k → set.insert (rows_of (take i xs)) k.row ≡ rows_of (take (i + 1) xs)
front_pushed xs i k l e = same_rows _ _ (λ q.
    let f = in_front xs i k q l e in let g = ap (λ n. has (rows_of (take n xs)) q) (add-one i) in grind (arith, contained, f, g))
