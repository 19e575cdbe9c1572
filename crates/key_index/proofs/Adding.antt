-- Rows of a list that come one after another.
use Rattle.std.proofs.Common.{◌≡◌, ℕ, ◌<◌, ◌+◌, List, [], ◌∷◌, length, take, get_or, ap, sym, ◌∙◌, refl, Bool, true, false, zero, suc, arith, add-one, ◌||◌}
use Rattle.plain_values.proofs.Common.{eq_by_cmp, is_eq, tied_itself, row_cmp, Row, row_cmp_total, row_cmp-IsAntisymmetric, or_swap}
use Rattle.plain_values.specs.SortedSet as set
use Rattle.lens_specs.specs.Common.{Rows}
use Rattle.key_index.specs.Lists.{set_of}

or_true : (b : Bool) → (b || true) ≡ true
or_true true = refl
or_true false = refl

-- a row of the list is in its set
pub in_list_at : (xs : List Row) (i : ℕ) (x : Row) → i < length xs → x ≡ get_or xs i x → set.contains (set_of xs) x ≡ true
in_list_at [] i x l e = absurd (omega arith)
in_list_at (y ∷ ys) zero x l e = set.contains-insert row_cmp_total (set_of ys) y x ∙ ap (λ b. b || set.contains (set_of ys) x) (ap (λ z. is_eq (row_cmp x z)) (sym e) ∙ ap is_eq (tied_itself row_cmp_total x))
in_list_at (y ∷ ys) (suc i) x l e = set.contains-insert row_cmp_total (set_of ys) y x ∙ ap (λ b. eq_by_cmp row_cmp x y || b) (in_list_at ys i x (omega arith) e) ∙ or_true (eq_by_cmp row_cmp x y)

or_none : (a : Bool) → (a || false) ≡ a
or_none true = refl
or_none false = refl

-- none of the list has come
pub none_more : (rows : Rows) → set.union rows (set_of []) ≡ rows
none_more rows = set.same_set row_cmp_total row_cmp-IsAntisymmetric _ _ (λ q.
    set.contains-union row_cmp_total rows (set_of []) q ∙ ap (λ b. set.contains rows q || b) (set.contains-empty row_cmp q) ∙ or_none (set.contains rows q))

in_front : (xs : List Row) (i : ℕ) (x q : Row) → i < length xs → x ≡ get_or xs i x
    → set.contains (set_of (take (suc i) xs)) q ≡ (eq_by_cmp row_cmp q x || set.contains (set_of (take i xs)) q)
in_front [] i x q l e = absurd (omega arith)
in_front (y ∷ ys) zero x q l e = set.contains-insert row_cmp_total (set_of []) y q ∙ ap (λ z. eq_by_cmp row_cmp q z || set.contains (set_of []) q) (sym e)
in_front (y ∷ ys) (suc i) x q l e =
    set.contains-insert row_cmp_total (set_of (take (suc i) ys)) y q
    ∙ ap (λ b. eq_by_cmp row_cmp q y || b) (in_front ys i x q (omega arith) e)
    ∙ or_swap (eq_by_cmp row_cmp q y) (eq_by_cmp row_cmp q x) (set.contains (set_of (take i ys)) q)
    ∙ ap (λ b. eq_by_cmp row_cmp q x || b) (sym (set.contains-insert row_cmp_total (set_of (take i ys)) y q))

-- one more of the list has come
pub one_more : (rows : Rows) (xs : List Row) (i : ℕ) (x : Row) → i < length xs → x ≡ get_or xs i x
    → set.insert (set.union rows (set_of (take i xs))) x ≡ set.union rows (set_of (take (i + 1) xs))
one_more rows xs i x l e = set.same_set row_cmp_total row_cmp-IsAntisymmetric _ _ (λ q.
    set.contains-insert row_cmp_total (set.union rows (set_of (take i xs))) x q
    ∙ ap (λ b. eq_by_cmp row_cmp q x || b) (set.contains-union row_cmp_total rows (set_of (take i xs)) q)
    ∙ or_swap (eq_by_cmp row_cmp q x) (set.contains rows q) (set.contains (set_of (take i xs)) q)
    ∙ ap (λ b. set.contains rows q || b) (sym (in_front xs i x q l e) ∙ ap (λ n. set.contains (set_of (take n xs)) q) (sym (add-one i)))
    ∙ sym (set.contains-union row_cmp_total rows (set_of (take (i + 1) xs)) q))

-- the set of the front with one row more
pub front_more : (xs : List Row) (i : ℕ) (x : Row) → i < length xs → x ≡ get_or xs i x → set.insert (set_of (take i xs)) x ≡ set_of (take (i + 1) xs)
front_more xs i x l e = set.same_set row_cmp_total row_cmp-IsAntisymmetric _ _ (λ q.
    set.contains-insert row_cmp_total (set_of (take i xs)) x q ∙ sym (in_front xs i x q l e) ∙ ap (λ n. set.contains (set_of (take n xs)) q) (sym (add-one i)))
