-- What a table is seen as after its lists were gone through.
use Rattle.std.proofs.Common.{◌≡◌, ◌≤◌, ◌<◌, ◌+◌, ℕ, List, [], ◌∷◌, length, take, drop, get_or, ap, sym, ◌∙◌, refl, arith, add-one, zero, suc, Bool, true, false, not, ◌&&◌, ◌||◌, slice_index_or}
use Rattle.plain_values.proofs.Common.{drop-cons, eq_by_cmp, take_all, length-take, row_cmp, Row, row_cmp_total, row_cmp-IsAntisymmetric, Names}
use Rattle.plain_values.specs.SortedSet as set
use Rattle.lens_specs.specs.Common.{Rows}
use Rattle.key_index.specs.Lists.{rows_of, SameCols}
use Rattle.key_index.specs.Lists.{cols_of}
use Rattle.key_index.specs.declared.index.Index.{Index}
use Rattle.key_index.specs.declared.keyed.Keyed.{Keyed}
use Rattle.key_index.proofs.Lists.{none_less}
use Rattle.key_index.proofs.Whole.{length-cols_of}

pub emptied : (rows all : Rows) (list : List Keyed) → rows ≡ all → list ≡ [] → set.difference rows (rows_of list) ≡ all
emptied rows all list is none = ap (λ g. set.difference rows (rows_of g)) none ∙ none_less rows ∙ is

pub same_cols : (old new : List Index) → SameCols old new → cols_of new ≡ cols_of old
same_cols [] [] s = refl
same_cols [] (y ∷ ys) s = absurd (omega (arith, s.many))
same_cols (x ∷ xs) [] s = absurd (omega (arith, s.many))
same_cols (x ∷ xs) (y ∷ ys) s =
    let head = ap (λ c. c) (s.each 0 y x (omega arith)) in
    let rest = same_cols xs ys (record { many = omega (arith, s.many); each = λ i d e within. s.each (suc i) d e (omega arith) }) in
    λ i. head i ∷ rest i

pub all_cols : (n : ℕ) (indexes : List Index) → n ≡ length indexes → take n (cols_of indexes) ≡ cols_of indexes
all_cols n indexes e = take_all n (cols_of indexes) (omega (arith, length-cols_of indexes))

pub first_cols : (n : ℕ) (indexes : List Index) → take n (cols_of (take n indexes)) ≡ cols_of (take n indexes)
first_cols n indexes = take_all n (cols_of (take n indexes)) (omega (arith, length-cols_of (take n indexes), length-take n indexes))

pub listed_at : (list : List Keyed) (row : Row) (i : ℕ) (k : Keyed) → i < length list → k ≡ get_or list i k
    → set.contains (rows_of (drop i list)) row ≡ (eq_by_cmp row_cmp row k.row || set.contains (rows_of (drop (i + 1) list)) row)
listed_at list row i k h e =
    ap (λ l. set.contains (rows_of l) row) (drop-cons list i k h)
    ∙ set.contains-insert row_cmp_total (rows_of (drop (suc i) list)) (get_or list i k).row row
    ∙ ap (λ q. eq_by_cmp row_cmp row q.row || set.contains (rows_of (drop (suc i) list)) row) (sym e)
    ∙ ap (λ j. eq_by_cmp row_cmp row k.row || set.contains (rows_of (drop j list)) row) (sym (add-one i))

-- the columns of the index at a place
pub col_at : (indexes : List Index) (n at : ℕ) (d : Index) (none : Names) → at < n → n ≤ length indexes → slice_index_or (take n (cols_of indexes)) at none ≡ (slice_index_or indexes at d).cols
col_at [] n at d none low high = absurd (omega arith)
col_at (x ∷ xs) zero at d none low high = absurd (omega arith)
col_at (x ∷ xs) (suc n) zero d none low high = refl
col_at (x ∷ xs) (suc n) (suc at) d none low high = col_at xs n at d none (omega arith) (omega arith)

moved_not : (a p l : Bool) → ((a && p) && not l) ≡ ((a && not l) && p)
moved_not true true true = refl
moved_not true true false = refl
moved_not true false true = refl
moved_not true false false = refl
moved_not false p l = refl

-- those of the rows that pass which are not listed
pub filter_less : (p : Row → Bool) (rows less : Rows) → set.difference (set.filter p rows) less ≡ set.filter p (set.difference rows less)
filter_less p rows less = set.same_set row_cmp_total row_cmp-IsAntisymmetric _ _ (λ x.
    set.contains-difference row_cmp_total (set.filter p rows) less x
    ∙ ap (λ b. b && not (set.contains less x)) (set.contains-filter row_cmp_total row_cmp-IsAntisymmetric p rows x)
    ∙ moved_not (set.contains rows x) (p x) (set.contains less x)
    ∙ ap (λ b. b && p x) (sym (set.contains-difference row_cmp_total rows less x))
    ∙ sym (set.contains-filter row_cmp_total row_cmp-IsAntisymmetric p (set.difference rows less) x))
