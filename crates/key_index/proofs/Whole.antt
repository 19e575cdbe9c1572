-- What holds of a table's fields after its lists were gone through.
use Rattle.std.proofs.Common.{◌≡◌, ℕ, ◌+◌, ◌≤◌, List, [], ◌∷◌, ◌++◌, length, take, ap, sym, ◌∙◌, arith, zero, suc, Bool, true, false, refl, ◌&&◌, ◌||◌}
use Rattle.plain_values.proofs.Common.{list_any, take-map, length-take, Names, row_cmp, Row, row_cmp_total, row_cmp-IsAntisymmetric}
use Rattle.plain_values.specs.SortedSet as set
use Rattle.lens_specs.specs.Common.{Rows}
use Rattle.key_index.specs.Index.{group_at, has_key}
use Rattle.key_index.specs.Key.{Cells}
use Rattle.key_index.specs.Lists.{AreKeyed, IsTableOf, cols_of, rows_of, set_of}
use Rattle.key_index.specs.declared.index.Index.{Index}
use Rattle.key_index.specs.declared.keyed.Keyed.{Keyed}
use Rattle.key_index.proofs.Lists.{none_less}

-- an empty list is keyed
pub none_keyed : (indexes : List Index) (list : List Keyed) → list ≡ [] → AreKeyed indexes list
none_keyed indexes list none i d within = absurd (omega (arith, ap length none))

-- there is no index, so each is of these rows
pub no_indexes : (rows : Rows) (indexes : List Index) → indexes ≡ [] → IsTableOf rows indexes
no_indexes rows indexes none i d within = absurd (omega (arith, ap length none))

-- the first indexes are of the rows, as all are
pub first_indexes : (rows : Rows) (indexes : List Index) (n : ℕ) → IsTableOf rows indexes → IsTableOf rows (take n indexes)
first_indexes rows [] zero is i d within = is i d within
first_indexes rows [] (suc n) is i d within = is i d within
first_indexes rows (x ∷ xs) zero is i d within = absurd (omega arith)
first_indexes rows (x ∷ xs) (suc n) is zero d within = is zero d (omega arith)
first_indexes rows (x ∷ xs) (suc n) is (suc i) d within = first_indexes rows xs n (λ j e inside. is (suc j) e (omega arith)) i d (omega arith)

-- the indexes of two lists are of the rows
pub both_indexes : (rows : Rows) (xs ys : List Index) → IsTableOf rows xs → IsTableOf rows ys → IsTableOf rows (xs ++ ys)
both_indexes rows [] ys is others i d within = others i d within
both_indexes rows (x ∷ xs) ys is others zero d within = is zero d (omega arith)
both_indexes rows (x ∷ xs) ys is others (suc i) d within = both_indexes rows xs ys (λ j e inside. is (suc j) e (omega arith)) others i d (omega arith)

-- the rows are counted where none is listed
pub counted : (rows : Rows) (list : List Keyed) (n : ℕ) → list ≡ [] → n ≡ length (set.items rows) → n ≡ length (set.items (set.difference rows (rows_of list)))
counted rows list n none is = is ∙ ap (λ s. length (set.items s)) (sym (ap (λ l. set.difference rows (rows_of l)) none ∙ none_less rows))

pub length-cols_of : (indexes : List Index) → length (cols_of indexes) ≡ length indexes
length-cols_of [] = refl
length-cols_of (x ∷ xs) = ap suc (length-cols_of xs)

or_true : (b : Bool) → (b || true) ≡ true
or_true true = refl
or_true false = refl

-- what the front has, the list has
pub any_front : {A : Type 0} (p : A → Bool) (n : ℕ) (xs : List A) → list_any p (take n xs) ≡ true → list_any p xs ≡ true
any_front p zero [] h = h
any_front p (suc n) [] h = h
any_front p zero (x ∷ xs) h = cc
any_front p (suc n) (x ∷ xs) h = elim (p x) as (λ b. (b || list_any p (take n xs)) ≡ true → (b || list_any p xs) ≡ true) [
  | true ↦ λ _. refl
  | false ↦ λ more. any_front p n xs more
] h

-- an index by columns is one of the indexes by its columns
pub any_cols : (p : Names → Bool) (indexes : List Index) → list_any (λ index. p index.cols) indexes ≡ list_any p (cols_of indexes)
any_cols p [] = refl
any_cols p (x ∷ xs) = ap (λ b. p x.cols || b) (any_cols p xs)

pub none_pass : (p : Row → Bool) → set.filter p (set.empty {R = row_cmp}) ≡ set.empty
none_pass p = set.same_set row_cmp_total row_cmp-IsAntisymmetric _ _ (λ q.
    set.contains-filter row_cmp_total row_cmp-IsAntisymmetric p set.empty q ∙ ap (λ b. b && p q) (set.contains-empty row_cmp q) ∙ sym (set.contains-empty row_cmp q))

-- an index of no row
pub new_index : (x : Index) → ((key : Cells) → group_at x key ≡ set.empty) → IsTableOf (set_of []) (x ∷ [])
new_index x none zero d within key = none key ∙ sym (none_pass (has_key x.cols key))
new_index x none (suc i) d within key = absurd (omega arith)

shorter : {A : Type 0} (n m : ℕ) (zs : List A) → n ≤ m → take n (take m zs) ≡ take n zs
shorter zero zero [] l = refl
shorter zero zero (z ∷ zs) l = refl
shorter zero (suc m) [] l = refl
shorter zero (suc m) (z ∷ zs) l = refl
shorter (suc n) zero zs l = absurd (omega arith)
shorter (suc n) (suc m) [] l = refl
shorter (suc n) (suc m) (z ∷ zs) l = ap (λ rest. z ∷ rest) (shorter n m zs (omega arith))

-- the first columns are those of the indexes in front
pub front_cols : (n : ℕ) (xs ys : List Index) → n ≤ length xs → take (length xs) ys ≡ xs → take n (cols_of ys) ≡ take n (cols_of xs)
front_cols n xs ys within front =
    take-map (λ index. index.cols) n ys
    ∙ ap cols_of (sym (shorter n (length xs) ys within) ∙ ap (take n) front)
    ∙ sym (take-map (λ index. index.cols) n xs)

-- there is room in front for the first ones
pub front_fits : (n : ℕ) (xs ys : List Index) → n ≤ length xs → take (length xs) ys ≡ xs → n ≤ length ys
front_fits n xs ys within front = omega (arith, ap length front, length-take (length xs) ys)
