-- Keys that tie are equal, and a row has the key of another where the two agree.
use Rattle.std.proofs.Common.{◌≡◌, ℕ, List, [], ◌∷◌, ap, sym, ◌∙◌, refl, true, ◌&&◌, Option, Some, None, map}
use Rattle.plain_values.proofs.Common.{list_all, IsAntisymmetric, slice_cmp-IsAntisymmetric, option_cmp, eq_by_cmp, is_eq, nat_cmp, ordering_then, nat_cmp_total, tied_itself, Ordering, Less, Equal, Greater, Names, agree, Row, same_value, value_cmp, value_cmp-IsAntisymmetric, is_tie}
use Rattle.std.specs.FinMap as finmap
use Rattle.plain_values.specs.SortedSet as set
use Rattle.plain_values.specs.declared.value.Value.{Value}
use Rattle.lens_specs.specs.Common.{Rows}
use Rattle.key_index.specs.Index.{has_key}
use Rattle.key_index.specs.Key.{Cells, cells_cmp, hash_key, key_cmp, key_of}

cell_tied : IsAntisymmetric (option_cmp value_cmp)
cell_tied None None e = refl
cell_tied None (Some w) e = cc
cell_tied (Some v) None e = cc
cell_tied (Some v) (Some w) e = ap Some (value_cmp-IsAntisymmetric v w e)

pub key_tied : (key q : Cells) → eq_by_cmp cells_cmp key q ≡ true → key ≡ q
key_tied key q e = slice_cmp-IsAntisymmetric cell_tied key q (is_tie (cells_cmp key q) e)

first_ties : (a b : Ordering) → (is_eq b ≡ true → a ≡ Equal) → is_eq (ordering_then a b) ≡ is_eq b
first_ties Less Less h = refl
first_ties Less Equal h = let no = h refl in cc
first_ties Less Greater h = refl
first_ties Equal b h = refl
first_ties Greater Less h = refl
first_ties Greater Equal h = let no = h refl in cc
first_ties Greater Greater h = refl

-- the order of keys ties the same keys as the order by cells
pub same_ties : (key q : Cells) → eq_by_cmp key_cmp key q ≡ eq_by_cmp cells_cmp key q
same_ties key q = first_ties (nat_cmp (hash_key key) (hash_key q)) (cells_cmp key q) (λ e.
    ap (λ r. nat_cmp (hash_key key) (hash_key r)) (sym (key_tied key q e)) ∙ tied_itself nat_cmp_total (hash_key key))

same_cell : (a b : Option Value) → is_eq (option_cmp value_cmp a b) ≡ same_value a b
same_cell None None = refl
same_cell None (Some w) = refl
same_cell (Some v) None = refl
same_cell (Some v) (Some w) = refl

both_equal : (a b : Ordering) → is_eq (ordering_then a b) ≡ (is_eq a && is_eq b)
both_equal Less b = refl
both_equal Equal b = refl
both_equal Greater b = refl

same_cells : (C : List (List ℕ)) (key row : Row)
    → is_eq (cells_cmp (map (λ c. finmap.get key c) C) (map (λ c. finmap.get row c) C)) ≡ list_all (λ c. same_value (finmap.get key c) (finmap.get row c)) C
same_cells [] key row = refl
same_cells (c ∷ C) key row =
    both_equal (option_cmp value_cmp (finmap.get key c) (finmap.get row c)) _
    ∙ (λ i. same_cell (finmap.get key c) (finmap.get row c) i && same_cells C key row i)

-- the rows with the key of a row are those that agree with it
pub agreeing : (C : Names) (key row : Row) → has_key C (key_of C key) row ≡ agree C key row
unfolding agree
agreeing C key row = same_cells (set.items C) key row

pub agreeing_rows : (C : Names) (key : Row) (rows : Rows) → set.filter (has_key C (key_of C key)) rows ≡ set.filter (agree C key) rows
agreeing_rows C key rows = ap (λ p. set.filter p rows) (λ i row. agreeing C key row i)
