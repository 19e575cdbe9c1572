-- What sets of rows have, for `grind`: list `contained`, and the facts at the row.
use Rattle.std.proofs.Common.{◌≡◌, ap, ◌∙◌, Bool, true, false, ◌&&◌, ◌||◌, not}
use Rattle.plain_values.proofs.Common.{eq_by_cmp, row_cmp, Row, row_cmp_total, row_cmp-IsAntisymmetric}
use Rattle.plain_values.specs.SortedSet as set
use Rattle.lens_specs.specs.Common.{Rows}
use Rattle.key_index.proofs.Groups.{tied}

-- two sets that have the same rows are one
pub same_rows : (s t : Rows) → ((x : Row) → set.contains s x ≡ set.contains t x) → s ≡ t
same_rows = set.same_set row_cmp_total row_cmp-IsAntisymmetric

pub in_empty : (q : Row) → set.contains (set.empty {R = row_cmp}) q ≡ false
in_empty q = set.contains-empty row_cmp q

pub in_insert : (s : Rows) (k q : Row) → set.contains (set.insert s k) q ≡ (eq_by_cmp row_cmp q k || set.contains s q)
in_insert = set.contains-insert row_cmp_total

pub in_remove : (s : Rows) (k q : Row) → set.contains (set.remove s k) q ≡ (not (eq_by_cmp row_cmp q k) && set.contains s q)
in_remove = set.contains-remove row_cmp_total

pub in_union : (s t : Rows) (q : Row) → set.contains (set.union s t) q ≡ (set.contains s q || set.contains t q)
in_union = set.contains-union row_cmp_total

pub in_difference : (s t : Rows) (q : Row) → set.contains (set.difference s t) q ≡ (set.contains s q && not (set.contains t q))
in_difference = set.contains-difference row_cmp_total

pub in_both : (s t : Rows) (q : Row) → set.contains (set.intersection s t) q ≡ (set.contains s q && set.contains t q)
in_both = set.contains-intersection row_cmp_total

pub ruleset contained = (in_empty, in_insert, in_remove, in_union, in_difference, in_both)

-- what a row has, a row that ties with it has
pub at_tie : (s : Rows) (k x : Row) (b : Bool) → set.contains s k ≡ b → eq_by_cmp row_cmp x k ≡ true → set.contains s x ≡ b
at_tie s k x b there tie = ap (set.contains s) (tied x k tie) ∙ there
