-- The part of rows that stands in some columns, and what still fits.
use Rattle.std.proofs.Common.{◌≡◌, List, [], ◌∷◌, ap, sym, ◌∙◌, refl, Bool, true, false, None, ◌||◌, map}
use Rattle.plain_values.proofs.Common.{eq_by_cmp, is_eq, list_any, tied_itself, restrict, row_cmp, Row, row_cmp_total, row_cmp-IsAntisymmetric, fits_same, fits_cond, is_tie, exact}
use Rattle.std.specs.FinMap as finmap
use Rattle.plain_values.specs.SortedSet as set
use Rattle.lens_specs.specs.Common.{Names, cut, Columns, Rows, Fits, image, project, columns_in}
use Rattle.row_sets.specs.Members.{is_in}

pub parts_are : (C : Names) (rows : Rows) → set.from_list (map (restrict C) (set.items rows)) ≡ project C rows
unfolding project image cut
parts_are C rows = refl

or-true : (a : Bool) → (a || true) ≡ true
or-true true = refl
or-true false = refl

one_of : (t : Row → Bool) (xs : List Row) → list_any t xs ≡ true → (x : Row) × (is_in xs x ≡ true) × (t x ≡ true)
one_of t [] h = cc
one_of t (x ∷ xs) h = elim (t x) as (λ b. t x ≡ b → (b || list_any t xs) ≡ true → (y : Row) × (is_in (x ∷ xs) y ≡ true) × (t y ≡ true)) [
  | true ↦ λ e _. (x, ap (λ r. is_eq r || is_in xs x) (tied_itself row_cmp_total x), e)
  | false ↦ λ e more. let w = one_of t xs more in (w.0, ap (λ b. eq_by_cmp row_cmp w.0 x || b) w.1 ∙ or-true (eq_by_cmp row_cmp w.0 x), w.2)
] refl h

-- a row cut down fits the columns cut down
fits_cut : (C : Names) (columns : Columns) (row : Row) → Fits columns row → Fits (columns_in columns C) (cut C row)
unfolding cut
fits_cut C columns row fits c =
    let inside = set.contains C in
    fits_same _ _ _ _ (sym (finmap.get-retain_keys row inside c (λ x tie. ap inside (sym (exact c x tie)))))
    (sym (finmap.get-retain_keys columns inside c (λ x tie. ap inside (sym (exact c x tie)))))
    (fits_cond (inside c) (finmap.get row c) None (finmap.get columns c) None (λ _. fits c) (λ _. refl))

pub projected_fit : (C : Names) (columns : Columns) (rows : Rows) → ((row : Row) → set.contains rows row ≡ true → Fits columns row)
    → (row : Row) → set.contains (project C rows) row ≡ true → Fits (columns_in columns C) row
unfolding project image
projected_fit C columns rows fit row there =
    let w = one_of (λ r. eq_by_cmp row_cmp row (cut C r)) (set.items rows) (sym (set.contains-image row_cmp row_cmp_total (cut C) rows row) ∙ there) in
    let same : row ≡ cut C w.0 = row_cmp-IsAntisymmetric row (cut C w.0) (is_tie _ w.2) in
    rw same (fits_cut C columns w.0 (fit w.0 (set.contains-items rows w.0 ∙ w.1)))
