-- An index from which a row was taken is that of the rows without it.
use Rattle.std.proofs.Common.{◌≡◌, ap, sym, ◌∙◌, refl, Bool, true, false, cond, ◌⊎◌, ⊎_elim, not, ◌&&◌, ◌||◌}
use Rattle.plain_values.proofs.Common.{eq_by_cmp, eq_by_cmp_equiv, row_cmp, Row, row_cmp_total, row_cmp-IsAntisymmetric}
use Rattle.plain_values.specs.SortedSet as set
use Rattle.lens_specs.specs.Common.{Rows}
use Rattle.key_index.specs.Index.{group_at, has_key, IsIndexOf, IsTaken}
use Rattle.key_index.specs.Key.{Cells, cells_cmp, key_of}
use Rattle.key_index.specs.KeyOrder.{cells_cmp_total}
use Rattle.key_index.specs.declared.index.Index.{Index}
use Rattle.key_index.proofs.Groups.{tied}

at_row : (b a : Bool) → cond b false (a && b) ≡ false
at_row true a = refl
at_row false true = refl
at_row false false = refl

off_row : (b x : Bool) → cond b x x ≡ x
off_row true x = refl
off_row false x = refl

at_new : (b : Bool) → cond b false b ≡ false
at_new true = refl
at_new false = refl

-- of rows that may have the row
without : (b e a p : Bool) → (e ≡ true → p ≡ b) → cond b (not e && (a && p)) (a && p) ≡ ((not e && a) && p)
without b true a p h = rw (h refl) (at_row b a)
without b false a p h = off_row b (a && p)

-- of rows to which it was added
with_new : (b e a p : Bool) → (e ≡ true → p ≡ b) → cond b (not e && ((e || a) && p)) ((e || a) && p) ≡ ((not e && a) && p)
with_new b true a p h = rw (h refl) (at_new b)
with_new b false a p h = off_row b (a && p)

chosen : (b : Bool) (s t : Rows) (x : Row) → set.contains (cond b s t) x ≡ cond b (set.contains s x) (set.contains t x)
chosen true s t x = refl
chosen false s t x = refl

module _ (rows : Rows) (row : Row) (old new : Index) (cols : new.cols ≡ old.cols) (taken : IsTaken (key_of old.cols row) row old new) where
  under_row : (q : Cells) (x : Row) → eq_by_cmp row_cmp x row ≡ true → has_key old.cols q x ≡ eq_by_cmp cells_cmp (key_of old.cols row) q
  under_row q x e = ap (has_key old.cols q) (tied x row e) ∙ (eq_by_cmp_equiv cells_cmp_total).symm q (key_of old.cols row)

  -- what the group has at x, where the group was that of the rows `all`
  seen : (all : Rows) → IsIndexOf all old → (q : Cells) (x : Row)
      → set.contains (group_at new q) x
      ≡ cond (eq_by_cmp cells_cmp (key_of old.cols row) q) (not (eq_by_cmp row_cmp x row) && (set.contains all x && has_key old.cols q x)) (set.contains all x && has_key old.cols q x)
  seen all is q x =
      let group : set.contains (group_at old q) x ≡ (set.contains all x && has_key old.cols q x) =
      ap (λ s. set.contains s x) (is q) ∙ set.contains-filter row_cmp_total row_cmp-IsAntisymmetric (has_key old.cols q) all x in
      ap (λ s. set.contains s x) (taken q)
      ∙ chosen (eq_by_cmp cells_cmp (key_of old.cols row) q) (set.remove (group_at old q) row) (group_at old q) x
      ∙ (λ i. cond (eq_by_cmp cells_cmp (key_of old.cols row) q) ((set.contains-remove row_cmp_total (group_at old q) row x ∙ ap (λ b. not (eq_by_cmp row_cmp x row) && b) group) i) (group i))

  wanted : (q : Cells) (x : Row) → set.contains (set.filter (has_key old.cols q) (set.remove rows row)) x ≡ ((not (eq_by_cmp row_cmp x row) && set.contains rows x) && has_key old.cols q x)
  wanted q x =
      set.contains-filter row_cmp_total row_cmp-IsAntisymmetric (has_key old.cols q) (set.remove rows row) x
      ∙ ap (λ b. b && has_key old.cols q x) (set.contains-remove row_cmp_total rows row x)

  had : IsIndexOf rows old → (q : Cells) → group_at new q ≡ set.filter (has_key old.cols q) (set.remove rows row)
  had is q = set.same_set row_cmp_total row_cmp-IsAntisymmetric _ _ (λ x.
      seen rows is q x ∙ without (eq_by_cmp cells_cmp (key_of old.cols row) q) (eq_by_cmp row_cmp x row) (set.contains rows x) (has_key old.cols q x) (under_row q x) ∙ sym (wanted q x))

  had_new : IsIndexOf (set.insert rows row) old → (q : Cells) → group_at new q ≡ set.filter (has_key old.cols q) (set.remove rows row)
  had_new is q = set.same_set row_cmp_total row_cmp-IsAntisymmetric _ _ (λ x.
      seen (set.insert rows row) is q x
      ∙ ap (λ a. cond (eq_by_cmp cells_cmp (key_of old.cols row) q) (not (eq_by_cmp row_cmp x row) && (a && has_key old.cols q x)) (a && has_key old.cols q x)) (set.contains-insert row_cmp_total rows row x)
      ∙ with_new (eq_by_cmp cells_cmp (key_of old.cols row) q) (eq_by_cmp row_cmp x row) (set.contains rows x) (has_key old.cols q x) (under_row q x) ∙ sym (wanted q x))

  pub index_taken : IsIndexOf rows old ⊎ IsIndexOf (set.insert rows row) old → IsIndexOf (set.remove rows row) new
  index_taken is q = ⊎_elim had had_new is q ∙ ap (λ c. set.filter (has_key c q) (set.remove rows row)) (sym cols)
