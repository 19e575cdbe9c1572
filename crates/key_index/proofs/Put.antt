-- An index into which a row was put is that of the rows with it.
use Rattle.std.proofs.Common.{◌≡◌, ap, sym, ◌∙◌, refl, Bool, true, false, cond, ◌&&◌, ◌||◌}
use Rattle.plain_values.proofs.Common.{eq_by_cmp, eq_by_cmp_equiv, row_cmp, Row, row_cmp_total, row_cmp-IsAntisymmetric}
use Rattle.plain_values.specs.SortedSet as set
use Rattle.lens_specs.specs.Common.{Rows}
use Rattle.key_index.specs.Index.{group_at, has_key, IsIndexOf, IsPut}
use Rattle.key_index.specs.Key.{Cells, cells_cmp, key_of}
use Rattle.key_index.specs.KeyOrder.{cells_cmp_total}
use Rattle.key_index.specs.declared.index.Index.{Index}
use Rattle.key_index.proofs.Groups.{tied}

at_row : (b a : Bool) → cond b true (a && b) ≡ b
at_row true a = refl
at_row false true = refl
at_row false false = refl

off_row : (b x : Bool) → cond b x x ≡ x
off_row true x = refl
off_row false x = refl

with_it : (b e a p : Bool) → (e ≡ true → p ≡ b) → cond b (e || (a && p)) (a && p) ≡ ((e || a) && p)
with_it b true a p h = rw (h refl) (at_row b a)
with_it b false a p h = off_row b (a && p)

chosen : (b : Bool) (s t : Rows) (x : Row) → set.contains (cond b s t) x ≡ cond b (set.contains s x) (set.contains t x)
chosen true s t x = refl
chosen false s t x = refl

module _ (rows : Rows) (row : Row) (old new : Index) (cols : new.cols ≡ old.cols) (put : IsPut (key_of old.cols row) row old new) where
  under_row : (q : Cells) (x : Row) → eq_by_cmp row_cmp x row ≡ true → has_key old.cols q x ≡ eq_by_cmp cells_cmp (key_of old.cols row) q
  under_row q x e = ap (has_key old.cols q) (tied x row e) ∙ (eq_by_cmp_equiv cells_cmp_total).symm q (key_of old.cols row)

  has : IsIndexOf rows old → (q : Cells) → group_at new q ≡ set.filter (has_key old.cols q) (set.insert rows row)
  has is q = set.same_set row_cmp_total row_cmp-IsAntisymmetric _ _ (λ x.
      let b = eq_by_cmp cells_cmp (key_of old.cols row) q in
      let e = eq_by_cmp row_cmp x row in
      let p = has_key old.cols q x in
      let group : set.contains (group_at old q) x ≡ (set.contains rows x && p) =
      ap (λ s. set.contains s x) (is q) ∙ set.contains-filter row_cmp_total row_cmp-IsAntisymmetric (has_key old.cols q) rows x in
      ap (λ s. set.contains s x) (put q)
      ∙ chosen b (set.insert (group_at old q) row) (group_at old q) x
      ∙ (λ i. cond b ((set.contains-insert row_cmp_total (group_at old q) row x ∙ ap (λ g. e || g) group) i) (group i))
      ∙ with_it b e (set.contains rows x) p (under_row q x)
      ∙ ap (λ a. a && p) (sym (set.contains-insert row_cmp_total rows row x))
      ∙ sym (set.contains-filter row_cmp_total row_cmp-IsAntisymmetric (has_key old.cols q) (set.insert rows row) x))

  pub index_put : IsIndexOf rows old → IsIndexOf (set.insert rows row) new
  index_put is q = has is q ∙ ap (λ c. set.filter (has_key c q) (set.insert rows row)) (sym cols)

-- an index with the same groups is that of the same rows
pub index_same : (rows : Rows) (old new : Index) → new.cols ≡ old.cols → ((q : Cells) → group_at new q ≡ group_at old q) → IsIndexOf rows old → IsIndexOf rows new
index_same rows old new cols same is q = same q ∙ is q ∙ ap (λ c. set.filter (has_key c q) rows) (sym cols)
