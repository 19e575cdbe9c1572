-- Marks of the keys of hidden rows.
use Rattle.std.proofs.Common.{◌≡◌, List, [], ◌∷◌, ap, sym, ◌∙◌, subst, refl, true, false, arith, suc, ◌||◌, slice_index_or}
use Rattle.plain_values.proofs.Common.{eq_by_cmp, false≢true, Names, row_cmp, Row, row_cmp_total, row_cmp-IsAntisymmetric}
use Rattle.plain_values.specs.SortedSet as set
use Rattle.lens_specs.specs.Common.{Rows}
use Rattle.key_index.specs.Index.{has_key}
use Rattle.key_index.specs.Key.{Cells, hash_key, key_of}
use Rattle.key_index.specs.Lists.{HasKeys, SameCols, cols_of}
use Rattle.key_index.specs.Marks.{AreMarked, HasMarks, StayMarked, is_marked}
use Rattle.key_index.specs.Cols.{has_cols, same_names}
use Rattle.key_index.specs.declared.index.Index.{Index}
use Rattle.key_index.specs.declared.keyed.Keyed.{Keyed}
use Rattle.key_index.specs.declared.marks.Marks.{Marks}
use Rattle.key_index.proofs.Groups.{tied}
use Rattle.key_index.proofs.Keys.{key_tied}
use Rattle.key_index.proofs.RowSets.{contained, same_rows}
use Rattle.key_index.proofs.Sets.{same_names_are}

-- the marks of a row in indexes by the same columns
pub same_marks : (marks : Marks) (old new : List Index) (row : Row) → SameCols old new → HasMarks marks old row → HasMarks marks new row
same_marks marks old new row same all i d within =
    ap (λ C. is_marked marks (hash_key (key_of C row))) (same.each i d d (omega (arith, same.many))) ∙ all i d (omega (arith, same.many))

-- more marks do for a row too
pub more_marks : (old new : Marks) (indexes : List Index) (row : Row) → StayMarked old new → HasMarks old indexes row → HasMarks new indexes row
more_marks old new indexes row stay all i d within = stay (hash_key (key_of (slice_index_or indexes i d).cols row)) (all i d within)

-- a row that ties with another has its marks
pub tied_marks : (marks : Marks) (indexes : List Index) (k x : Row) → eq_by_cmp row_cmp x k ≡ true → HasMarks marks indexes k → HasMarks marks indexes x
tied_marks marks indexes k x tie all = subst (HasMarks marks indexes) (sym (tied x k tie)) all

-- a row whose listed keys are marked has its marks
pub keyed_marks : (marks : Marks) (indexes : List Index) (k : Keyed) → HasKeys indexes k → AreMarked marks k.keys.items → HasMarks marks indexes k.row
keyed_marks marks indexes k keys all i d within =
    ap (λ q. is_marked marks (hash_key q)) (sym (keys.each i d [] within)) ∙ all i [] (omega (arith, keys.many))

some_marked : (marks : Marks) (indexes : List Index) (cols : Names) (row : Row) → has_cols (cols_of indexes) cols ≡ true → HasMarks marks indexes row
    → is_marked marks (hash_key (key_of cols row)) ≡ true
some_marked marks [] cols row is all = absurd (false≢true is)
some_marked marks (x ∷ xs) cols row is all =
    elim (same_names x.cols cols) as (λ b. same_names x.cols cols ≡ b → (b || has_cols (cols_of xs) cols) ≡ true → is_marked marks (hash_key (key_of cols row)) ≡ true) [
      | true ↦ λ same _. subst (λ C. is_marked marks (hash_key (key_of C row)) ≡ true) (same_names_are x.cols cols same) (all 0 x (omega arith))
      | false ↦ λ _ rest. some_marked marks xs cols row rest (λ i d within. all (suc i) d (omega arith))
    ] refl is

-- under a key that is not marked no row is hidden
module _ (marks : Marks) (indexes : List Index) (hidden : Rows) (cols : Names) (key : Cells) (all : (row : Row) → set.contains hidden row ≡ true → HasMarks marks indexes row)
    (is : has_cols (cols_of indexes) cols ≡ true) (unmarked : is_marked marks (hash_key key) ≡ false) where
  none_under : (x : Row) → has_key cols key x ≡ true → set.contains hidden x ≡ false
  none_under x under = elim (set.contains hidden x) as (λ b. set.contains hidden x ≡ b → b ≡ false) [
    | true ↦ λ there. absurd (false≢true (sym unmarked ∙ ap (λ q. is_marked marks (hash_key q)) (key_tied key (key_of cols x) under) ∙ some_marked marks indexes cols x is (all x there)))
    | false ↦ λ _. refl
  ] refl

  pub all_shown_there : (rows go : Rows) → set.filter (has_key cols key) rows ≡ set.filter (has_key cols key) (set.difference rows (set.difference hidden go))
  all_shown_there rows go = same_rows _ _ (λ x.
      let a = set.contains-filter row_cmp_total row_cmp-IsAntisymmetric (has_key cols key) rows x in
      let b = set.contains-filter row_cmp_total row_cmp-IsAntisymmetric (has_key cols key) (set.difference rows (set.difference hidden go)) x in
      grind (arith, contained, a, b, none_under x))
