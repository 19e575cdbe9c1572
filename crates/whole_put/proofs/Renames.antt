-- A rename and its put.
use Rattle.std.proofs.Common.{◌≡◌, true, false, [], refl, sym, ap, ◌∙◌, subst}
use Rattle.plain_values.proofs.Common.{false_from_ne_true, Row, absurd_false}
use Rattle.plain_values.specs.SortedSet as set
use Rattle.fd_laws.proofs.Common.{name_itself, from_image}
use Rattle.lens_specs.specs.Common.{Columns, Fits, names, Name, Names, rename_get, rename_put, IsRelation, Relation, Rows, has, image, renamed_row, renamed_columns}
use Rattle.lens_laws.proofs.Common.{fits_is_over, has_rename, not_old, names-renamed, IsOver, CanRename, IsIn, Shape}
use Rattle.lens_laws.proofs.Rename.{fits_renamed, rename_lawful}
use Rattle.lens_laws.specs.Rename.{rename_shape}

-- rows that fit have a value in just the columns
pub fits_over : (U : Columns) (C : Names) (r : Row) → C ≡ names U → Fits U r → IsOver C r
fits_over U C r is h = subst (λ D. IsOver D r) (sym is) (fits_is_over U r h)

-- the renamed rows fit the renamed columns
pub shown_fits : (A B : Name) (M : Relation) (U : Columns) (N : Rows) → IsRelation M → U ≡ renamed_columns A B M.columns → N ≡ image (renamed_row A B) M.rows → (r : Row) → has N r ≡ true → Fits U r
shown_fits A B M U N h columns rows r i =
    let w = from_image (renamed_row A B) M.rows r (ap (λ K. has K r) (sym rows) ∙ i) in
    subst (λ V. Fits V r) (sym columns) (subst (Fits (renamed_columns A B M.columns)) (sym w.2) (fits_renamed A B M.columns w.0 (h w.0 w.1)))

module _ (A B : Name) (source view : Relation) (column : set.contains (names source.columns) A ≡ true) (free : set.contains (names source.columns) B ≡ false)
    (columns : view.columns ≡ renamed_columns A B source.columns) (fit_source : IsRelation source) (fit_view : IsRelation view) where
  -- a shape with no test of rows, and no edges
  abbrev s : Shape
  s = record { columns = source.columns; holds = λ r. true; tree = [] }

  can : CanRename s A B
  can = record { column = column; free = free; within = tt }

  of_source : IsIn source.rows s
  of_source = record { columns = fit_source; holds = λ r i. refl; meets = tt }

  of_view : IsIn view.rows (rename_shape s A B)
  of_view = record { columns = λ r i. subst (λ U. Fits U r) columns (fit_view r i); holds = λ r i. refl; meets = tt }

  -- no column of the view has the old name
  pub view_lacks : (C : Names) → C ≡ names view.columns → set.contains C A ≡ false
  view_lacks C is = false_from_ne_true _ (λ i.
      let j = ap (λ D. set.contains D A) (sym (is ∙ ap names columns ∙ names-renamed A B source.columns column free)) ∙ i in
      absurd_false _ (name_itself A) (not_old s A B can A j))

  -- the rows with the old name fit the source
  pub source_fits : (U : Columns) (N : Rows) → U ≡ source.columns → N ≡ image (renamed_row B A) view.rows → (r : Row) → has N r ≡ true → Fits U r
  source_fits U N is rows r i =
      let w = from_image (renamed_row B A) view.rows r (ap (λ K. has K r) (sym rows) ∙ i) in
      subst (λ V. Fits V r) (sym is) (subst (Fits source.columns) (sym w.2) (has_rename s A B can source.rows of_source w.0 (of_view.columns w.0 w.1)).1)

  pub put_get : rename_get A B (rename_put A B view.rows) ≡ view.rows
  put_get = (rename_lawful s A B can).put_get view.rows source.rows of_source of_view

  pub get_put : view.rows ≡ rename_get A B source.rows → rename_put A B view.rows ≡ source.rows
  get_put same = ap (rename_put A B) same ∙ (rename_lawful s A B can).get_put source.rows of_source
