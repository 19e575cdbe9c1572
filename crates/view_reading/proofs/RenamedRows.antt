-- The rows of a rename, in a list.
use Rattle.std.proofs.Common.{◌≡◌, ◌∙◌, List, ap, map, subst, sym, true, false}
use Rattle.plain_values.proofs.Common.{Contains, list_any, eq_by_cmp, row_cmp, Row, from_map, in_map}
use Rattle.plain_values.specs.SortedSet as set
use Rattle.lens_specs.specs.Common.{Lens, Tables, get, rename, sort_of, view_names, Name, Names, rename_get, Rows, has, image, renamed_row}
use Rattle.fd_laws.proofs.Common.{from_image, same_rel, row_itself, row_total, tied_row, in_image}
use Rattle.lens_laws.proofs.Common.{IsOver, AreOf, IsTyped, get_sort, fits_is_over}
use Rattle.lens_laws.proofs.NodeFinds.{contained}
use Rattle.view_reading.proofs.Listed.{from_list, in_list}

module _ (A B : Name) (S : Lens) (typed : IsTyped (rename A B S)) where
  -- each row of the source has just its columns
  pub source_over : (db : Tables) (C : Names) (r : Row) → AreOf S db → C ≡ view_names S → has (get S db) r ≡ true → IsOver C r
  source_over db C r are cols i = subst (λ D. IsOver D r) (sym cols) (fits_is_over (sort_of S).columns r ((get_sort S db typed.0 are).columns r i))

  -- none of which is the new name
  pub new_is_free : (C : Names) → C ≡ view_names S → set.contains C B ≡ false
  new_is_free C cols = ap (λ D. set.contains D B) cols ∙ typed.1.free

-- ---- seen from the lens that it is

module _ (L S : Lens) (A B : Name) (is : rename A B S ≡ L) (typed : IsTyped L) where
  here : IsTyped (rename A B S)
  here = subst IsTyped (sym is) typed

  are_here : (db : Tables) → AreOf L db → AreOf S db
  are_here db are = subst (λ M. AreOf M db) (sym is) are

  -- the rows of the source, in a list, have its columns
  pub listed_over : (db : Tables) (C : Names) (rows : List Row) → AreOf L db → C ≡ view_names S → set.from_list rows ≡ get S db → (r : Row) → Contains rows r → IsOver C r
  listed_over db C rows are cols shown r i =
      source_over A B S here db C r (are_here db are) cols (ap (λ M. has M r) (sym shown) ∙ set.contains-from_list row_total rows r ∙ contained rows r i)

  pub free_in : (C : Names) → C ≡ view_names S → set.contains C B ≡ false
  free_in C cols = new_is_free A B S here C cols

-- ---- lists

-- the renamed rows of a list, as a set, are the renamed rows of the set
listed_renamed : (A B : Name) (rows : List Row) (M : Rows) → set.from_list rows ≡ M → set.from_list (map (renamed_row A B) rows) ≡ image (renamed_row A B) M
listed_renamed A B rows M is = same_rel _ _
    (λ q i.
    let w = from_map (eq_by_cmp row_cmp) tied_row row_itself (eq_by_cmp row_cmp) tied_row row_itself (renamed_row A B) rows q (sym (set.contains-from_list row_total (map (renamed_row A B) rows) q) ∙ i) in
    ap (has (image (renamed_row A B) M)) w.2 ∙ in_image (renamed_row A B) M w.0 (from_list rows M is w.0 w.1))
    (λ q i.
    let w = from_image (renamed_row A B) M q i in
    set.contains-from_list row_total (map (renamed_row A B) rows) q ∙ ap (λ r. list_any (eq_by_cmp row_cmp r) (map (renamed_row A B) rows)) w.2
    ∙ in_map (eq_by_cmp row_cmp) tied_row row_itself (eq_by_cmp row_cmp) tied_row row_itself (renamed_row A B) rows w.0 (in_list rows M is w.0 w.1))

pub renamed_listed : (L S : Lens) (A B : Name) (db : Tables) (rows : List Row) → rename A B S ≡ L → set.from_list rows ≡ get S db → set.from_list (map (renamed_row A B) rows) ≡ get L db
unfolding get rename_get
renamed_listed L S A B db rows is shown = listed_renamed A B rows (get S db) shown ∙ ap (λ K. get K db) is
