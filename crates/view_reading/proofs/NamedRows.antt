-- The rows that a lens shows have its columns.
use Rattle.std.proofs.Common.{◌≡◌, ◌∙◌, ap, subst, sym, true}
use Rattle.std.specs.FinMap as map
use Rattle.plain_values.proofs.Common.{bytes_cmp, Row, keys_rise}
use Rattle.plain_values.specs.SortedSet as set
use Rattle.lens_specs.specs.Common.{Lens, Tables, get, sort_of, view_names, Names, Predicate, holds, mentioned, Rows, has}
use Rattle.fd_laws.proofs.Common.{name_exact, name_total}
use Rattle.lens_laws.proofs.Common.{IsOver, AreOf, IsTyped, get_sort, fits_is_over}
use Rattle.view_reading.specs.Pasting.{AreNamed, HasNames}
use Rattle.view_reading.specs.Reading.{rows_for}
use Rattle.view_reading.proofs.Sides.{was_there}

-- a row over columns has just their names
over_named : (C : Names) (r : Row) → IsOver C r → HasNames C r
over_named C r over =
    ap set.items (set.same_set name_total name_exact C (set.from_list (map.keys r)) (λ c.
    sym (over c) ∙ map.contains_key-keys r c ∙ sym (set.contains-from_list name_total (map.keys r) c)))
    ∙ set.items-from_list name_total (map.keys r) (keys_rise bytes_cmp r)

module _ (L : Lens) (db : Tables) (C : Names) (M : Rows) (typed : IsTyped L) (are : AreOf L db) (cols : C ≡ view_names L) where
  some_named : ((r : Row) → has M r ≡ true → has (get L db) r ≡ true) → AreNamed C M
  some_named among r there =
      over_named C r (subst (λ D. IsOver D r) (sym cols) (fits_is_over (sort_of L).columns r ((get_sort L db typed are).columns r (among r there))))

  pub shown_named : M ≡ get L db → AreNamed C M
  shown_named is = some_named (λ r there. ap (λ N. has N r) (sym is) ∙ there)

-- and so have those that a selection needs
pub needed_named : (P : Predicate) (L : Lens) (db : Tables) (C : Names) (M : Rows) → IsTyped L → AreOf L db → C ≡ view_names L → M ≡ rows_for P L db → AreNamed C M
needed_named P L db C M typed are cols is = some_named L db C M typed are cols (λ r there.
    was_there (holds P) (set.is_subset (mentioned P) (view_names L)) (get L db) r (ap (λ N. has N r) (sym is) ∙ there))
