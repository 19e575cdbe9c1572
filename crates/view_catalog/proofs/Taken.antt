-- What is known of a definition that is taken.
use Rattle.std.proofs.Common.{◌≡◌, false, subst, Result, Ok, Err, refl, ap, ◌∙◌}
use Rattle.std.specs.FinMap as finmap
use Rattle.lens_specs.specs.Common.{Lens, table_sort}
use Rattle.grammar_specs.specs.Common.{Definition, table, view, Fault}
use Rattle.catalog_specs.specs.Catalogue.{Catalogue, with_definition, with_lens, table_lens}
use Rattle.catalog_specs.specs.Judging.{name_taken, is_taken, where_sorted, lens_in, where_lensed, judged}
use Rattle.catalog_specs.proofs.Judged.{passed, sorted_ok, lensed_ok, lens_is}
use Rattle.view_catalog.specs.Judgements.{name_in}

-- The text is read, its name is free, and the catalogue grows by a lens under that name.
pub record Grows (known : Catalogue) (r : Result Definition Fault) (d : Definition) : Type 0 where
  pub lens : Lens
  pub is_read : r ≡ Ok d
  pub free : is_taken known (name_in d) ≡ false
  pub made : with_definition (Ok d) known ≡ finmap.insert known (name_in d) lens

grows_from : (known : Catalogue) (d e : Definition) (L : Lens) → d ≡ e → is_taken known (name_in d) ≡ false
    → with_definition (Ok d) known ≡ finmap.insert known (name_in d) L → Grows known (Ok d) e
grows_from known d e L is free made = record {
  lens = L;
  is_read = ap Ok is;
  free = subst (λ x. is_taken known (name_in x) ≡ false) is free;
  made = subst (λ x. with_definition (Ok x) known ≡ finmap.insert known (name_in x) L) is made;
}

-- a definition that is taken makes the catalogue grow
pub grows : (known : Catalogue) (r : Result Definition Fault) (d : Definition) → judged known r ≡ Ok d → Grows known r d
grows known (Err fault) d h = cc
grows known (Ok (table name columns deps predicate)) d h =
    let free = passed (is_taken known name) (name_taken name) (where_sorted (table_sort columns deps predicate) known (table name columns deps predicate)) d h in
    grows_from known (table name columns deps predicate) d (table_lens name columns deps predicate)
    (sorted_ok (table_sort columns deps predicate) known (table name columns deps predicate) d free.1).1 free.0 refl
grows known (Ok (view name expr)) d h =
    let free = passed (is_taken known name) (name_taken name) (where_lensed (lens_in known expr) known (view name expr)) d h in
    let w = lensed_ok (lens_in known expr) known (view name expr) d free.1 in
    grows_from known (view name expr) d w.0.0 w.1 free.0 (ap (λ o. with_lens name o known) (lens_is known expr w.0.0 w.0.1))
