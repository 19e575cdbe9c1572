-- What a definition that is taken makes.
use Rattle.std.proofs.Common.{◌≡◌, ◌∙◌, ◌<◌, false, List, ap, sym, refl, Result, Ok, Err, if◌then◌else◌}
use Rattle.std.specs.FinMap as finmap
use Rattle.plain_values.proofs.Common.{lt-leb}
use Rattle.lens_specs.specs.Common.{Columns, Edge, Lens, base, Name, Predicate, tables_limit, views_limit, Sort, table_sort}
use Rattle.grammar_specs.specs.Common.{Definition, table, view, Expr}
use Rattle.catalog_specs.specs.Catalogue.{Catalogue, with_lens}
use Rattle.catalog_specs.specs.Judging as judging
use Rattle.catalog_specs.specs.Judging.{is_taken, judged_table, judged_view, lens_in, table_count, unless_full, view_count, where_lensed, where_sorted}
use Rattle.view_catalog.specs.Judgements.{IsJudged}
use Rattle.catalog_specs.proofs.Judged.{lens_is, table_sort_is}

-- a verdict behind the test of the name
free_name : (known : Catalogue) (name : Name) (r : Result Definition judging.CatalogFault) → is_taken known name ≡ false
    → ◌≡◌ {A = Result Definition judging.CatalogFault} (if is_taken known name then Err (judging.name_taken name) else r) r
free_name known name r free = ap (λ b. if b then Err (judging.name_taken name) else r) free

module _ (known : Catalogue) (name : Name) (columns : Columns) (deps : List Edge) (P : Predicate) where
  -- the table is taken
  pub table_made : (s : Sort) → is_taken known name ≡ false → table_sort columns deps P ≡ Ok s → table_count known < 64
      → IsJudged (Ok (record { name = name; lens = base name s })) (judged_table known name columns deps P) known
  table_made s free e h = (
    table name columns deps P,
    free_name known name (where_sorted (table_sort columns deps P) known (table name columns deps P)) free
        ∙ ap (λ r. where_sorted r known (table name columns deps P)) e
        ∙ ap (λ full. unless_full full tables_limit (table name columns deps P)) (lt-leb 64 (table_count known) h),
    record { named = refl; made = ap (λ t. finmap.insert known name (base name t)) (sym (table_sort_is columns deps P s e)) },
  )

module _ (known : Catalogue) (name : Name) (expr : Expr) where
  -- the view is taken
  pub view_made : (L : Lens) → is_taken known name ≡ false → lens_in known expr ≡ Ok L → view_count known < 256
      → IsJudged (Ok (record { name = name; lens = L })) (judged_view known name expr) known
  view_made L free e h = (
    view name expr,
    free_name known name (where_lensed (lens_in known expr) known (view name expr)) free
        ∙ ap (λ r. where_lensed r known (view name expr)) e
        ∙ ap (λ full. unless_full full views_limit (view name expr)) (lt-leb 256 (view_count known) h),
    record { named = refl; made = ap (λ o. with_lens name o known) (lens_is known expr L e) },
  )
