-- A definition that is prepared, and one that can be admitted.
use Rattle.std.specs.Prelude.{◌≡◌, ℕ, suc, List, [], ◌∷◌, ◌++◌, Option, Some, None, Result, Ok, Err, if◌then◌else◌}
use Rattle.std.specs.FinMap as finmap
use Rattle.lens_specs.specs.Common.{Lens, Name}
use Rattle.grammar_specs.specs.Meaning.{Definition}
use Rattle.grammar_laws.specs.Reading.{reading}
use Rattle.catalog_specs.specs.Catalogue.{catalogue, is_table_of}
use Rattle.catalog_specs.specs.Judging.{judged}
use Rattle.view_catalog.specs.Faults.{IsRefused}
use Rattle.view_catalog.specs.Judgements.{name_in}
use Rattle.view_catalog.specs.declared.fault.CatalogFault.{CatalogFault}
use Rattle.view_catalog.specs.declared.prepared.Prepared.{Prepared}

-- The text's definition is taken after these, it gives the prepared name, and under that name the catalogue of all of them has the
-- prepared lens.
pub record IsAdmissible (texts : List (List ℕ)) (prepared : Prepared) : Type 0 where
  pub definition : Definition
  pub taken : judged (catalogue texts) (reading prepared.text) ≡ Ok definition
  pub named : name_in definition ≡ prepared.name
  pub lens : finmap.get (catalogue (texts ++ prepared.text ∷ [])) prepared.name ≡ Some prepared.lens

-- the text is prepared and can be admitted, or its definition is refused so
abbrev pub IsPrepared : Result Prepared CatalogFault → List ℕ → List (List ℕ) → Type 0
IsPrepared (Ok prepared) text texts = (prepared.text ≡ text) × IsAdmissible texts prepared
IsPrepared (Err why) text texts = IsRefused why (judged (catalogue texts) (reading text))

-- the number of tables with the one that is prepared, if it is one
abbrev pub tables_with : Prepared → ℕ → ℕ
tables_with prepared n = if is_table_of prepared.name prepared.lens then suc n else n

-- the name, where the lens is its table
abbrev pub table_in : Name → Lens → Option Name
table_in name lens = if is_table_of name lens then Some name else None
