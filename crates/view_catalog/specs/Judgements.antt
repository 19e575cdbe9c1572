-- What a definition that is taken makes.
use Rattle.std.specs.Prelude.{◌≡◌, Result, Ok, Err}
use Rattle.std.specs.FinMap as finmap
use Rattle.lens_specs.specs.Common.{Lens, Name}
use Rattle.grammar_specs.specs.Meaning.{Definition, table, view}
use Rattle.catalog_specs.specs.Catalogue.{Catalogue, with_definition}
use Rattle.catalog_specs.specs.Judging as judging
use Rattle.view_catalog.specs.Faults.{IsRefused}
use Rattle.view_catalog.specs.declared.fault.CatalogFault.{CatalogFault}
use Rattle.view_catalog.specs.declared.judging.Named.{Named}

-- the name that a definition gives
abbrev pub name_in : Definition → Name
name_in (table name columns deps predicate) = name
name_in (view name expr) = name

-- the definition gives this name this lens
pub record Makes (known : Catalogue) (definition : Definition) (name : Name) (lens : Lens) : Type 0 where
  pub named : name_in definition ≡ name
  pub made : with_definition (Ok definition) known ≡ finmap.insert known name lens

-- a definition is taken and gives this name this lens, or it is refused so
abbrev pub IsJudged : Result Named CatalogFault → Result Definition judging.CatalogFault → Catalogue → Type 0
IsJudged (Ok made) verdict known = (definition : Definition) × (verdict ≡ Ok definition) × Makes known definition made.name made.lens
IsJudged (Err why) verdict known = IsRefused why verdict
