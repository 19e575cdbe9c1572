-- What is exported reads back.
use Rattle.std.specs.Prelude.{Option, Some, None, Result, Ok}
use Rattle.std.specs.FinMap as finmap
use Rattle.lens_specs.specs.Lens.{Lens, Tables}
use Rattle.catalog_specs.specs.Catalogue.{catalogue}
use Rattle.server_specs.specs.Answer.{Answer}
use Rattle.server_specs.specs.Request.{Request, export}
use Rattle.server_specs.specs.State.{State}
use Rattle.view_answers.specs.Sheets.{SheetReadsBack}

-- what is exported of the lens of a name, if there is one, reads back
abbrev pub NamedReadsBack : Option Lens → Tables → Type 0
NamedReadsBack None db = Unit {0}
NamedReadsBack (Some L) db = SheetReadsBack L db

-- so it is with the view that a request exports, if it exports one
abbrev pub ExportReadsBack : Result Request Answer → State → Type 0
ExportReadsBack (Ok (export name)) s = NamedReadsBack (finmap.get (catalogue s.texts) name) s.tables
ExportReadsBack other s = Unit {0}
