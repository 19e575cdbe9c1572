-- Views of a database that are opened.
use Rattle.std.specs.Prelude.{◌≡◌, [], None, Some}
use Rattle.std.specs.FinMap as finmap
use Rattle.lens_specs.specs.Common.{Lens, Name}
use Rattle.lens_laws.specs.Asked.{asked}
use Rattle.lens_laws.specs.Work.{fan}
use Rattle.lens_probe.specs.Viewed.{AreIndexed, FindsAtMost}
use Rattle.catalog_specs.specs.Catalogue.{catalogue}
use Rattle.catalog_specs.specs.Judging.{first_refused}
use Rattle.server_specs.specs.Validity.{AreStored}
use Rattle.server_laws.specs.StateLaws.{AreShort}
use Rattle.opened_view.specs.Seen.{lens_of}
use Rattle.opened_view.specs.declared.opened.Opened.{Opened}
use Rattle.database.specs.Keyed.{IsOpen}
use Rattle.database.specs.declared.database.Database.{Database}

-- A view can be opened: the definitions are taken and short, the tables are the catalogue's, and each lens has its indexes.
pub record CanOpen (database : Database) : Type 0 where
  pub taken : first_refused database.catalog.texts ≡ None
  pub stored : AreStored (catalogue database.catalog.texts) database.tables.present.relations
  pub short : AreShort database.catalog.texts
  pub indexed : (name : Name) (L : Lens) → finmap.get (catalogue database.catalog.texts) name ≡ Some L → AreIndexed (asked L []) database.tables.present

-- The view is of a lens of the state, opened over the tables of the database, at its version and with its last changes.
pub record IsOpened (opened : Opened) (database : Database) : Type 0 where
  pub here : IsOpen database (lens_of opened)
  pub tables : opened.view.tables ≡ database.tables
  pub version : opened.version ≡ database.version
  pub last : opened.last.now ≡ database.last
  pub finds : FindsAtMost opened.view (fan (lens_of opened) database.tables.present.relations)
