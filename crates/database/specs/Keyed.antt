-- Databases whose lenses ask their tables by key.
use Rattle.std.specs.Prelude.{◌≡◌, [], None, Some}
use Rattle.std.specs.FinMap as finmap
use Rattle.lens_specs.specs.Common.{Lens, Name}
use Rattle.lens_laws.specs.Asked.{HasKeys, asked}
use Rattle.base_index.specs.Held.{IsQuiet}
use Rattle.lens_probe.specs.Viewed.{AreIndexed}
use Rattle.catalog_specs.specs.Catalogue.{catalogue}
use Rattle.server_laws.specs.Known.{IsHere}
use Rattle.server_laws.specs.StateLaws.{AreShort}
use Rattle.database.specs.States.{state_of}
use Rattle.database.specs.declared.database.Database.{Database}

-- nothing is staged or held, the texts are short, and each lens has the indexes that it needs
pub record IsKeyed (database : Database) : Type 0 where
  pub quiet : IsQuiet database.tables
  pub free : database.tables.held ≡ None
  pub short : AreShort database.catalog.texts
  pub indexed : (name : Name) (L : Lens) → finmap.get (catalogue database.catalog.texts) name ≡ Some L → AreIndexed (asked L []) database.tables.present

-- the lens is one of the state's, and may ask the tables of the database
pub record IsOpen (database : Database) (L : Lens) : Type 0 where
  pub here : IsHere (state_of database) L
  pub keys : HasKeys L
  pub indexed : AreIndexed (asked L []) database.tables.present

-- the two differ by the room of the catalogue alone
pub record IsSame (old new : Database) : Type 0 where
  pub texts : new.catalog.texts ≡ old.catalog.texts
  pub tables : new.tables ≡ old.tables
  pub version : new.version ≡ old.version
  pub last : new.last ≡ old.last
  pub past : new.past ≡ old.past
