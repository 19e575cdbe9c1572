-- Databases whose lenses ask their tables by key.
use Rattle.std.proofs.Common.{◌≡◌, ◌∙◌, [], Some, ap, subst, sym}
use Rattle.std.specs.FinMap as finmap
use Rattle.base_index.specs.Held.{IsQuiet}
use Rattle.lens_laws.proofs.Common.{asked}
use Rattle.lens_probe.specs.Viewed.{AreIndexed}
use Rattle.lens_specs.specs.Common.{Lens, Name}
use Rattle.server_specs.specs.Common.{catalogue, Valid}
use Rattle.server_laws.proofs.Keys.{all_keyed}
use Rattle.server_laws.proofs.Stored.{lens_over}
use Rattle.server_laws.specs.StateLaws.{AreShort}
use Rattle.database.specs.Keyed.{IsKeyed, IsOpen, IsSame}
use Rattle.database.specs.Opening.{CanOpen}
use Rattle.database.specs.States.{state_of}
use Rattle.database.specs.declared.database.Database.{Database}

-- a lens of the catalogue may ask the tables
pub open_lens : (database : Database) → CanOpen database → (name : Name) (L : Lens) → finmap.get (catalogue database.catalog.texts) name ≡ Some L → IsOpen database L
open_lens database can name L e =
    record { here = lens_over (state_of database) can.taken can.stored name L e; keys = all_keyed database.catalog.texts can.short can.taken name L e; indexed = can.indexed name L e }

-- the views of a database that can be read can be opened
pub can_open : (database : Database) → Valid (state_of database) → IsKeyed database → CanOpen database
can_open database v k = record { taken = v.definitions; stored = v.tables; short = k.short; indexed = k.indexed }

-- a database that differs by the room of its catalogue alone
pub same_state : (old new : Database) → IsSame old new → state_of new ≡ state_of old
same_state old new s = (λ i. record { texts = s.texts i; tables = (s.tables i).present.relations; version = s.version i; last = s.last i; past = s.past i })

pub same_keyed : (old new : Database) → IsSame old new → IsKeyed old → IsKeyed new
same_keyed old new s k = record {
  quiet = subst IsQuiet (sym s.tables) k.quiet;
  free = ap (λ t. t.held) s.tables ∙ k.free;
  short = subst AreShort (sym s.texts) k.short;
  indexed = λ name L e.
      subst (λ tables. AreIndexed (asked L []) tables.present) (sym s.tables)
      (k.indexed name L (subst (λ ts. finmap.get (catalogue ts) name ≡ Some L) s.texts e));
}
