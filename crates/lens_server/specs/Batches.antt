-- The edits of a batch, made one after another in tables that are held.
use Rattle.std.specs.Prelude.{◌≡◌, ℕ, true, List, [], map, Vec, Option, Some, None, is_some, Result, Ok, Err}
use Rattle.std.specs.declared.alloc.Global.{Global}
use Rattle.std.specs.FinMap as finmap
use Rattle.lens_specs.specs.Common.{Lens, Tables, Name, LeadTo}
use Rattle.lens_laws.specs.Asked.{asked}
use Rattle.base_index.specs.Held.{IsQuiet}
use Rattle.lens_probe.specs.Viewed.{AreIndexed}
use Rattle.catalog_specs.specs.Catalogue.{catalogue}
use Rattle.catalog_specs.specs.Judging.{first_refused}
pub use Rattle.edit_batches.specs.Chains.{Chain}
pub use Rattle.edit_batches.specs.Histories.{deltas_of}
use Rattle.edit_batches.specs.declared.entries.Entry.{Entry}
use Rattle.request_text.specs.Answers.{edit_refusal_view}
use Rattle.server_specs.specs.EditRefusal.{EditRefusal}
use Rattle.server_specs.specs.Request.{BatchEdit}
pub use Rattle.server_specs.specs.Validity.{AreStored}
use Rattle.server_specs.specs.Batching.{edit_tables, edits_from}
use Rattle.server_laws.specs.StateLaws.{AreShort}
use Rattle.signed_delta.specs.Tables.{table_delta}
use Rattle.signed_delta.specs.declared.delta.TableDelta.{TableDelta}
use Rattle.database.specs.States.{state_of}
use Rattle.view_changes.specs.declared.refusal.Refusal.{Refusal}
use Rattle.view_changes.specs.declared.refusal.Refusal.TheVariants as refusal
use Rattle.lens_server.specs.declared.batches.BatchFault.{BatchFault}
use Rattle.lens_server.specs.declared.batches.BatchFault.TheVariants as fault
use Rattle.database.specs.declared.database.Database.{Database}

-- edits can be made in the tables of the database, which are held
pub record CanEdit (database : Database) : Type 0 where
  pub taken : first_refused database.catalog.texts ≡ None
  pub stored : AreStored (catalogue database.catalog.texts) database.tables.present.relations
  pub short : AreShort database.catalog.texts
  pub indexed : (name : Name) (L : Lens) → finmap.get (catalogue database.catalog.texts) name ≡ Some L → AreIndexed (asked L []) database.tables.present
  pub quiet : IsQuiet database.tables
  pub held : is_some database.tables.held ≡ true

-- the two differ by the relations that readers see alone, and are held alike
pub record IsHolding (old new : Database) : Type 0 where
  pub texts : new.catalog.texts ≡ old.catalog.texts
  pub version : new.version ≡ old.version
  pub last : new.last ≡ old.last
  pub past : new.past ≡ old.past
  pub held : new.tables.held ≡ old.tables.held
  pub indexes : new.tables.present.indexes ≡ old.tables.present.indexes
  pub can : CanEdit new

-- what an edit of a batch comes to on the tables of the database
abbrev pub edit_on : Database → Option ℕ → BatchEdit → Result Tables EditRefusal
edit_on database on e = edit_tables e on (finmap.get (catalogue database.catalog.texts) e.view) (state_of database) database.tables.present.relations

-- the differences lead to the tables after the edit, which are the catalogue's; or its refusal is told, unless memory ran out
abbrev pub Gives : Database → Option ℕ → BatchEdit → Result (Vec TableDelta Global) Refusal → Type 0
Gives database on e (Ok deltas) = (db : Tables) × (edit_on database on e ≡ Ok db) × LeadTo (map table_delta deltas.items) database.tables.present.relations db
    × AreStored (catalogue database.catalog.texts) db
Gives database on e (Err (refusal.Rejected why)) = edit_on database on e ≡ Err (edit_refusal_view why)
Gives database on e (Err refusal.NoMemory) = Unit {0}

-- the edit was made, and the entry tells how; or its refusal is told, unless memory ran out
abbrev pub IsMade : Database → Database → Option ℕ → BatchEdit → Result Entry Refusal → Type 0
IsMade old new on e (Ok entry) =
    (edit_on old on e ≡ Ok new.tables.present.relations) × LeadTo (deltas_of entry) old.tables.present.relations new.tables.present.relations
IsMade old new on e (Err (refusal.Rejected why)) = edit_on old on e ≡ Err (edit_refusal_view why)
IsMade old new on e (Err refusal.NoMemory) = Unit {0}

-- the refusal of the edit at a place, or that memory ran out
abbrev pub fault_at : ℕ → Refusal → BatchFault
fault_at edit (refusal.Rejected why) = fault.Refused edit why
fault_at edit refusal.NoMemory = fault.NoMemory

-- the edits were made, and the entries tell how, one after another; or the first that is refused is told, unless memory ran out
abbrev pub AreMade : Database → Database → Option ℕ → List BatchEdit → Result (Vec Entry Global) BatchFault → Type 0
AreMade old new on edits (Ok entries) =
    (edits_from 0 on (state_of old) edits old.tables.present.relations ≡ Ok new.tables.present.relations)
    × Chain (map deltas_of entries.items) old.tables.present.relations new.tables.present.relations
AreMade old new on edits (Err (fault.Refused edit why)) = edits_from 0 on (state_of old) edits old.tables.present.relations ≡ Err (edit, edit_refusal_view why)
AreMade old new on edits (Err fault.NoMemory) = Unit {0}
