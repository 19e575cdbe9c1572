-- What an opening gives, and what its parts do.
use Rattle.std.specs.Prelude.{◌≡◌, ◌≢◌, ℕ, false, List, [], Option, Some, None, option_map, Result, Ok, Err}
use Rattle.std.specs.FinMap as finmap
use Rattle.plain_values.specs.Order.{bytes_cmp}
use Rattle.plain_values.specs.SortedSet as set
use Rattle.lens_specs.specs.Common.{TableDelta, Kept, Lens, Name, is_among, Rows}
use Rattle.lens_laws.specs.Asked.{asked}
use Rattle.base_index.specs.Held.{IsQuiet}
use Rattle.lens_probe.specs.Viewed.{AreIndexed}
use Rattle.catalog_specs.specs.Catalogue.{Catalogue, catalogue}
use Rattle.catalog_specs.specs.Judging.{first_refused}
use Rattle.server_laws.specs.StateLaws.{AreShort}
use Rattle.opening_specs.specs.Opening as opening
use Rattle.opening_specs.specs.Opening.{all_names, damage_among, damage_at, definition, opened, table_sort_of}
use Rattle.table_keeper.specs.declared.keeper.KeptTable.{KeptTable}
use Rattle.view_catalog.specs.declared.fault.CatalogFault.{CatalogFault}
use Rattle.view_catalog.specs.declared.fault.CatalogFault.TheVariants.{NoMemory}
use Rattle.database.specs.States.{state_of}
use Rattle.opened_view.specs.Counters.{row_count}
use Rattle.database_opening.specs.declared.definitions.Admitted.{Admitted}
use Rattle.database_opening.specs.declared.damage.Damage.{Damage}
use Rattle.database_opening.specs.declared.damage.Damage.TheVariants as damage
use Rattle.database_opening.specs.declared.fault.OpenFault.{OpenFault}
use Rattle.database_opening.specs.declared.fault.OpenFault.TheVariants as fault
use Rattle.database.specs.declared.database.Database.{Database}

-- the damage that the definitions speak of
abbrev pub damage_view : Damage → opening.Damage
damage_view (damage.Definition index) = opening.definition index
damage_view (damage.Missing table) = opening.missing table
damage_view (damage.Strange table) = opening.strange table
damage_view (damage.BadRow table row) = opening.bad_row table row
damage_view (damage.ClashIn table first second) = opening.clash_in table first second

-- the database, or the damage, is what is kept opens to, unless memory ran out
abbrev pub IsDatabaseOf : Result Database OpenFault → Kept → Type 0
IsDatabaseOf (Ok database) kept = opened kept ≡ Ok (state_of database)
IsDatabaseOf (Err (fault.Damaged damage)) kept = opened kept ≡ Err (damage_view damage)
IsDatabaseOf (Err fault.NoMemory) kept = Unit {0}

-- ---- definitions

-- each table of the catalogue is among the names
abbrev pub HasTables : Catalogue → List Name → Type 0
HasTables known names = (q : Name) → is_among q names ≡ false → table_sort_of q (finmap.get known q) ≡ None

-- all of the texts are taken, and the names of their tables are there; or the first that is refused is told, unless memory ran out
abbrev pub AreAdmitted : Result Admitted OpenFault → List (List ℕ) → Type 0
AreAdmitted (Ok admitted) texts = (admitted.catalog.texts ≡ texts) × (first_refused texts ≡ None) × HasTables (catalogue texts) admitted.names.items
AreAdmitted (Err (fault.Damaged damage)) texts = option_map definition (first_refused texts) ≡ Some (damage_view damage)
AreAdmitted (Err fault.NoMemory) texts = Unit {0}

-- Nothing is staged or held, the texts are taken and short, each lens has the indexes that it needs, and the tables are those of the
-- definitions, with no row.
pub record HasEmptyTables (admitted : Admitted) : Type 0 where
  pub quiet : IsQuiet admitted.tables
  pub free : admitted.tables.held ≡ None
  pub taken : first_refused admitted.catalog.texts ≡ None
  pub short : AreShort admitted.catalog.texts
  pub indexed : (name : Name) (L : Lens) → finmap.get (catalogue admitted.catalog.texts) name ≡ Some L → AreIndexed (asked L []) admitted.tables.present
  pub tables : (name : Name) → finmap.get admitted.tables.present.relations name
      ≡ option_map (λ s. record { columns = s.columns; rows = set.empty }) (table_sort_of name (finmap.get (catalogue admitted.catalog.texts) name))
  pub rows : row_count admitted.tables.present.relations ≡ 0

-- the definition at the place is refused, or memory ran out
abbrev pub IsRefusedAt : ℕ → CatalogFault → OpenFault → Type 0
IsRefusedAt place why (fault.Damaged damage) = (why ≢ NoMemory) × (damage_view damage ≡ definition place)
IsRefusedAt place why fault.NoMemory = Unit {0}

-- ---- tables

-- the first damage of the tables, by rising name
abbrev pub damage_of_tables : Catalogue → finmap.FinMap bytes_cmp Rows → Option opening.Damage
damage_of_tables known rows = damage_among known rows (set.items (all_names known rows))

-- the difference that fills an empty table with the kept rows
abbrev pub filling : KeptTable → TableDelta
filling kept = record { table = kept.table; delta = record { remove = set.empty; add = kept.rows } }

-- the table is defined, and its kept rows are of its sort
abbrev pub IsSound : Catalogue → KeptTable → Type 0
IsSound known kept = damage_at kept.table (table_sort_of kept.table (finmap.get known kept.table)) (Some kept.rows) ≡ None
