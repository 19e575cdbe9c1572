-- Tables with no row that are filled with the kept rows.
use Rattle.std.proofs.Common.{◌≡◌, ◌∙◌, ◌||◌, ℕ, Bool, List, [], ◌∷◌, map, Option, Some, None, is_some, true, false, cond, ap, sym, subst, refl, ◌&&◌, not, option_map, unwrap_or}
use Rattle.plain_values.proofs.Common.{true≢false, AllByRecursion, list_any, IsStrictlySortedBy, eq_by_cmp, is_eq, Less, bytes_cmp, row_cmp}
use Rattle.std.specs.FinMap as finmap
use Rattle.plain_values.specs.SortedSet as set
use Rattle.fd_laws.proofs.Common.{name_exact, name_total, tied_name, row_exact, row_total}
use Rattle.lens_specs.specs.Common.{AppliesTo, Delta, new_view, Lens, Tables, sort_of, Name, Relation, Rows, Sort}
use Rattle.base_index.specs.Held.{AllApply, Held, IsQuiet, State, after, no_relation, relation_in, with_deltas}
use Rattle.base_index.specs.Need.{same_name}
use Rattle.base_index.proofs.Fields.{same_is}
use Rattle.base_index.proofs.Known.{get_changed, get_other}
use Rattle.server_specs.specs.Common.{Catalogue, catalogue, is_table_of, first_refused, IsStored, IsStoredAs}
use Rattle.lens_laws.proofs.Common.{asked}
use Rattle.lens_probe.specs.Viewed.{AreIndexed}
use Rattle.server_laws.specs.StateLaws.{AreShort}
use Rattle.opening_specs.specs.Opening as opening
use Rattle.opening_specs.specs.Opening.{as_table, columns_of, damage_at, definition, first_damage, mapped, sort_where, table_sort_of}
use Rattle.opening_laws.proofs.Opened.{get-mapped, none_or, state_is_valid}
use Rattle.table_keeper.specs.Changes.{names_of, rows_of}
use Rattle.table_keeper.specs.Places.{Rise, rows_in}
use Rattle.table_keeper.specs.declared.keeper.KeptTable.{KeptTable}
use Rattle.database.specs.Keyed.{IsKeyed}
use Rattle.database_opening.specs.Openings.{HasEmptyTables, IsSound, damage_of_tables, filling}
use Rattle.database.specs.States.{state_of}
use Rattle.database_opening.specs.declared.definitions.Admitted.{Admitted}
use Rattle.database.specs.declared.database.Database.{Database}
use Rattle.database_opening.proofs.Admitted.{AreEmpty, empty_of}
use Rattle.database_opening.proofs.Stored.{all_sound, sound_fits}

-- these rows are added, and none is removed
abbrev added : Rows → Delta
added M = record { remove = set.empty; add = M }

-- ---- the fillings apply

-- a sound table has a sort
sorted_here : (t : KeptTable) (o : Option Sort) → damage_at t.table o (Some t.rows) ≡ None → (s : Sort) × (o ≡ Some s)
sorted_here t None sound = cc
sorted_here t (Some s) sound = (s, refl)

-- no later table has the name
none_later : (q : Name) (ts : List KeptTable) → AllByRecursion (λ n. bytes_cmp q n ≡ Less) (names_of ts) → list_any (λ c. same_name c.table q) (map filling ts) ≡ false
none_later q [] rise = refl
none_later q (t ∷ ts) rise =
    ap (λ b. b || list_any (λ c. same_name c.table q) (map filling ts)) (same_is t.table q ∙ ap is_eq rise.0) ∙ none_later q ts rise.1

-- each filling applies to its table, which has no row yet
fills : (known : Catalogue) (db : Tables) (ts : List KeptTable) → AreEmpty known db → Rise ts → AllByRecursion (IsSound known) ts → AllApply (map filling ts) db
unfolding IsStrictlySortedBy
fills known db [] empty rise sound = tt
fills known db (t ∷ ts) empty rise sound =
    let here = sorted_here t (table_sort_of t.table (finmap.get known t.table)) sound.0 in
    let there : finmap.get db t.table ≡ Some (record { columns = here.0.columns; rows = set.empty }) = empty t.table ∙ ap empty_of here.1 in
    let applies : AppliesTo (added t.rows) (record { columns = here.0.columns; rows = set.empty }) = (
      record { removes = λ r i. absurd (true≢false (sym i ∙ set.contains-empty row_cmp r)); adds = λ r i. set.contains-empty row_cmp r },
      sound_fits known t here.0 sound.0 (sym here.1),
    ) in
    (ap is_some there, subst (AppliesTo (added t.rows)) (sym (ap (λ o. unwrap_or o no_relation) there)) applies, none_later t.table ts rise.0, fills known db ts empty rise.1 sound.1)

-- where there is no damage, the fillings apply to the tables of the definitions
pub fillings_apply : (admitted : Admitted) (ts : List KeptTable) → HasEmptyTables admitted → Rise ts → damage_of_tables (catalogue admitted.catalog.texts) (rows_in ts) ≡ None
    → AllApply (map filling ts) admitted.tables.present.relations
fillings_apply admitted ts h rise none =
    let known = catalogue admitted.catalog.texts in
    fills known admitted.tables.present.relations ts h.tables rise (all_sound known ts rise none)

-- ---- what they make

-- rows that are added to none
only_added : (M : Rows) → new_view set.empty (added M) ≡ M
unfolding new_view
only_added M =
    let none : Rows = set.empty in
    set.same_set row_total row_exact (set.union (set.difference none none) M) M (λ r.
    set.contains-union row_total (set.difference none none) M r
    ∙ ap (λ b. b || set.contains M r) (set.contains-difference row_total none none r ∙ ap (λ b. b && not (set.contains none r)) (set.contains-empty row_cmp r)))

-- the rows of a name in the list
abbrev find : Name → List KeptTable → Option Rows
find q ts = finmap.find bytes_cmp q (map rows_of ts)

-- a table that is kept has the kept rows more
filled_at : (ts : List KeptTable) (db old : Tables) (q : Name) (M : Rows) → AllApply (map filling ts) old → find q ts ≡ Some M
    → finmap.get (with_deltas (map filling ts) db) q ≡ Some (after (relation_in db q) (added M))
filled_at [] db old q M all found = cc
filled_at (t ∷ ts) db old q M all found =
    let new = after (relation_in db t.table) (added t.rows) in
    elim (eq_by_cmp bytes_cmp q t.table) as (λ b. eq_by_cmp bytes_cmp q t.table ≡ b → cond b (Some t.rows) (find q ts) ≡ Some M
    → finmap.get (with_deltas (filling t ∷ map filling ts) db) q ≡ Some (after (relation_in db q) (added M))) [
      | true ↦ λ is got.
          let same : q ≡ t.table = tied_name q t.table is in
          let rows : t.rows ≡ M = cc in
          ap (finmap.get (with_deltas (filling t ∷ map filling ts) db)) same ∙ get_changed (filling t) (map filling ts) db all.2
          ∙ (λ i. Some (after (relation_in db (sym same i)) (added (rows i))))
      | false ↦ λ other got.
          filled_at ts (finmap.insert db t.table new) old q M all.3 got
          ∙ ap (λ o. Some (after (unwrap_or o no_relation) (added M)))
          (finmap.get-insert name_total db t.table new q ∙ ap (λ b. cond b (Some new) (finmap.get db q)) other)
    ] refl found

-- no filling is of a table that is not kept
unfilled : (ts : List KeptTable) (q : Name) → find q ts ≡ None → list_any (λ c. same_name c.table q) (map filling ts) ≡ false
unfilled [] q e = refl
unfilled (t ∷ ts) q e = elim (eq_by_cmp bytes_cmp q t.table) as (λ b. eq_by_cmp bytes_cmp q t.table ≡ b → cond b (Some t.rows) (find q ts) ≡ None
    → list_any (λ c. same_name c.table q) (filling t ∷ map filling ts) ≡ false) [
      | true ↦ λ is none. cc
      | false ↦ λ other none. ap (λ b. b || list_any (λ c. same_name c.table q) (map filling ts)) (same_is t.table q ∙ other) ∙ unfilled ts q none
    ] refl e

-- a table with no row that is filled has the columns of its sort and the kept rows
filled_one : (o : Option Sort) (M : Rows) → after (unwrap_or (empty_of o) no_relation) (added M) ≡ record { columns = columns_of o; rows = M }
filled_one None M = λ i. record { columns = finmap.empty; rows = only_added M i }
filled_one (Some s) M = λ i. record { columns = s.columns; rows = only_added M i }

-- a name without a relation has no sort of a table
no_sort_as : (b : Bool) (L : Lens) (s : Sort) → IsStoredAs b L None → sort_where b s ≡ None
no_sort_as true L s h = absurd h
no_sort_as false L s h = refl

no_sort : (q : Name) (o : Option Lens) (r : Option Relation) → IsStored q o r → r ≡ None → table_sort_of q o ≡ None
no_sort q None r h e = refl
no_sort q (Some L) r h e = no_sort_as (is_table_of q L) L (sort_of L) (subst (IsStored q (Some L)) e h)

-- the filled tables are those of what is kept
filled_tables : (texts : List (List ℕ)) (ts : List KeptTable) (db : Tables) → first_damage (record { texts = texts; rows = rows_in ts }) ≡ None → AreEmpty (catalogue texts) db
    → AllApply (map filling ts) db → with_deltas (map filling ts) db ≡ mapped (as_table (catalogue texts)) (rows_in ts)
filled_tables texts ts db whole empty all = finmap.same_map name_total name_exact (with_deltas (map filling ts) db) (mapped (as_table (catalogue texts)) (rows_in ts)) (λ q. alike q (find q ts) refl)
  where
    made : (q : Name) (o : Option Rows) → find q ts ≡ o → finmap.get (mapped (as_table (catalogue texts)) (rows_in ts)) q ≡ option_map (λ M. as_table (catalogue texts) (q, M)) o
    made q o is = get-mapped (as_table (catalogue texts)) (rows_in ts) q ∙ ap (option_map (λ M. as_table (catalogue texts) (q, M))) (finmap.get-from_entries name_total (map rows_of ts) q ∙ is)

    alike : (q : Name) (o : Option Rows) → find q ts ≡ o → finmap.get (with_deltas (map filling ts) db) q ≡ finmap.get (mapped (as_table (catalogue texts)) (rows_in ts)) q
    alike q None is =
        let none = made q None is in
        let sort = no_sort q (finmap.get (catalogue texts) q) _ ((state_is_valid (record { texts = texts; rows = rows_in ts }) whole).tables q) none in
        get_other (map filling ts) db q (unfilled ts q is) ∙ empty q ∙ ap empty_of sort ∙ sym none
    alike q (Some M) is =
        filled_at ts db db q M all is ∙ ap (λ o. Some (after (unwrap_or o no_relation) (added M))) (empty q)
        ∙ ap Some (filled_one (table_sort_of q (finmap.get (catalogue texts) q)) M) ∙ sym (made q (Some M) is)

-- ---- the database

-- the tables with other relations, and nothing staged or held
abbrev pub settled_with : Tables → State → Held
settled_with db st = record { present = record st { relations = db }; next = record st { relations = db }; held = None }

-- a database of filled tables has the state of what is kept
pub filled_state : (admitted : Admitted) (ts : List KeptTable) (database : Database) → HasEmptyTables admitted → Rise ts → damage_of_tables (catalogue admitted.catalog.texts) (rows_in ts) ≡ None
    → database.catalog ≡ admitted.catalog → database.tables ≡ settled_with (with_deltas (map filling ts) admitted.tables.present.relations) admitted.tables.present
    → database.version ≡ 0 → database.last ≡ mapped (λ _. 0) (rows_in ts) → database.past ≡ []
    → state_of database ≡ opening.state_of (record { texts = admitted.catalog.texts; rows = rows_in ts })
filled_state admitted ts database h rise none catalog tables version last past =
    let texts = admitted.catalog.texts in
    let whole : first_damage (record { texts = texts; rows = rows_in ts }) ≡ None =
    none_or (option_map definition (first_refused texts)) (damage_of_tables (catalogue texts) (rows_in ts)) (ap (option_map definition) h.taken) none in
    let filled = filled_tables texts ts admitted.tables.present.relations whole h.tables (fillings_apply admitted ts h rise none) in
    let db = ap (λ t. t.present.relations) tables ∙ filled in
    (λ i. record { texts = (catalog i).texts; tables = db i; version = version i; last = last i; past = past i })

-- and its lenses ask their tables by key
pub filled_keyed : (admitted : Admitted) (db : Tables) (database : Database) → HasEmptyTables admitted → database.catalog ≡ admitted.catalog → database.tables ≡ settled_with db admitted.tables.present → IsKeyed database
filled_keyed admitted db database h catalog tables = record {
  quiet = subst IsQuiet (sym tables) refl;
  free = ap (λ t. t.held) tables;
  short = subst (λ c. AreShort c.texts) (sym catalog) h.short;
  indexed = λ name L e.
      subst (λ t. AreIndexed (asked L []) t.present) (sym tables)
      (λ t C i. h.indexed name L (subst (λ c. finmap.get (catalogue c.texts) name ≡ Some L) catalog e) t C i);
}
