-- The edits of a batch, made one after another in tables that are held.
use Rattle.std.proofs.Common.{◌≡◌, ◌∙◌, ◌+◌, ◌≤◌, ℕ, suc, true, List, [], ◌∷◌, ◌++◌, map, length, Option, None, Some, is_some, Result, Ok, Err, ap, subst, sym, refl, arith, Vec, unwrap_or}
use Rattle.plain_values.proofs.Common.{length-append, map-append, Global}
use Rattle.signed_delta.specs.Tables.{table_delta}
use Rattle.signed_delta.specs.declared.delta.TableDelta.{TableDelta as DeltaOf}
use Rattle.view_changes.specs.Puts.{IsPut}
use Rattle.database.specs.Opening.{CanOpen}
use Rattle.std.specs.FinMap as finmap
use Rattle.lens_specs.specs.Common.{TableDelta, changes, Lens, Tables, put, sort_of, Rows, IsOf, LeadTo}
use Rattle.lens_laws.proofs.Common.{get_after}
use Rattle.base_index.specs.Held as held_tables
use Rattle.base_index.specs.Held.{Held, IsQuiet}
use Rattle.base_index.specs.Need.{has_cols}
use Rattle.server_specs.specs.Common.{catalogue, at_tables, edit_tables, edits_from, put_in, then_edits, asked_view, edited, EditRefusal, BatchEdit, State, AreStored, Valid}
use Rattle.edit_batches.specs.Chains.{Chain}
use Rattle.edit_batches.specs.Histories.{deltas_of}
use Rattle.edit_batches.specs.declared.entries.Entry.{Entry}
use Rattle.request_text.specs.Answers.{edit_refusal_view}
use Rattle.server_specs.specs.EditRefusal.{unknown_name}
use Rattle.server_laws.proofs.Led.{put_leads_to}
use Rattle.server_laws.proofs.Stored.{lens_over, stored_put}
use Rattle.lens_server.specs.Batches.{AreMade, CanEdit, Gives, IsHolding, IsMade, edit_on, fault_at}
use Rattle.lens_server.specs.Counting.{batch_looks, edit_looks, of_lens, then_looks}
use Rattle.database.specs.Keyed.{IsKeyed, IsSame}
use Rattle.database.specs.States.{state_of}
use Rattle.view_changes.specs.declared.refusal.Refusal.{Refusal}
use Rattle.view_changes.specs.declared.refusal.Refusal.TheVariants as refusal
use Rattle.lens_server.specs.declared.batches.BatchFault.{BatchFault}
use Rattle.database.specs.declared.database.Database.{Database}

-- ---- one edit

-- an edit of a lens that is known
known_is : (database : Database) (e : BatchEdit) (on : Option ℕ) (L : Lens) (r : Result Rows EditRefusal) → finmap.get (catalogue database.catalog.texts) e.view ≡ Some L
    → asked_view (state_of database) L (edited e.remove e.add) on ≡ r → edit_on database on e ≡ put_in r L database.tables.present.relations
known_is database e on L r known asked =
    let s = state_of database in ap (λ o. edit_tables e on o s s.tables) known ∙ ap (λ q. put_in q L s.tables) asked

-- the changes of a new view lead to the tables after the edit, which are the catalogue's
pub edit_given : (database : Database) (e : BatchEdit) (on : Option ℕ) (L : Lens) (N : Rows) (ds : List TableDelta) → CanEdit database → finmap.get (catalogue database.catalog.texts) e.view ≡ Some L
    → asked_view (state_of database) L (edited e.remove e.add) on ≡ Ok N → IsOf N (sort_of L) → ds ≡ changes L N database.tables.present.relations
    → (db : Tables) × (edit_on database on e ≡ Ok db) × LeadTo ds database.tables.present.relations db × AreStored (catalogue database.catalog.texts) db
edit_given database e on L N ds can known asked typed is =
    let s = state_of database in
    let here = lens_over s can.taken can.stored e.view L known in (
      put L N s.tables,
      known_is database e on L (Ok N) known asked,
      subst (λ l. LeadTo l s.tables (put L N s.tables)) (sym is) (put_leads_to s L N can.stored here typed),
      stored_put (catalogue s.texts) s.tables L N can.stored here.known.bases (get_after L s.tables here.typed here.are N typed).0,
    )

-- what is put in the view of its lens is what the edit gives
pub edit_gives : (database : Database) (e : BatchEdit) (on : Option ℕ) (L : Lens) (r : Result (Vec DeltaOf Global) Refusal) → CanEdit database → Some L ≡ finmap.get (catalogue database.catalog.texts) e.view
    → IsPut L database.tables.present.relations r (asked_view (state_of database) L (edited e.remove e.add) on) → Gives database on e r
edit_gives database e on L (Ok deltas) can known h = edit_given database e on L h.0 (map table_delta deltas.items) can (sym known) h.1 h.2 h.3
edit_gives database e on L (Err (refusal.Rejected told)) can known h = known_is database e on L (Err (edit_refusal_view told)) (sym known) h
edit_gives database e on L (Err refusal.NoMemory) can known h = tt

-- a database whose tables are held can open its views
pub edit_opens : (database : Database) → CanEdit database → CanOpen database
edit_opens database can = record { taken = can.taken; stored = can.stored; short = can.short; indexed = can.indexed }

-- a name without a lens
pub edit_unknown : (database : Database) (e : BatchEdit) (on : Option ℕ) → finmap.get (catalogue database.catalog.texts) e.view ≡ None → edit_on database on e ≡ Err (unknown_name e.view)
edit_unknown database e on none = let s = state_of database in ap (λ o. edit_tables e on o s s.tables) none

-- ---- tables that are held

-- a valid database whose tables are held can make edits
pub held_can : (database : Database) (tables : Held) → Valid (state_of database) → IsKeyed database → tables ≡ record database.tables { held = Some database.tables.present } → CanEdit (record database { tables = tables })
held_can database tables v k is =
    subst (λ t. CanEdit (record database { tables = t })) (sym is)
    (record { taken = v.definitions; stored = v.tables; short = k.short; indexed = k.indexed; quiet = k.quiet; held = refl })

-- other relations of the catalogue, with the same indexes and held alike
pub still_holding : (database : Database) (tables : Held) → CanEdit database → AreStored (catalogue database.catalog.texts) tables.present.relations → tables.held ≡ database.tables.held
    → tables.present.indexes ≡ database.tables.present.indexes → IsQuiet tables → IsHolding database (record database { tables = tables })
still_holding database tables can stored held indexes quiet = record {
  texts = refl;
  version = refl;
  last = refl;
  past = refl;
  held = held;
  indexes = indexes;
  can = record {
    taken = can.taken;
    stored = stored;
    short = can.short;
    indexed = λ name L e t C i. subst (λ ix. has_cols (unwrap_or (finmap.get ix t) []) C ≡ true) (sym indexes) (can.indexed name L e t C i);
    quiet = quiet;
    held = subst (λ h. is_some h ≡ true) (sym held) can.held;
  };
}

-- once the tables are taken back, all is as it was before they were held
pub taken_back : (old mid : Database) (held back : Held) → IsKeyed old → held ≡ record old.tables { held = Some old.tables.present } → IsHolding (record old { tables = held }) mid
    → ((st : held_tables.State) → mid.tables.held ≡ Some st → back ≡ record { present = st; next = st; held = None }) → IsSame old (record mid { tables = back })
taken_back old mid held back k is h taken = record {
  texts = h.texts;
  tables = taken old.tables.present (h.held ∙ ap (λ t. t.held) is) ∙ (λ i. record { present = old.tables.present; next = sym k.quiet i; held = sym k.free i });
  version = h.version;
  last = h.last;
  past = h.past;
}

-- before the first edit there is one database
pub holding_itself : (database : Database) → CanEdit database → IsHolding database database
holding_itself database can = record { texts = refl; version = refl; last = refl; past = refl; held = refl; indexes = refl; can = can }

-- one edit after others
pub holding_on : (old mid new : Database) → IsHolding old mid → IsHolding mid new → IsHolding old new
holding_on old mid new h k = record {
  texts = k.texts ∙ h.texts;
  version = k.version ∙ h.version;
  last = k.last ∙ h.last;
  past = k.past ∙ h.past;
  held = k.held ∙ h.held;
  indexes = k.indexes ∙ h.indexes;
  can = k.can;
}

-- an edit goes by the tables alone on which it is made
edit_at : (s : State) (e : BatchEdit) (on : Option ℕ) (o : Option Lens) (db : Tables) → edit_tables e on o s db ≡ edit_tables e on o (at_tables s db) db
edit_at s e on None db = refl
edit_at s e on (Some L) db = refl

-- an edit on the tables now is one of the batch
pub edit_here : (old now : Database) (e : BatchEdit) (on : Option ℕ) → IsHolding old now
    → edit_tables e on (finmap.get (catalogue old.catalog.texts) e.view) (state_of old) now.tables.present.relations ≡ edit_on now on e
edit_here old now e on h =
    let db = now.tables.present.relations in
    edit_at (state_of old) e on (finmap.get (catalogue old.catalog.texts) e.view) db
    ∙ (λ i. edit_tables e on (finmap.get (catalogue (sym h.texts i)) e.view)
    (record { texts = sym h.texts i; tables = db; version = sym h.version i; last = sym h.last i; past = sym h.past i }) db)

-- and looks as it does by itself
pub looks_here : (old now : Database) (e : BatchEdit) (db : Tables) → IsHolding old now
    → of_lens (edit_looks db e.remove e.add) (finmap.get (catalogue now.catalog.texts) e.view) ≡ of_lens (edit_looks db e.remove e.add) (finmap.get (catalogue old.catalog.texts) e.view)
looks_here old now e db h = ap (λ ts. of_lens (edit_looks db e.remove e.add) (finmap.get (catalogue ts) e.view)) h.texts

-- ---- one after another

-- one entry more
pub chain_more : (xs : List (List TableDelta)) (cs : List TableDelta) (a b c : Tables) → Chain xs a b → LeadTo cs b c → Chain (xs ++ cs ∷ []) a c
chain_more [] cs a b c chain leads = (c, subst (λ db. LeadTo cs db c) (sym chain) leads, refl)
chain_more (x ∷ xs) cs a b c chain leads = (chain.0, chain.1, chain_more xs cs chain.0 b c chain.2 leads)

pub entries_more : (entries more : List Entry) (entry : Entry) (a b c : Tables) → more ≡ entries ++ entry ∷ [] → Chain (map deltas_of entries) a b → LeadTo (deltas_of entry) b c → Chain (map deltas_of more) a c
entries_more entries more entry a b c is chain leads =
    subst (λ l. Chain l a c) (sym (ap (map deltas_of) is ∙ map-append deltas_of entries (entry ∷ []))) (chain_more (map deltas_of entries) (deltas_of entry) a b c chain leads)

pub one_longer : (entries more : List Entry) (entry : Entry) → more ≡ entries ++ entry ∷ [] → length more ≡ suc (length entries)
one_longer entries more entry is = let n = ap length is in let m = length-append entries (entry ∷ []) in omega (arith, n, m)

-- an edit that was made is behind, and the others are to come
pub edits_made : (old now : Database) (k n : ℕ) (on : Option ℕ) (e : BatchEdit) (edits : List BatchEdit) (db : Tables) → IsHolding old now → edit_on now on e ≡ Ok db → n ≡ suc k
    → edits_from k on (state_of old) (e ∷ edits) now.tables.present.relations ≡ edits_from n on (state_of old) edits db
edits_made old now k n on e edits db h made more =
    ap (then_edits k (edits_from (suc k) on (state_of old) edits)) (edit_here old now e on h ∙ made) ∙ ap (λ m. edits_from m on (state_of old) edits db) (sym more)

-- an edit that is refused ends the batch
edits_refused : (old now : Database) (k : ℕ) (on : Option ℕ) (e : BatchEdit) (edits : List BatchEdit) (why : EditRefusal) → IsHolding old now → edit_on now on e ≡ Err why
    → edits_from k on (state_of old) (e ∷ edits) now.tables.present.relations ≡ Err (k, why)
edits_refused old now k on e edits why h refused = ap (then_edits k (edits_from (suc k) on (state_of old) edits)) (edit_here old now e on h ∙ refused)

-- and the fault tells it, with its place, or that memory ran out
pub batch_stopped : (old now new : Database) (k place : ℕ) (on : Option ℕ) (e : BatchEdit) (rest edits : List BatchEdit) (why : Refusal) (fault : BatchFault) → IsHolding old now
    → edits_from 0 on (state_of old) edits old.tables.present.relations ≡ edits_from k on (state_of old) (e ∷ rest) now.tables.present.relations → place ≡ k → IsMade now new on e (Err why) → fault ≡ fault_at place why
    → AreMade old new on edits (Err fault)
batch_stopped old now new k place on e rest edits (refusal.Rejected why) fault h left here told is =
    subst (λ f. AreMade old new on edits (Err f)) (sym is)
    (left ∙ edits_refused old now k on e rest (edit_refusal_view why) h told ∙ ap (λ n. Err (n, edit_refusal_view why)) (sym here))
batch_stopped old now new k place on e rest edits refusal.NoMemory fault h left here told is = subst (λ f. AreMade old new on edits (Err f)) (sym is) tt

sum_within : (mid new here now behind rest most : ℕ) → now ≡ here → behind ≡ rest → mid + (here + behind) ≤ most → new ≤ mid + now → new + rest ≤ most
sum_within mid new here now behind rest most e f left looked = omega (arith, e, f, left, looked)

part_within : (mid new here now behind most : ℕ) → now ≡ here → mid + (here + behind) ≤ most → new ≤ mid + now → new ≤ most
part_within mid new here now behind most e left looked = omega (arith, e, left, looked)

-- what the edits look at: this one, and then the others on the tables that it gave
pub looks_made : (old now : Database) (on : Option ℕ) (e : BatchEdit) (edits : List BatchEdit) (db : Tables) (mid new most : ℕ) → IsHolding old now → edit_on now on e ≡ Ok db
    → mid + batch_looks on (state_of old) (e ∷ edits) now.tables.present.relations ≤ most
    → new ≤ mid + of_lens (edit_looks now.tables.present.relations e.remove e.add) (finmap.get (catalogue now.catalog.texts) e.view)
    → new + batch_looks on (state_of old) edits db ≤ most
looks_made old now on e edits db mid new most h made left looked =
    let others = batch_looks on (state_of old) edits in
    sum_within mid new _ _ _ (others db) most (looks_here old now e now.tables.present.relations h) (ap (then_looks others) (edit_here old now e on h ∙ made)) left looked

-- an edit looks at no more than all that are left
pub looks_within : (old now : Database) (on : Option ℕ) (e : BatchEdit) (edits : List BatchEdit) (mid new most : ℕ) → IsHolding old now
    → mid + batch_looks on (state_of old) (e ∷ edits) now.tables.present.relations ≤ most
    → new ≤ mid + of_lens (edit_looks now.tables.present.relations e.remove e.add) (finmap.get (catalogue now.catalog.texts) e.view) → new ≤ most
looks_within old now on e edits mid new most h left looked =
    part_within mid new _ _ (then_looks (batch_looks on (state_of old) edits) (edit_tables e on (finmap.get (catalogue old.catalog.texts) e.view) (state_of old) now.tables.present.relations)) most
    (looks_here old now e now.tables.present.relations h) left looked
