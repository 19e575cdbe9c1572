-- Changes of the tables of a state, by the differences that lead to the new ones.
use Rattle.std.proofs.Common.{◌≡◌, ◌∙◌, Bool, true, false, cond, List, [], ◌∷◌, Option, Some, is_some, ap, sym, refl}
use Rattle.plain_values.proofs.Common.{IsStrictlySortedBy, eq_by_cmp, bytes_cmp, keys_rise}
use Rattle.std.specs.FinMap as finmap
use Rattle.plain_values.specs.SortedSet as set
use Rattle.fd_laws.proofs.Common.{name_total, tied_name}
use Rattle.lens_laws.proofs.Common.{get_after, put_leaves, AllThere, all_there, still_there}
use Rattle.lens_specs.specs.Common.{TableDelta, changes, differences, Lens, Tables, put, sort_of, tables_of, Name, is_among, Relation, Rows, IsOf, AreDeltas, LeadTo, after, inverted, with_deltas, relation_in}
use Rattle.server_specs.specs.Common.{Catalogue, catalogue, State, accept, AreStored, Valid}
use Rattle.lens_laws.proofs.Alone.{difference_deltas}
use Rattle.server_laws.proofs.Leading.{Differ, differences_back, differences_lead}
use Rattle.server_laws.proofs.Stored.{IsHere, are_there, stored_absent, stored_alike, stored_put}

-- the differences lead from the tables of the state to others of its catalogue, and taken back they lead from those
pub record IsChangeTo (s : State) (ds : List TableDelta) (db : Tables) : Type 0 where
  pub stored : AreStored (catalogue s.texts) db
  pub deltas : AreDeltas ds
  pub leads : LeadTo ds s.tables db
  pub back : LeadTo (inverted ds) db s.tables

-- ---- which changes are such

-- the differences of some tables by rising names, where the others are the same
differ_among : (known : Catalogue) (ts : List Name) (old new : Tables) → AreStored known old → AreStored known new
    → ((t : Name) → is_among t ts ≡ true → is_some (finmap.get old t) ≡ true) → ((t : Name) → is_among t ts ≡ false → finmap.get new t ≡ finmap.get old t) → Differ ts old new
differ_among known ts old new before after there others = record { alike = λ t i. stored_alike known old new before after t (there t i); others = others }

change_among : (s : State) (ts : List Name) (db : Tables) → IsStrictlySortedBy bytes_cmp ts → AreStored (catalogue s.texts) db → Differ ts s.tables db → IsChangeTo s (differences ts s.tables db) db
change_among s ts db rise stored differ = record {
  stored = stored;
  deltas = difference_deltas s.tables db ts rise;
  leads = differences_lead ts s.tables db rise differ;
  back = differences_back ts s.tables db rise differ;
}

-- a put over tables of the catalogue leaves tables of it
put_stored : (s : State) (L : Lens) (N : Rows) → AreStored (catalogue s.texts) s.tables → IsHere s L → IsOf N (sort_of L) → AreStored (catalogue s.texts) (put L N s.tables)
put_stored s L N stored here n = stored_put (catalogue s.texts) s.tables L N stored here.known.bases (get_after L s.tables here.typed here.are N n).0

put_differs : (s : State) (L : Lens) (N : Rows) → AreStored (catalogue s.texts) s.tables → IsHere s L → IsOf N (sort_of L) → Differ (set.items (tables_of L)) s.tables (put L N s.tables)
put_differs s L N stored here n =
    differ_among (catalogue s.texts) (set.items (tables_of L)) s.tables (put L N s.tables) stored (put_stored s L N stored here n)
    (λ t i. are_there L s.tables here.are t (set.contains-items (tables_of L) t ∙ i))
    (λ t o. put_leaves L N s.tables t (set.contains-items (tables_of L) t ∙ o))

-- its changes lead to them
pub put_leads_to : (s : State) (L : Lens) (N : Rows) → AreStored (catalogue s.texts) s.tables → IsHere s L → IsOf N (sort_of L) → LeadTo (changes L N s.tables) s.tables (put L N s.tables)
put_leads_to s L N stored here n = differences_lead (set.items (tables_of L)) s.tables (put L N s.tables) (keys_rise bytes_cmp (tables_of L)) (put_differs s L N stored here n)

-- a put
pub put_change : (s : State) (L : Lens) (N : Rows) → Valid s → IsHere s L → IsOf N (sort_of L) → IsChangeTo s (changes L N s.tables) (put L N s.tables)
put_change s L N v here n =
    change_among s (set.items (tables_of L)) (put L N s.tables) (keys_rise bytes_cmp (tables_of L)) (put_stored s L N v.tables here n) (put_differs s L N v.tables here n)

-- any other tables of the catalogue
pub tables_change : (s : State) (db : Tables) → Valid s → AreStored (catalogue s.texts) db → IsChangeTo s (differences (finmap.keys s.tables) s.tables db) db
tables_change s db v stored =
    change_among s (finmap.keys s.tables) db (keys_rise bytes_cmp s.tables) stored
    (differ_among (catalogue s.texts) (finmap.keys s.tables) s.tables db v.tables stored
    (λ t i. finmap.contains_key-keys s.tables t ∙ i)
    (λ t o. stored_absent (catalogue s.texts) s.tables db v.tables stored t (finmap.contains_key-keys s.tables t ∙ o)))

-- ---- names

some_of : (b : Bool) (x : Relation) (o : Option Relation) → (b ≡ true → is_some o ≡ true) → is_some (cond b (Some x) o) ≡ is_some o
some_of true x o h = sym (h refl)
some_of false x o h = refl

-- differences of tables that are there make no table, and take none away
pub names_stay : (cs : List TableDelta) (db : Tables) → AllThere cs db → (q : Name) → is_some (finmap.get (with_deltas cs db) q) ≡ is_some (finmap.get db q)
names_stay [] db there q = refl
names_stay (c ∷ cs) db there q =
    let x = after (relation_in db c.table) c.delta in
    names_stay cs (finmap.insert db c.table x) (still_there cs db c.table x there.1) q ∙ ap is_some (finmap.get-insert name_total db c.table x q)
    ∙ some_of (eq_by_cmp bytes_cmp q c.table) x (finmap.get db q) (λ tie. ap (λ n. is_some (finmap.get db n)) (tied_name q c.table tie) ∙ there.0)

pub led_names : (cs : List TableDelta) (old new : Tables) → LeadTo cs old new → (q : Name) → is_some (finmap.get new q) ≡ is_some (finmap.get old q)
led_names cs old new leads q = ap (λ db. is_some (finmap.get db q)) (sym leads.1) ∙ names_stay cs old (all_there cs old leads.0) q

-- the tables after a change that is accepted are those that it leads to
pub with_tables : (s : State) (ds : List TableDelta) (db : Tables) → LeadTo ds s.tables db → (accept db ds s).1.tables ≡ db
with_tables s [] db leads = leads.1
with_tables s (d ∷ ds) db leads = refl
