-- What a keeper keeps of tables follows them.
use Rattle.std.proofs.Common.{◌≡◌, ℕ, Bool, true, false, cond, List, [], ◌∷◌, ◌++◌, Option, Some, None, is_some, refl, sym, ap, subst, ◌∙◌, option_map, unwrap_or}
use Rattle.plain_values.proofs.Common.{true≢false, eq_by_cmp, bytes_cmp, keys_rise, AllByRecursion}
use Rattle.std.specs.FinMap as finmap
use Rattle.plain_values.specs.SortedSet as set
use Rattle.lens_laws.proofs.Common.{diff_leads, diff_applies, put_leaves, AllThere, all_there}
use Rattle.fd_laws.proofs.Common.{name_total, name_exact}
use Rattle.lens_specs.specs.Common.{Name, Names, is_among, Rows, Relation, Columns, Tables, Lens, base, select, drop, rename, tables_of, table, put, rows_or_none, TableDelta, diff, new_view, Applies, differences, changes, rows, rows_at, changed, CanChange, join, define, relation_in, after, no_relation, with_deltas, AllApply, LeadTo}
use Rattle.server_specs.specs.Common.{State, rows_of_each, kept, accept}
use Rattle.server_laws.specs.KeptLaws.{KeptFollows}
use Rattle.lens_specs.specs.Keeping as keeping
use Rattle.server_laws.proofs.Leading.{are_there, each_of, get_differences}
use Rattle.lens_laws.proofs.Alone.{difference_deltas}
use Rattle.lens_laws.proofs.Moves.{Apart, are_apart, map_nothing, nothing, rising_apart}

-- the rows of each table
abbrev pub rows_of : Tables → finmap.FinMap bytes_cmp Rows
rows_of db = finmap.from_entries (rows_of_each (finmap.entries db))

find-rows : (q : Name) (es : List (Name × Relation)) → finmap.find bytes_cmp q (rows_of_each es) ≡ option_map (λ r. r.rows) (finmap.find bytes_cmp q es)
find-rows q [] = refl
find-rows q (e ∷ es) = elim (eq_by_cmp bytes_cmp q e.0) as (λ b. cond b (Some e.1.rows) (finmap.find bytes_cmp q (rows_of_each es)) ≡ option_map (λ r. r.rows) (cond b (Some e.1) (finmap.find bytes_cmp q es))) [
  | true ↦ refl
  | false ↦ find-rows q es
]

-- the kept rows of a name are those of its table
pub get-rows_of : (db : Tables) (q : Name) → finmap.get (rows_of db) q ≡ option_map (λ r. r.rows) (finmap.get db q)
get-rows_of db q = finmap.get-from_entries name_total (rows_of_each (finmap.entries db)) q ∙ find-rows q (finmap.entries db)
    ∙ ap (option_map (λ r. r.rows)) (sym (finmap.get-entries db q))

mapped : (o : Option Relation) → is_some o ≡ true → option_map (λ r. r.rows) o ≡ Some (rows_or_none o)
mapped None h = absurd (true≢false (sym h))
mapped (Some r) h = refl

pub is_some-rows : (o : Option Relation) → is_some (option_map (λ r. r.rows) o) ≡ is_some o
is_some-rows None = refl
is_some-rows (Some r) = refl

-- ---- differences

-- one table in the place of another
kept_one : (db : Tables) (t : Name) (M : Relation) → rows_of (finmap.insert db t M) ≡ finmap.insert (rows_of db) t M.rows
kept_one db t M = finmap.same_map name_total name_exact _ _ (λ q.
    get-rows_of (finmap.insert db t M) q ∙ ap (option_map (λ r. r.rows)) (finmap.get-insert name_total db t M q) ∙ either (eq_by_cmp bytes_cmp q t) (finmap.get db q)
    ∙ ap (λ o. cond (eq_by_cmp bytes_cmp q t) (Some M.rows) o) (sym (get-rows_of db q)) ∙ sym (finmap.get-insert name_total (rows_of db) t M.rows q))
  where
    either : (b : Bool) (o : Option Relation) → option_map (λ r. r.rows) (cond b (Some M) o) ≡ cond b (Some M.rows) (option_map (λ r. r.rows) o)
    either true o = refl
    either false o = refl

-- the kept rows of a table are those of its relation
kept_rows : (db : Tables) (t : Name) → keeping.rows_at (rows_of db) t ≡ (relation_in db t).rows
kept_rows db t = ap keeping.or_empty (get-rows_of db t) ∙ either (finmap.get db t)
  where
    either : (o : Option Relation) → keeping.or_empty (option_map (λ r. r.rows) o) ≡ (unwrap_or o no_relation).rows
    either None = refl
    either (Some r) = refl

kept_with : (cs : List TableDelta) (db : Tables) → rows_of (with_deltas cs db) ≡ keeping.with_deltas cs (rows_of db)
kept_with [] db = refl
kept_with (c ∷ cs) db =
    kept_with cs (finmap.insert db c.table (after (relation_in db c.table) c.delta))
    ∙ ap (keeping.with_deltas cs) (kept_one db c.table (after (relation_in db c.table) c.delta) ∙ ap (λ N. finmap.insert (rows_of db) c.table (new_view N c.delta)) (sym (kept_rows db c.table)))

kept_applies : (cs : List TableDelta) (db : Tables) → Apart cs → AllThere cs db → AllByRecursion (λ c. Applies c.delta (relation_in db c.table).rows) cs → keeping.AllApply cs (rows_of db)
kept_applies [] db apart there each = tt
kept_applies (c ∷ cs) db apart there each = (
  ap is_some (get-rows_of db c.table) ∙ is_some-rows (finmap.get db c.table) ∙ there.0,
  subst (Applies c.delta) (sym (kept_rows db c.table)) each.0,
  apart.0,
  kept_applies cs db apart.1 there.1 each.1,
)

each_applies : (cs : List TableDelta) (db : Tables) → AllApply cs db → AllByRecursion (λ c. Applies c.delta (relation_in db c.table).rows) cs
each_applies [] db all = tt
each_applies (c ∷ cs) db all = (all.1.0, each_applies cs db all.3)

-- the rows that are kept of the new tables are those of the old ones after the differences, which apply to them
abbrev pub AreKept : List TableDelta → Tables → Tables → Type 0
AreKept cs old new = (rows_of new ≡ keeping.with_deltas cs (rows_of old)) × keeping.AllApply cs (rows_of old)

pub led_kept : (cs : List TableDelta) (old new : Tables) → LeadTo cs old new → AreKept cs old new
led_kept cs old new leads = (ap rows_of (sym leads.1) ∙ kept_with cs old, kept_applies cs old (are_apart cs old leads.0) (all_there cs old leads.0) (each_applies cs old leads.0))

changed_rows : (o : Option Relation) (N : Rows) → is_some o ≡ true → option_map (λ r. r.rows) (option_map (λ r. after r (diff (rows_or_none o) N)) o) ≡ Some N
changed_rows None N h = absurd (true≢false (sym h))
changed_rows (Some r) N h = ap Some (diff_leads r.rows N)

-- tables of which these are there, before and after, and the others are as they were
pub differences_kept : (ts : Names) (old new : Tables) → ((t : Name) → set.contains ts t ≡ true → is_some (finmap.get old t) ≡ true)
    → ((t : Name) → set.contains ts t ≡ true → is_some (finmap.get new t) ≡ true) → ((t : Name) → set.contains ts t ≡ false → finmap.get new t ≡ finmap.get old t)
    → AreKept (differences (set.items ts) old new) old new
differences_kept ts old new before later others =
    let cs = differences (set.items ts) old new in
    let rise = keys_rise bytes_cmp ts in
    let there : (t : Name) → is_among t (set.items ts) ≡ true → is_some (finmap.get old t) ≡ true = λ t i. before t (set.contains-items ts t ∙ i) in (
      finmap.same_map name_total name_exact _ _ (λ q. get-rows_of new q
          ∙ elim (is_among q (set.items ts)) as (λ b. is_among q (set.items ts) ≡ b
          → option_map (λ r. r.rows) (finmap.get new q) ≡ option_map (λ r. r.rows) (option_map (λ r. after r (cond b (diff (table old q) (table new q)) nothing)) (finmap.get old q))) [
            | true ↦ λ i. mapped (finmap.get new q) (later q (set.contains-items ts q ∙ i)) ∙ sym (changed_rows (finmap.get old q) (table new q) (there q i))
            | false ↦ λ o. ap (option_map (λ r. r.rows)) (others q (set.contains-items ts q ∙ o) ∙ sym (map_nothing (finmap.get old q)))
          ] refl
          ∙ ap (option_map (λ r. r.rows)) (sym (get_differences (set.items ts) old new rise there q)) ∙ sym (get-rows_of (with_deltas cs old) q)) ∙ kept_with cs old,
      kept_applies cs old (rising_apart cs (difference_deltas old new (set.items ts) rise)) (are_there cs old (each_of (λ c. is_some (finmap.get old c.table) ≡ true) old new (set.items ts) there))
          (each_of (λ c. Applies c.delta (relation_in old c.table).rows) old new (set.items ts) (λ t i. subst (Applies (diff (table old t) (table new t))) (table_is (finmap.get old t)) (diff_applies (table old t) (table new t)))),
    )
  where
    table_is : (o : Option Relation) → rows_or_none o ≡ (unwrap_or o no_relation).rows
    table_is None = refl
    table_is (Some r) = refl

-- ---- a put

-- each table under the lens is there
abbrev pub AreThere : Lens → Tables → Type 0
AreThere L db = (t : Name) → set.contains (tables_of L) t ≡ true → is_some (finmap.get db t) ≡ true

-- a table that is there stays there
pub put_keeps : (L : Lens) (N : Rows) (db : Tables) (t : Name) → is_some (finmap.get db t) ≡ true → is_some (finmap.get (put L N db) t) ≡ true
unfolding put
put_keeps (base u s) N db t h = ap is_some (finmap.get-insert name_total db u (record { columns = s.columns; rows = N }) t) ∙ either (eq_by_cmp bytes_cmp t u) (finmap.get db t) h
  where
    either : (b : Bool) (o : Option Relation) → is_some o ≡ true → is_some (cond b (Some (record { columns = s.columns; rows = N })) o) ≡ true
    either true o h = refl
    either false o h = h
put_keeps (select P C) N db t h = put_keeps C _ db t h
put_keeps (drop A X a C) N db t h = put_keeps C _ db t h
put_keeps (rename A B C) N db t h = put_keeps C _ db t h
put_keeps (join kind A B) N db t h = put_keeps B _ _ t (put_keeps A _ db t h)

-- What is kept after a put is what was kept, after the changes of the put.
put_kept : (L : Lens) (N : Rows) (db : Tables) → AreThere L db → AreKept (changes L N db) db (put L N db)
put_kept L N db h = differences_kept (tables_of L) db (put L N db) h (λ t i. put_keeps L N db t (h t i)) (λ t o. put_leaves L N db t o)

-- ---- a definition

-- A table that is not there is not kept.
pub not_kept : (name : Name) (db : Tables) → is_some (finmap.get db name) ≡ false → is_some (finmap.get (rows_of db) name) ≡ false
not_kept name db h = ap is_some (get-rows_of db name) ∙ is_some-rows (finmap.get db name) ∙ h

-- ---- states

-- What is kept of a state, after a change of its tables.
pub state_is_kept : (s t : State) (ds : List TableDelta) → AreKept ds s.tables t.tables → t.texts ≡ s.texts → KeptFollows (rows ds) s t
state_is_kept s t ds k texts = ((λ i. record { texts = texts i; rows = k.0 i }), k.1)

-- What is kept of a state, after the put is accepted; `ds` are its changes.
pub accept_is_kept : (L : Lens) (N : Rows) (s : State) → AreThere L s.tables → (ds : List TableDelta) → changes L N s.tables ≡ ds → KeptFollows (rows ds) s (accept (put L N s.tables) ds s).1
accept_is_kept L N s h [] is = (refl, tt)
accept_is_kept L N s h (d ∷ ds) is = state_is_kept s (accept (put L N s.tables) (d ∷ ds) s).1 (d ∷ ds) (subst (λ l. AreKept l s.tables (put L N s.tables)) is (put_kept L N s.tables h)) refl

-- What is kept of a state, after a definition that makes no table.
pub view_is_kept : (text : List ℕ) (s t : State) → t.texts ≡ s.texts ++ text ∷ [] → t.tables ≡ s.tables
    → (kept t ≡ changed (define text None) (kept s)) × CanChange (define text None) (kept s)
view_is_kept text s t texts is = (λ i. record { texts = texts i; rows = rows_of (is i) }, tt)

-- What is kept of a state, after a definition that makes a table whose name is new.
pub table_is_kept : (text : List ℕ) (name : Name) (columns : Columns) (s t : State) → is_some (finmap.get s.tables name) ≡ false
    → t.texts ≡ s.texts ++ text ∷ [] → t.tables ≡ finmap.insert s.tables name (record { columns = columns; rows = set.empty })
    → (kept t ≡ changed (define text (Some name)) (kept s)) × CanChange (define text (Some name)) (kept s)
table_is_kept text name columns s t new texts is = (
  (let e : rows_of t.tables ≡ finmap.insert (rows_of s.tables) name set.empty = ap rows_of is ∙ kept_one s.tables name (record { columns = columns; rows = set.empty }) in λ i. record { texts = texts i; rows = e i }),
  not_kept name s.tables new,
)
