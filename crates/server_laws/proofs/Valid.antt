-- Every state that the server reaches is valid.
use Rattle.std.proofs.Common.{◌≡◌, ◌≤◌, ◌+◌, ◌-◌, ℕ, length, reverse, take, Bool, true, false, cond, List, [], ◌∷◌, ◌++◌, Option, Some, None, Result, Ok, is_some, refl, sym, ap, subst, ◌∙◌, arith, IfSome, ◌≢◌, slice_get}
use Rattle.plain_values.proofs.Common.{length-take, true≢false, AllByRecursion, eq_by_cmp, bytes_cmp, row_cmp, absurd_false}
use Rattle.std.specs.FinMap as finmap
use Rattle.plain_values.specs.SortedSet as set
use Rattle.fd_laws.proofs.Common.{name_total, tied_name}
use Rattle.lens_laws.proofs.Common.{none_off, none_clash, AllThere, all_there}
use Rattle.lens_specs.specs.Common.{Name, Columns, Relation, Predicate, Edge, MeetsTree, Sort, IsOf, Tables, Lens, TableDelta, LeadTo, inverted, with_deltas}
use Rattle.grammar_specs.specs.Common.{Definition, table, view}
use Rattle.server_specs.specs.Common.{Line, Catalogue, catalogue, with_definition, lens_of, with_lens, sort_with, table_lens, is_table_of, judged, is_taken, State, fresh, remember, Answer, Request, with_defined, accept, with_last, answer, Replies, answered, not_stored, found_memory, out_of_memory, Exchange, Chain, last_state, AreStored, CanUndo, IsDifference, IsStoredAs, IsStored, Valid, undone}
use Rattle.grammar_laws.specs.Reading.{reading}
use Rattle.catalog_specs.proofs.Catalogues.{catalogue-push}
use Rattle.server_laws.proofs.Outcomes.{Outcome, is_told, is_refused, is_defined, is_changed, is_undone, outcome}
use Rattle.server_laws.proofs.Led.{IsChangeTo, led_names}
use Rattle.server_laws.proofs.Remembered.{all_taken, can_undo_more, can_undo_still, can_undo_with, differences_remembered, few_remembered, reverse_last}
use Rattle.server_laws.proofs.Stored.{as_stored}
use Rattle.server_laws.proofs.Taken.{IsTaken, judged_ok, not_own, lens_is, lens_is_known, all_known, first_refused-push}
use Rattle.server_laws.specs.StateLaws.{SessionsStayValid}

pub fresh_is_valid : Valid fresh
fresh_is_valid = record {
  definitions = refl;
  tables = λ name. subst (λ o. IsStored name o (finmap.get (finmap.empty {X = Relation} {R = bytes_cmp}) name)) (sym (finmap.get-empty bytes_cmp name)) (finmap.get-empty bytes_cmp name);
  last = λ name. ap is_some (finmap.get-empty bytes_cmp name) ∙ sym (ap is_some (finmap.get-empty bytes_cmp name));
  versions = λ name. subst (λ o. IfSome o (λ version. version ≤ 0)) (sym (finmap.get-empty bytes_cmp name)) tt;
  few = omega arith;
  differences = tt;
  past = tt;
}

-- ---- versions of tables

-- where a version is no later, it is no later than a later one
later : (o : Option ℕ) (v w : ℕ) → v ≤ w → IfSome o (λ version. version ≤ v) → IfSome o (λ version. version ≤ w)
later None v w l h = tt
later (Some n) v w l h = omega arith

module _ (last : finmap.FinMap bytes_cmp ℕ) (v : ℕ) where
  -- a version that is put under a name is there, and is no later
  put_version : (name q : Name) → IfSome (finmap.get last q) (λ version. version ≤ v) → IfSome (finmap.get (finmap.insert last name v) q) (λ version. version ≤ v)
  put_version name q h = subst (λ o. IfSome o (λ version. version ≤ v)) (sym (finmap.get-insert name_total last name v q)) (either (eq_by_cmp bytes_cmp q name) (finmap.get last q) h)
    where
      either : (b : Bool) (o : Option ℕ) → IfSome o (λ version. version ≤ v) → IfSome (cond b (Some v) o) (λ version. version ≤ v)
      either true o h = omega arith
      either false o h = h

with_last_versions : (v : ℕ) (ds : List TableDelta) (last : finmap.FinMap bytes_cmp ℕ) → ((q : Name) → IfSome (finmap.get last q) (λ version. version ≤ v))
    → (q : Name) → IfSome (finmap.get (with_last v ds last) q) (λ version. version ≤ v)
with_last_versions v [] last h q = h q
with_last_versions v (d ∷ ds) last h q = with_last_versions v ds (finmap.insert last d.table v) (λ u. put_version last v d.table u (h u)) q

-- each of the changed tables has a version
abbrev AllIn : finmap.FinMap bytes_cmp ℕ → List TableDelta → Type 0
AllIn last ds = AllByRecursion (λ d. is_some (finmap.get last d.table) ≡ true) ds

some_of : (b : Bool) (v : ℕ) (o : Option ℕ) → (b ≡ true → is_some o ≡ true) → is_some (cond b (Some v) o) ≡ is_some o
some_of true v o h = sym (h refl)
some_of false v o h = refl

same_names : (last : finmap.FinMap bytes_cmp ℕ) (v : ℕ) (t : Name) → is_some (finmap.get last t) ≡ true → (q : Name) → is_some (finmap.get (finmap.insert last t v) q) ≡ is_some (finmap.get last q)
same_names last v t h q = ap is_some (finmap.get-insert name_total last t v q) ∙ some_of (eq_by_cmp bytes_cmp q t) v (finmap.get last q) (λ e. ap (λ n. is_some (finmap.get last n)) (tied_name q t e) ∙ h)

all_in_after : (last : finmap.FinMap bytes_cmp ℕ) (v : ℕ) (t : Name) → is_some (finmap.get last t) ≡ true → (ds : List TableDelta) → AllIn last ds → AllIn (finmap.insert last t v) ds
all_in_after last v t h [] a = tt
all_in_after last v t h (d ∷ ds) a = (same_names last v t h d.table ∙ a.0, all_in_after last v t h ds a.1)

with_last_names : (v : ℕ) (ds : List TableDelta) (last : finmap.FinMap bytes_cmp ℕ) → AllIn last ds → (q : Name) → is_some (finmap.get (with_last v ds last) q) ≡ is_some (finmap.get last q)
with_last_names v [] last h q = refl
with_last_names v (d ∷ ds) last h q = with_last_names v ds (finmap.insert last d.table v) (all_in_after last v d.table h.0 ds h.1) q ∙ same_names last v d.table h.0 q

-- ---- changes of tables

named : (last : finmap.FinMap bytes_cmp ℕ) (db : Tables) (ds : List TableDelta) → ((q : Name) → is_some (finmap.get last q) ≡ is_some (finmap.get db q)) → AllThere ds db → AllIn last ds
named last db [] h there = tt
named last db (d ∷ ds) h there = (h d.table ∙ there.0, named last db ds h there.1)

-- differences that lead to other tables, with the changes that can then be undone
valid_led : (s : State) (ds : List TableDelta) (db : Tables) (past : List (List TableDelta)) → Valid s → AreStored (catalogue s.texts) db → LeadTo ds s.tables db
    → length past ≤ 16 → AllByRecursion IsDifference past → CanUndo (catalogue s.texts) db (reverse past)
    → Valid (record s { tables = db; version = s.version + 1; last = with_last (s.version + 1) ds s.last; past = past })
valid_led s ds db past v stored leads few differ can = record {
  definitions = v.definitions;
  tables = stored;
  last = λ q. with_last_names (s.version + 1) ds s.last (named s.last s.tables ds v.last (all_there ds s.tables leads.0)) q ∙ v.last q ∙ sym (led_names ds s.tables db leads q);
  versions = λ q. with_last_versions (s.version + 1) ds s.last (λ u. later (finmap.get s.last u) s.version (s.version + 1) (omega arith) (v.versions u)) q;
  few = few;
  differences = differ;
  past = can;
}

pub valid_accept : (s : State) (ds : List TableDelta) (db : Tables) → Valid s → IsChangeTo s ds db → Valid (accept db ds s).1
valid_accept s [] db v h = v
valid_accept s (d ∷ ds) db v h =
    let some : (d ∷ ds) ≢ [] = λ e. cc in
    valid_led s (d ∷ ds) db (remember (d ∷ ds) s.past) v h.stored h.leads (few_remembered (d ∷ ds) s.past) (differences_remembered (d ∷ ds) s.past v.differences (some, h.deltas))
    (can_undo_more (catalogue s.texts) s.tables db (d ∷ ds) s.past v.tables h.back v.past)

-- ---- undone changes

-- the first of the changes that can be undone
pub first_undo : (s : State) (cs : List TableDelta) → Valid s → slice_get s.past (length s.past - 1) ≡ Some cs → CanUndo (catalogue s.texts) s.tables (cs ∷ reverse (take (length s.past - 1) s.past))
first_undo s cs v is = subst (CanUndo (catalogue s.texts) s.tables) (reverse_last s.past cs is) v.past

pub undo_leads : (s : State) (cs : List TableDelta) → Valid s → slice_get s.past (length s.past - 1) ≡ Some cs → LeadTo (inverted cs) s.tables (with_deltas (inverted cs) s.tables)
undo_leads s cs v is = ((first_undo s cs v is).0, refl)

pub valid_undone : (s : State) → Valid s → (o : Option (List TableDelta)) → slice_get s.past (length s.past - 1) ≡ o → Valid (undone o s).1
valid_undone s v None is = v
valid_undone s v (Some cs) is =
    let can = first_undo s cs v is in
    let few = v.few in
    let shorter = length-take (length s.past - 1) s.past in
    valid_led s (inverted cs) (with_deltas (inverted cs) s.tables) (take (length s.past - 1) s.past) v can.1 (undo_leads s cs v is)
    (omega arith) (all_taken IsDifference (length s.past - 1) s.past v.differences) can.2

-- ---- definitions

-- no rows meet every tree
none_meet : (T : List Edge) → MeetsTree set.empty T
none_meet [] = tt
none_meet (e ∷ es) = (λ r s i j k. absurd_false _ i (set.contains-empty row_cmp r), none_meet es)

-- no rows are of every sort
none_of_sort : (s : Sort) → IsOf set.empty s
none_of_sort s = record {
  columns = λ r i. absurd_false _ i (set.contains-empty row_cmp r);
  off = none_off s.predicate set.empty (λ r i. absurd_false _ i (set.contains-empty row_cmp r));
  clash = none_clash s.tree set.empty (none_meet s.tree);
}

-- a name that is free has no table
pub no_table : (name : Name) (o : Option Lens) (r : Option Relation) → is_some o ≡ false → IsStored name o r → r ≡ None
no_table name None r h k = k
no_table name (Some L) r h k = absurd (true≢false h)

-- what is stored under the new name, and under each other one, is stored
inserted_is : (known : Catalogue) (db : Tables) (name : Name) (L : Lens) (M : Relation) → IsStored name (Some L) (Some M) → AreStored known db
    → AreStored (finmap.insert known name L) (finmap.insert db name M)
inserted_is known db name L M here h q =
    subst (λ o. IsStored q o (finmap.get (finmap.insert db name M) q)) (sym (finmap.get-insert name_total known name L q))
    (subst (λ r. IsStored q (cond (eq_by_cmp bytes_cmp q name) (Some L) (finmap.get known q)) r) (sym (finmap.get-insert name_total db name M q))
    (elim (eq_by_cmp bytes_cmp q name) as (λ b. eq_by_cmp bytes_cmp q name ≡ b → IsStored q (cond b (Some L) (finmap.get known q)) (cond b (Some M) (finmap.get db q))) [
      | true ↦ λ is. subst (λ n. IsStored n (Some L) (Some M)) (sym (tied_name q name is)) here
      | false ↦ λ _. h q
    ] refl))

-- a table more, with no rows
stored_table : (known : Catalogue) (db : Tables) (name : Name) (columns : Columns) (deps : List Edge) (P : Predicate) → AreStored known db
    → AreStored (finmap.insert known name (table_lens name columns deps P)) (finmap.insert db name (record { columns = columns; rows = set.empty }))
stored_table known db name columns deps P h =
    inserted_is known db name (table_lens name columns deps P) (record { columns = columns; rows = set.empty })
    (as_stored name (sort_with columns deps P) (Some (record { columns = columns; rows = set.empty })) (refl, none_of_sort (sort_with columns deps P))) h

-- a view more, under a name that is free
stored_view : (known : Catalogue) (db : Tables) (name : Name) (L : Lens) → is_taken known name ≡ false → is_table_of name L ≡ false → AreStored known db → AreStored (finmap.insert known name L) db
stored_view known db name L free other h q =
    subst (λ o. IsStored q o (finmap.get db q)) (sym (finmap.get-insert name_total known name L q))
    (elim (eq_by_cmp bytes_cmp q name) as (λ b. eq_by_cmp bytes_cmp q name ≡ b → IsStored q (cond b (Some L) (finmap.get known q)) (finmap.get db q)) [
      | true ↦ λ is.
          let none : finmap.get db q ≡ None = no_table q (finmap.get known q) (finmap.get db q) (ap (λ n. is_some (finmap.get known n)) (tied_name q name is) ∙ free) (h q) in
          subst (λ b. IsStoredAs b L (finmap.get db q)) (sym (ap (λ n. is_table_of n L) (tied_name q name is) ∙ other)) none
      | false ↦ λ _. h q
    ] refl)

-- the catalogue after a definition that is taken
pub known_after : (s : State) (text : List ℕ) (d : Definition) → judged (catalogue s.texts) (reading text) ≡ Ok d → catalogue (s.texts ++ text ∷ []) ≡ with_definition (Ok d) (catalogue s.texts)
known_after s text d j = catalogue-push s.texts text ∙ ap (λ r. with_definition r (catalogue s.texts)) (judged_ok (catalogue s.texts) (reading text) d j).0

stored_after : (s : State) (text : List ℕ) (d : Definition) → judged (catalogue s.texts) (reading text) ≡ Ok d → (db : Tables) → AreStored (with_definition (Ok d) (catalogue s.texts)) db → AreStored (catalogue (s.texts ++ text ∷ [])) db
stored_after s text d j db h = subst (λ k. AreStored k db) (sym (known_after s text d j)) h

undo_after : (s : State) (text : List ℕ) (d : Definition) → judged (catalogue s.texts) (reading text) ≡ Ok d → (db : Tables) → CanUndo (with_definition (Ok d) (catalogue s.texts)) db (reverse s.past)
    → CanUndo (catalogue (s.texts ++ text ∷ [])) db (reverse s.past)
undo_after s text d j db h = subst (λ k. CanUndo k db (reverse s.past)) (sym (known_after s text d j)) h

inserted_names : (last : finmap.FinMap bytes_cmp ℕ) (db : Tables) (name : Name) (v : ℕ) (r : Relation) → ((q : Name) → is_some (finmap.get last q) ≡ is_some (finmap.get db q))
    → (q : Name) → is_some (finmap.get (finmap.insert last name v) q) ≡ is_some (finmap.get (finmap.insert db name r) q)
inserted_names last db name v r h q = ap is_some (finmap.get-insert name_total last name v q) ∙ either (eq_by_cmp bytes_cmp q name) (finmap.get last q) (finmap.get db q) (h q)
    ∙ sym (ap is_some (finmap.get-insert name_total db name r q))
  where
    either : (b : Bool) (o : Option ℕ) (t : Option Relation) → is_some o ≡ is_some t → is_some (cond b (Some v) o) ≡ is_some (cond b (Some r) t)
    either true o t e = refl
    either false o t e = e

later_all : (s : State) → Valid s → (q : Name) → IfSome (finmap.get s.last q) (λ version. version ≤ s.version + 1)
later_all s v q = later (finmap.get s.last q) s.version (s.version + 1) (omega arith) (v.versions q)

pub valid_taken : (s : State) (text : List ℕ) (d : Definition) → Valid s → judged (catalogue s.texts) (reading text) ≡ Ok d → IsTaken (catalogue s.texts) d → Valid (with_defined text d s)
valid_taken s text (table name columns deps P) v j h = record {
  definitions = first_refused-push s.texts text (table name columns deps P) v.definitions j;
  tables = stored_after s text (table name columns deps P) j (finmap.insert s.tables name (record { columns = columns; rows = set.empty })) (stored_table (catalogue s.texts) s.tables name columns deps P v.tables);
  last = inserted_names s.last s.tables name (s.version + 1) (record { columns = columns; rows = set.empty }) v.last;
  versions = λ q. put_version s.last (s.version + 1) name q (later_all s v q);
  few = v.few;
  differences = v.differences;
  past = undo_after s text (table name columns deps P) j (finmap.insert s.tables name (record { columns = columns; rows = set.empty }))
      (can_undo_with name (record { columns = columns; rows = set.empty }) (catalogue s.texts) (finmap.insert (catalogue s.texts) name (table_lens name columns deps P))
      (λ db stored. stored_table (catalogue s.texts) db name columns deps P stored)
      (λ db stored. ap is_some (no_table name (finmap.get (catalogue s.texts) name) (finmap.get db name) h.0 (stored name)))
      s.tables (reverse s.past) v.tables v.past);
}
valid_taken s text (view name expr) v j h =
    let known = catalogue s.texts in
    let k = lens_is_known known (all_known s.texts v.definitions) expr h.1.0 h.1.1 in
    let stored : (db : Tables) → AreStored known db → AreStored (with_lens name (lens_of expr known) known) db = λ db here.
    subst (λ o. AreStored (with_lens name o known) db) (sym (lens_is known expr h.1.0 h.1.1)) (stored_view known db name h.1.0 h.0 (not_own known name h.0 h.1.0 k.bases) here) in record {
      definitions = first_refused-push s.texts text (view name expr) v.definitions j;
      tables = stored_after s text (view name expr) j s.tables (stored s.tables v.tables);
      last = v.last;
      versions = λ q. later_all s v q;
      few = v.few;
      differences = v.differences;
      past = undo_after s text (view name expr) j s.tables (can_undo_still known (with_lens name (lens_of expr known) known) stored s.tables (reverse s.past) v.past);
    }

-- ---- answers and sessions

valid_outcome : (s : State) → Valid s → {r : Result Request Answer} {t : Answer × State} → Outcome s r t → Valid t.1
valid_outcome s v (is_told q told) = v
valid_outcome s v (is_refused refuses) = v
valid_outcome s v (is_defined text d j) = valid_taken s text d v j (judged_ok (catalogue s.texts) (reading text) d j).1
valid_outcome s v (is_changed ds db makes leads) = valid_accept s ds db v (leads v)
valid_outcome s v (is_undone cs is) = valid_undone s v (Some cs) is

pub valid_answer : (s : State) (l : Line) → Valid s → Valid (answer s l).1
valid_answer s l v = valid_outcome s v (outcome s l)

pub valid_step : (s : State) (count : ℕ) (l : Line) (reply : List ℕ) (t : State) (count' : ℕ) → Valid s → Replies s count l reply t count' → Valid t
valid_step s count l reply t count' v r = elim r [
  | found_memory (answered told is) ↦ subst Valid (sym is) (valid_answer s l v)
  | out_of_memory short told is ↦ subst Valid (sym is) v
  | found_memory (not_stored told is moved grew) ↦ subst Valid (sym is) v
]

pub valid_chain : (s : State) (count : ℕ) (es : List Exchange) → Valid s → Chain s count es → AllByRecursion (λ e. Valid e.state) es × Valid (last_state s es)
valid_chain s count [] v c = (tt, v)
valid_chain s count (e ∷ es) v c =
    let here = valid_step s count e.line e.reply e.state e.count v c.0.replied in
    let w = valid_chain e.state e.count es here c.1 in
    ((here, w.0), w.1)

pub valid_session : SessionsStayValid
valid_session s count lines replies last count' v session =
    let w = valid_chain s count session.exchanges v session.chain in (w.0, subst Valid session.last_is w.1)
