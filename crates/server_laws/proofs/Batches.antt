-- Lines that send a batch.
use Rattle.std.proofs.Common.{◌≡◌, ◌∙◌, ◌⊎◌, ◌+◌, ℕ, suc, List, [], ◌∷◌, ◌++◌, length, Option, Some, None, Result, Ok, Err, inl, inr, ap, sym, subst, refl, arith}
use Rattle.std.specs.FinMap as finmap
use Rattle.lens_laws.proofs.Common.{get_after, put_back, put_leaves, are_differences}
use Rattle.lens_specs.specs.Common.{Lens, Tables, get, put, sort_of, TableDelta, changes, differences, Rows, IsOf, AreDeltas, LeadTo}
use Rattle.server_specs.specs.Common.{Line, catalogue, State, EditRefusal, in_add, in_remove, Answer, changed, in_edit, BatchEdit, request, accept, asked_view, changed_by, edited, set_in, settled, at_tables, batch_settled, edit_tables, edits_from, put_in, then_edits, answer, answer_request, AreStored, Valid}
use Rattle.server_specs.specs.EditRefusal as refusals
use Rattle.server_specs.specs.Answer.{told as told_answer}
use Rattle.server_specs.specs.Request.{batch as batch_request}
use Rattle.server_specs.specs.Batching.{KnownEdit, batch, known_view, with_known}
use Rattle.server_laws.specs.Answers.{IsAccepted}
use Rattle.server_laws.specs.BatchLaws.{AreKnown, AreLawful, IsBatchLine, IsLawfulEdit, FirstRefusedIsTold, BatchesAcceptedOrRefused, BatchesAreMade, BatchesLead, EditsAreLawful, OneEditIsAnEdit}
use Rattle.server_laws.proofs.Asked.{GivesTyped, asked_is, asked_typed, edit_ok, passed_sort}
use Rattle.server_laws.proofs.Differences.{none_differ}
use Rattle.server_laws.proofs.Edited.{IsEdited, edit_is, edit_stored, edits_stored, then_ok}
use Rattle.server_laws.proofs.Led.{put_change, put_leads_to, tables_change, with_tables}
use Rattle.server_laws.proofs.Puts.{told, accepts}
use Rattle.server_laws.proofs.Stored.{IsHere, lens_here}

-- ---- the answer

-- the answer to a batch, by what its edits come to
pub batch_is : (s : State) (l : Line) (edits : List BatchEdit) (on : Option ℕ) (r : Result Tables (ℕ × EditRefusal)) → IsBatchLine l edits on → edits_from 0 on s edits s.tables ≡ r → answer s l ≡ batch_settled r s
unfolding answer
batch_is s l edits on r asked is = ap (λ q. answer_request q s) asked ∙ ap (λ x. batch_settled x s) is

-- ---- what is refused

not_refused : (i : ℕ) (why : EditRefusal) (db : Tables) (ds : List TableDelta) (s : State) → accept db ds s ≡ (in_edit i why, s) → ⊥
not_refused i why db ds s e = subst (λ r. IsAccepted r.0) e (accepts db ds s)

same_refusal : (i j : ℕ) (why other : EditRefusal) → in_edit i why ≡ in_edit j other → (i ≡ j) × (why ≡ other)
same_refusal i j why other e = (cc, cc)

refused_by : (r : Result Tables (ℕ × EditRefusal)) (i : ℕ) (why : EditRefusal) (s : State) → batch_settled r s ≡ (in_edit i why, s) → r ≡ Err (i, why)
refused_by (Ok db) i why s e = absurd (not_refused i why db (differences (finmap.keys s.tables) s.tables db) s e)
refused_by (Err found) i why s e = let w = same_refusal found.0 i found.1 why (ap (λ x. x.0) e) in λ k. Err (w.0 k, w.1 k)

-- the edits from this place on, of which the first that is refused is at that place
record IsRefusedFrom (j : ℕ) (s : State) (edits : List BatchEdit) (on : Option ℕ) (db : Tables) (i : ℕ) (why : EditRefusal) : Type 0 where
  before : List BatchEdit
  here : BatchEdit
  after : List BatchEdit
  are : edits ≡ before ++ here ∷ after
  place : j + length before ≡ i
  mid : Tables
  taken : edits_from j on s before db ≡ Ok mid
  refused : edit_tables here on (finmap.get (catalogue s.texts) here.view) s mid ≡ Err why

one_more : (j : ℕ) (s : State) (e : BatchEdit) (edits : List BatchEdit) (on : Option ℕ) (db next : Tables) (i : ℕ) (why : EditRefusal) → edit_tables e on (finmap.get (catalogue s.texts) e.view) s db ≡ Ok next
    → IsRefusedFrom (suc j) s edits on next i why → IsRefusedFrom j s (e ∷ edits) on db i why
one_more j s e edits on db next i why ok h = record {
  before = e ∷ h.before;
  here = h.here;
  after = h.after;
  are = ap (λ l. e ∷ l) h.are;
  place = (let p = h.place in omega arith);
  mid = h.mid;
  taken = ap (then_edits j (edits_from (suc j) on s h.before)) ok ∙ h.taken;
  refused = h.refused;
}

same_place : {A : Type 0} (i j : ℕ) (why other : EditRefusal) → ◌≡◌ {A = Result A (ℕ × EditRefusal)} (Err (j, other)) (Err (i, why)) → (j ≡ i) × (other ≡ why)
same_place i j why other e =
    let same : ◌≡◌ {A = ℕ × EditRefusal} (j, other) (i, why) = cc in
    (ap (λ x. x.0) same, ap (λ x. x.1) same)

-- the first edit is refused, or one behind it
refused_on : (j : ℕ) (s : State) (e : BatchEdit) (edits : List BatchEdit) (on : Option ℕ) (db : Tables) (i : ℕ) (why : EditRefusal)
    → ((next : Tables) → edits_from (suc j) on s edits next ≡ Err (i, why) → IsRefusedFrom (suc j) s edits on next i why)
    → (r : Result Tables EditRefusal) → edit_tables e on (finmap.get (catalogue s.texts) e.view) s db ≡ r → then_edits j (edits_from (suc j) on s edits) r ≡ Err (i, why) → IsRefusedFrom j s (e ∷ edits) on db i why
refused_on j s e edits on db i why behind (Ok next) is f = one_more j s e edits on db next i why is (behind next f)
refused_on j s e edits on db i why behind (Err other) is f =
    let same = same_place i j why other f in
    record { before = []; here = e; after = edits; are = refl; place = (let z = same.0 in omega arith); mid = db; taken = refl; refused = is ∙ ap Err same.1 }

refused_from : (j : ℕ) (s : State) (edits : List BatchEdit) (on : Option ℕ) (db : Tables) (i : ℕ) (why : EditRefusal) → edits_from j on s edits db ≡ Err (i, why) → IsRefusedFrom j s edits on db i why
refused_from j s [] on db i why e = cc
refused_from j s (b ∷ edits) on db i why e =
    refused_on j s b edits on db i why (λ next f. refused_from (suc j) s edits on next i why f) (edit_tables b on (finmap.get (catalogue s.texts) b.view) s db) refl e

-- edits behind others that are taken go on from their tables
edits-append : (j k : ℕ) (s : State) (before rest : List BatchEdit) (on : Option ℕ) (db mid : Tables) → j + length before ≡ k → edits_from j on s before db ≡ Ok mid
    → edits_from j on s (before ++ rest) db ≡ edits_from k on s rest mid
edits-append j k s [] rest on db mid place e =
    let from : j ≡ k = omega arith in
    let same : db ≡ mid = cc in
    λ x. edits_from (from x) on s rest (same x)
edits-append j k s (b ∷ before) rest on db mid place e =
    let w = then_ok j (edits_from (suc j) on s before) (edit_tables b on (finmap.get (catalogue s.texts) b.view) s db) mid e in
    ap (then_edits j (edits_from (suc j) on s (before ++ rest))) w.1 ∙ edits-append (suc j) k s before rest on w.0 mid (omega arith) w.2

pub first_refused_told : FirstRefusedIsTold
first_refused_told s l edits on asked i why = (
  λ e.
      let r = refused_by (edits_from 0 on s edits s.tables) i why s (sym (batch_is s l edits on (edits_from 0 on s edits s.tables) asked refl) ∙ e) in
      let h = refused_from 0 s edits on s.tables i why r in
      record { before = h.before; here = h.here; after = h.after; are = h.are; place = (let p = h.place in omega arith); db = h.mid; taken = h.taken; refused = h.refused },
  λ h.
      let p = h.place in
      let r : edits_from 0 on s edits s.tables ≡ Err (i, why) = ap (λ l. edits_from 0 on s l s.tables) h.are
      ∙ edits-append 0 i s h.before (h.here ∷ h.after) on s.tables h.db (omega arith) h.taken
      ∙ ap (then_edits i (edits_from (suc i) on s h.after)) h.refused in
      batch_is s l edits on (Err (i, why)) asked r,
)

accepted_or : (s : State) (r : Result Tables (ℕ × EditRefusal)) → IsAccepted (batch_settled r s).0 ⊎ ((i : ℕ) × (why : EditRefusal) × (batch_settled r s ≡ (in_edit i why, s)))
accepted_or s (Ok db) = inl (accepts db (differences (finmap.keys s.tables) s.tables db) s)
accepted_or s (Err found) = inr (found.0, found.1, refl)

pub batch_accepted_or : BatchesAcceptedOrRefused
batch_accepted_or s l edits on asked =
    subst (λ a. IsAccepted a.0 ⊎ ((i : ℕ) × (why : EditRefusal) × (a ≡ (in_edit i why, s)))) (sym (batch_is s l edits on (edits_from 0 on s edits s.tables) asked refl))
    (accepted_or s (edits_from 0 on s edits s.tables))

-- ---- what is accepted

accepted_by : (s : State) (r : Result Tables (ℕ × EditRefusal)) → IsAccepted (batch_settled r s).0 → (db : Tables) × (r ≡ Ok db)
accepted_by s (Ok db) h = (db, refl)
accepted_by s (Err found) h = absurd h

-- the tables of an accepted batch
pub accepted_tables : (s : State) (l : Line) (edits : List BatchEdit) (on : Option ℕ) → IsBatchLine l edits on → IsAccepted (answer s l).0 → (db : Tables) × (edits_from 0 on s edits s.tables ≡ Ok db)
accepted_tables s l edits on asked h =
    accepted_by s (edits_from 0 on s edits s.tables) (subst (λ a. IsAccepted a.0) (batch_is s l edits on (edits_from 0 on s edits s.tables) asked refl) h)

-- ---- its edits

-- the lens of an edit, with its sets of rows, which make its view
record IsKnown (s : State) (e : BatchEdit) (db new : Tables) : Type 0 where
  known : KnownEdit
  lens : finmap.get (catalogue s.texts) e.view ≡ Some known.lens
  removes : set_in in_remove (sort_of known.lens).columns e.remove ≡ Ok known.remove
  adds : set_in in_add (sort_of known.lens).columns e.add ≡ Ok known.add
  here : IsHere (at_tables s db) known.lens
  typed : IsOf (known_view known db) (sort_of known.lens)
  is : with_known known db ≡ new

known_edit : (s : State) (e : BatchEdit) (on : Option ℕ) (db new : Tables) → IsEdited s e on db new → IsKnown s e db new
known_edit s e on db new h =
    let a = asked_is (at_tables s db) h.lens (edited e.remove e.add) on h.view h.asked in
    let w = edit_ok (get h.lens db) (set_in in_remove (sort_of h.lens).columns e.remove) (set_in in_add (sort_of h.lens).columns e.add) a.view a.is in
    let same : a.view ≡ h.view = (passed_sort (sort_of h.lens) a.view h.view a.passes).0 in
    record {
      known = record { lens = h.lens; remove = w.0; add = w.1 };
      lens = h.known;
      removes = w.2;
      adds = w.3;
      here = h.here;
      typed = subst (λ N. IsOf N (sort_of h.lens)) (sym (w.4 ∙ same)) h.typed;
      is = ap (λ N. put h.lens N db) (w.4 ∙ same) ∙ h.is;
    }

known_edits : (s : State) → Valid s → (i : ℕ) (edits : List BatchEdit) (on : Option ℕ) (db new : Tables) → AreStored (catalogue s.texts) db → edits_from i on s edits db ≡ Ok new
    → (known : List KnownEdit) × AreKnown s edits known × (new ≡ batch known db)
known_edits s v i [] on db new stored e = ([], tt, cc)
known_edits s v i (b ∷ edits) on db new stored e =
    let w = then_ok i (edits_from (suc i) on s edits) (edit_tables b on (finmap.get (catalogue s.texts) b.view) s db) new e in
    let h = edit_is s v b on db w.0 stored w.1 in
    let k = known_edit s b on db w.0 h in
    let rest = known_edits s v (suc i) edits on w.0 new (edit_stored s b on db w.0 stored h) w.2 in
    (k.known ∷ rest.0, (k.lens, k.removes, k.adds, rest.1), rest.2 ∙ ap (batch rest.0) (sym k.is))

pub batch_made : BatchesAreMade
batch_made s v l edits on asked h =
    let w = accepted_tables s l edits on asked h in
    let is = batch_is s l edits on (Ok w.0) asked w.1 in
    let k = known_edits s v 0 edits on s.tables w.0 v.tables w.1 in
    let ds = differences (finmap.keys s.tables) s.tables w.0 in
    let tables : (answer s l).1.tables ≡ w.0 = ap (λ a. a.1.tables) is ∙ with_tables s ds w.0 (tables_change s w.0 v (edits_stored s v 0 on edits s.tables w.0 v.tables w.1)).leads in (
      k.0,
      k.1,
      tables ∙ k.2,
      ap (λ a. a.0) is ∙ told s w.0 ds ∙ (λ i. changed (differences (finmap.keys s.tables) s.tables (sym tables i)) (sym is i).1.version),
    )

pub batch_leads : BatchesLead
batch_leads s v l edits on asked h =
    let w = accepted_tables s l edits on asked h in
    let change = tables_change s w.0 v (edits_stored s v 0 on edits s.tables w.0 v.tables w.1) in
    let tables : (answer s l).1.tables ≡ w.0 = ap (λ a. a.1.tables) (batch_is s l edits on (Ok w.0) asked w.1) ∙ with_tables s (differences (finmap.keys s.tables) s.tables w.0) w.0 change.leads in
    subst (λ db. AreDeltas (differences (finmap.keys s.tables) s.tables db) × LeadTo (differences (finmap.keys s.tables) s.tables db) s.tables db) (sym tables) (change.deltas, change.leads)

-- ---- each edit is lawful

-- the lens and the sets of an edit are these alone
one_known : (s : State) (e : BatchEdit) (db new : Tables) (h : IsKnown s e db new) (k : KnownEdit) → finmap.get (catalogue s.texts) e.view ≡ Some k.lens
    → set_in in_remove (sort_of k.lens).columns e.remove ≡ Ok k.remove → set_in in_add (sort_of k.lens).columns e.add ≡ Ok k.add → h.known ≡ k
one_known s e db new h k lens removes adds =
    let same : h.known.lens ≡ k.lens = (let l = h.lens in cc) in
    let remove : h.known.remove ≡ k.remove = (let r = ap (λ L. set_in in_remove (sort_of L).columns e.remove) (sym same) ∙ h.removes in cc) in
    let add : h.known.add ≡ k.add = (let a = ap (λ L. set_in in_add (sort_of L).columns e.add) (sym same) ∙ h.adds in cc) in
    λ i. record { lens = same i; remove = remove i; add = add i }

-- a new view of the lens's sort is put lawfully
lawful_view : (s : State) → Valid s → (e : KnownEdit) (db : Tables) → AreStored (catalogue s.texts) db → IsHere (at_tables s db) e.lens → IsOf (known_view e db) (sort_of e.lens) → IsLawfulEdit e db
lawful_view s v e db stored here n = record {
  sort = n;
  put_get = (get_after e.lens db here.typed here.are (known_view e db) n).1;
  get_put = λ same. ap (λ N. put e.lens N db) same ∙ put_back e.lens db here.typed here.are;
  leads = put_leads_to (at_tables s db) e.lens (known_view e db) stored here n;
  others = λ t o. put_leaves e.lens (known_view e db) db t o;
}

lawful_edit : (s : State) → Valid s → (b : BatchEdit) (on : Option ℕ) (db new : Tables) → AreStored (catalogue s.texts) db → (h : IsEdited s b on db new) → (k : KnownEdit)
    → finmap.get (catalogue s.texts) b.view ≡ Some k.lens → set_in in_remove (sort_of k.lens).columns b.remove ≡ Ok k.remove → set_in in_add (sort_of k.lens).columns b.add ≡ Ok k.add
    → IsLawfulEdit k db × (with_known k db ≡ new)
lawful_edit s v b on db new stored h k lens removes adds =
    let w = known_edit s b on db new h in
    let one : w.known ≡ k = one_known s b db new w k lens removes adds in
    (subst (λ e. IsLawfulEdit e db) one (lawful_view s v w.known db stored w.here w.typed), ap (λ e. with_known e db) (sym one) ∙ w.is)

lawful_edits : (s : State) → Valid s → (i : ℕ) (edits : List BatchEdit) (on : Option ℕ) (db new : Tables) → AreStored (catalogue s.texts) db → edits_from i on s edits db ≡ Ok new
    → (known : List KnownEdit) → AreKnown s edits known → AreLawful known db
lawful_edits s v i [] on db new stored e [] are = tt
lawful_edits s v i [] on db new stored e (k ∷ known) are = absurd are
lawful_edits s v i (b ∷ edits) on db new stored e [] are = absurd are
lawful_edits s v i (b ∷ edits) on db new stored e (k ∷ known) are =
    let w = then_ok i (edits_from (suc i) on s edits) (edit_tables b on (finmap.get (catalogue s.texts) b.view) s db) new e in
    let h = edit_is s v b on db w.0 stored w.1 in
    let l = lawful_edit s v b on db w.0 stored h k are.0 are.1 are.2 in
    (l.0, subst (AreLawful known) (sym l.1) (lawful_edits s v (suc i) edits on w.0 new (edit_stored s b on db w.0 stored h) w.2 known are.3))

pub edits_lawful : EditsAreLawful
edits_lawful s v l edits on asked h known are =
    let w = accepted_tables s l edits on asked h in
    lawful_edits s v 0 edits on s.tables w.0 v.tables w.1 known are

-- ---- small batches

pub nothing_made : (s : State) (l : Line) (edits : List BatchEdit) (on : Option ℕ) → IsBatchLine l edits on → edits_from 0 on s edits s.tables ≡ Ok s.tables → answer s l ≡ (changed [] s.version, s)
nothing_made s l edits on asked e = batch_is s l edits on (Ok s.tables) asked e ∙ ap (λ ds. accept s.tables ds s) (none_differ (finmap.keys s.tables) s.tables)

pub no_edits : (s : State) (l : Line) (on : Option ℕ) → IsBatchLine l [] on → answer s l ≡ (changed [] s.version, s)
no_edits s l on asked = nothing_made s l [] on asked refl

-- the answer to a batch of one edit, beside the answer to the edit
abbrev IsAlso : State → Answer × State → Answer × State → Type 0
IsAlso s r q = (r ≡ q) ⊎ ((why : EditRefusal) × (r ≡ (in_edit 0 why, s)) × (q ≡ (told_answer why, s)))

one_view : (s : State) (L : Lens) → Valid s → IsHere s L → (on : Option ℕ) (r : Result Rows EditRefusal) → GivesTyped L r → IsAlso s (batch_settled (then_edits 0 (edits_from 1 on s []) (put_in r L s.tables)) s) (settled r L s)
one_view s L v here on (Err why) typed = inr (why, refl, refl)
one_view s L v here on (Ok N) typed =
    let change = put_change s L N v here (typed N refl) in
    inl (ap (λ ds. accept (put L N s.tables) ds s) (sym (are_differences (changes L N s.tables) s.tables (put L N s.tables) change.deltas change.leads)))

one_edit : (s : State) → Valid s → (e : BatchEdit) (on : Option ℕ) (o : Option Lens) → finmap.get (catalogue s.texts) e.view ≡ o
    → IsAlso s (batch_settled (then_edits 0 (edits_from 1 on s []) (edit_tables e on o s s.tables)) s) (changed_by (edited e.remove e.add) on e.view o s)
one_edit s v e on None is = inr (refusals.unknown_name e.view, refl, refl)
one_edit s v e on (Some L) is = let here = lens_here s v e.view L is in one_view s L v here on (asked_view s L (edited e.remove e.add) on) (asked_typed s L here (edited e.remove e.add) on)

pub one_edit_is : OneEditIsAnEdit
unfolding answer
one_edit_is s v l m e on asked by_itself =
    subst (λ q. IsAlso s (answer_request q s) (answer_request (request m) s)) (sym asked)
    (subst (λ q. IsAlso s (answer_request (Ok (batch_request (e ∷ []) on)) s) (answer_request q s)) (sym by_itself)
    (one_edit s v e on (finmap.get (catalogue s.texts) e.view) refl))

-- ---- as code makes it

-- a batch that is taken is accepted with any differences by rising names, none of them empty, that lead to its tables
pub batch_by : (s : State) (db : Tables) (ds : List TableDelta) → AreDeltas ds → LeadTo ds s.tables db → batch_settled (Ok db) s ≡ accept db ds s
batch_by s db ds deltas leads = ap (λ cs. accept db cs s) (sym (are_differences ds s.tables db deltas leads))
