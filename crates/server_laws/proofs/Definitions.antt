-- Definitions that are taken or refused, what a new name shows, and what stays.
use Rattle.std.proofs.Common.{◌≡◌, ◌+◌, ℕ, true, false, cond, List, Option, Some, None, Result, Ok, Err, is_some, inl, inr, refl, sym, ap, subst, ◌∙◌, ◌↔◌}
use Rattle.plain_values.proofs.Common.{or_cases, true≢false, false_from_ne_true, eq_by_cmp, bytes_cmp}
use Rattle.std.specs.FinMap as finmap
use Rattle.plain_values.specs.SortedSet as set
use Rattle.fd_laws.proofs.Common.{name_total, name_itself, tied_name, one_is}
use Rattle.lens_laws.proofs.Common.{get_same}
use Rattle.lens_specs.specs.Common.{Name, Columns, Relation, Edge, Predicate, Tables, Lens, base, select, drop, rename, get, tables_of, rows_or_none, table_sort, join}
use Rattle.server_specs.specs.Common.{Line, Catalogue, catalogue, table_lens, with_lens, CatalogFault, language, is_taken, where_sorted, lens_in, where_lensed, judged, State, Answer, defined, shown, Request, define, request, fault_answer, answer_definition, with_defined, answer, answer_request, IsStored, Valid}
use Rattle.grammar_specs.specs.Common.{Definition, table, view, Expr, Fault}
use Rattle.grammar_laws.specs.Reading.{reading}
use Rattle.catalog_specs.specs.Judging as judging
use Rattle.server_specs.specs.Defining.{text_answer}
use Rattle.server_laws.specs.Answers.{IsChange}
use Rattle.server_laws.specs.DefineLaws.{judgement, defined_name, NewTablesAreEmpty, NewViewsShow, NamesAreTakenOnce, DefinitionsLeaveViews}
use Rattle.server_laws.proofs.Outcomes.{Outcome, is_told, is_refused, is_defined, is_changed, is_undone, outcome}
use Rattle.server_laws.proofs.Refusals.{fault_refuses}
use Rattle.server_laws.proofs.Changes.{lines_read, texts_accept}
use Rattle.server_laws.proofs.Stale.{latest_same}
use Rattle.server_laws.proofs.Stored.{lens_here}
use Rattle.server_laws.proofs.Taken.{BasesAre, judged_ok, get-new, get-other, not_free, lens_is}
use Rattle.server_laws.proofs.Valid.{known_after}

-- ---- the answer to a definition

-- the answer to a line that defines, by the judgement of its text
answer_is : (s : State) (l : Line) (text : List ℕ) (r : Result Definition CatalogFault) → request l ≡ Ok (define text) → judgement s text ≡ r → answer s l ≡ answer_definition text r s
unfolding answer
answer_is s l text r asked is = ap (λ q. answer_request q s) asked ∙ ap (λ j. answer_definition text j s) is

pub taken_is_read : (s : State) (text : List ℕ) (d : Definition) → judgement s text ≡ Ok d → reading text ≡ Ok d
taken_is_read s text d j = (judged_ok (catalogue s.texts) (reading text) d j).0

pub taken_is_added : (s : State) (l : Line) (text : List ℕ) (d : Definition) → request l ≡ Ok (define text) → judgement s text ≡ Ok d → answer s l ≡ (defined (s.version + 1), with_defined text d s)
taken_is_added s l text d asked j = answer_is s l text (Ok d) asked j

pub refused_stays : (s : State) (l : Line) (text : List ℕ) (fault : CatalogFault) → request l ≡ Ok (define text) → judgement s text ≡ Err fault → answer s l ≡ (fault_answer fault, s)
refused_stays s l text fault asked j = answer_is s l text (Err fault) asked j

pub faults_told : (s : State) (l : Line) (text : List ℕ) (fault : Fault) → request l ≡ Ok (define text) → reading text ≡ Err fault → answer s l ≡ (text_answer fault, s)
faults_told s l text fault asked is = refused_stays s l text (language fault) asked (ap (judged (catalogue s.texts)) is)

taken_from : (s : State) (text : List ℕ) (r : Result Definition CatalogFault) → judgement s text ≡ r → (answer_definition text r s).0 ≡ defined (s.version + 1) → (d : Definition) × (judgement s text ≡ Ok d)
taken_from s text (Ok d) is e = (d, is)
taken_from s text (Err fault) is e = absurd ((fault_refuses s fault).change (subst IsChange (sym e) tt))

pub taken_where : (s : State) (l : Line) (text : List ℕ) → request l ≡ Ok (define text) → ((answer s l).0 ≡ defined (s.version + 1)) ↔ ((d : Definition) × (judgement s text ≡ Ok d))
taken_where s l text asked = (
  λ e. taken_from s text (judgement s text) refl (sym (ap (λ r. r.0) (answer_is s l text (judgement s text) asked refl)) ∙ e),
  λ h. ap (λ r. r.0) (answer_is s l text (Ok h.0) asked h.1),
)

-- ---- names that are taken

twice : (known : Catalogue) (d : Definition) → is_taken known (defined_name d) ≡ true → judged known (Ok d) ≡ Err (judging.name_taken (defined_name d))
twice known (table name columns deps P) h = ap (λ b. cond b (Err (judging.name_taken name)) (where_sorted (table_sort columns deps P) known (table name columns deps P))) h
twice known (view name expr) h = ap (λ b. cond b (Err (judging.name_taken name)) (where_lensed (lens_in known expr) known (view name expr))) h

pub taken_once : NamesAreTakenOnce
taken_once s l text d L asked is e =
    refused_stays s l text (judging.name_taken (defined_name d)) asked (ap (judged (catalogue s.texts)) is ∙ twice (catalogue s.texts) d (ap is_some e))

-- ---- what the new name has

-- the catalogue after a view
view_after : (s : State) (text : List ℕ) (name : Name) (expr : Expr) (L : Lens) → judgement s text ≡ Ok (view name expr) → lens_in (catalogue s.texts) expr ≡ Ok L
    → catalogue (with_defined text (view name expr) s).texts ≡ finmap.insert (catalogue s.texts) name L
view_after s text name expr L j e = known_after s text (view name expr) j ∙ ap (λ o. with_lens name o (catalogue s.texts)) (lens_is (catalogue s.texts) expr L e)

-- the lens of the view that is taken
lens_taken : (s : State) (text : List ℕ) (name : Name) (expr : Expr) → judgement s text ≡ Ok (view name expr) → (L : Lens) × (lens_in (catalogue s.texts) expr ≡ Ok L)
lens_taken s text name expr j = (judged_ok (catalogue s.texts) (reading text) (view name expr) j).1.1

-- a table that was put under a name with no rows shows none
no_rows : (db : Tables) (name : Name) (columns : Columns) (deps : List Edge) (P : Predicate) → get (table_lens name columns deps P) (finmap.insert db name (record { columns = columns; rows = set.empty })) ≡ set.empty
unfolding get
no_rows db name columns deps P =
    let M : Relation = record { columns = columns; rows = set.empty } in
    ap rows_or_none (finmap.get-insert name_total db name M name ∙ ap (λ b. cond b (Some M) (finmap.get db name)) (name_itself name))

pub tables_empty : NewTablesAreEmpty
tables_empty s l m text name columns deps P asked j again =
    let t : State = with_defined text (table name columns deps P) s in
    let L : Lens = table_lens name columns deps P in
    let known : finmap.get (catalogue t.texts) name ≡ Some L = ap (λ k. finmap.get k name) (known_after s text (table name columns deps P) j) ∙ get-new (catalogue s.texts) name L in
    let reads : answer t m ≡ (shown set.empty (s.version + 1), t) = lines_read t m name L (record { asked = again; lens = known }) ∙ ap (λ N. (shown N (s.version + 1), t)) (no_rows s.tables name columns deps P) in
    subst (λ r. answer r.1 m ≡ (shown set.empty (s.version + 1), r.1)) (sym (taken_is_added s l text (table name columns deps P) asked j)) reads

pub views_show : NewViewsShow
views_show s l m text name expr asked j again =
    let t : State = with_defined text (view name expr) s in
    let w = lens_taken s text name expr j in
    let known : finmap.get (catalogue t.texts) name ≡ Some w.0 = ap (λ k. finmap.get k name) (view_after s text name expr w.0 j w.1) ∙ get-new (catalogue s.texts) name w.0 in (
      w.0,
      lens_is (catalogue s.texts) expr w.0 w.1,
      subst (λ r. answer r.1 m ≡ (shown (get w.0 s.tables) (s.version + 1), r.1)) (sym (taken_is_added s l text (view name expr) asked j))
          (lines_read t m name w.0 (record { asked = again; lens = known })),
    )

-- ---- names keep their lenses

-- the name has the lens in the catalogue of the state
abbrev pub Has : State → Name → Lens → Type 0
Has s name L = finmap.get (catalogue s.texts) name ≡ Some L

-- a name that is taken has its lens beside one more that is new
beside : (known : Catalogue) (new name : Name) (M L : Lens) → is_taken known new ≡ false → finmap.get known name ≡ Some L → finmap.get (finmap.insert known new M) name ≡ Some L
beside known new name M L free e = get-other known new M name (not_free known new name L free e) ∙ e

stays_defined : (s : State) (text : List ℕ) (d : Definition) → judgement s text ≡ Ok d → (name : Name) (L : Lens) → Has s name L → Has (with_defined text d s) name L
stays_defined s text (table new columns deps P) j name L e =
    let free = (judged_ok (catalogue s.texts) (reading text) (table new columns deps P) j).1.0 in
    ap (λ k. finmap.get k name) (known_after s text (table new columns deps P) j) ∙ beside (catalogue s.texts) new name (table_lens new columns deps P) L free e
stays_defined s text (view new expr) j name L e =
    let free = (judged_ok (catalogue s.texts) (reading text) (view new expr) j).1.0 in
    let w = lens_taken s text new expr j in
    ap (λ k. finmap.get k name) (view_after s text new expr w.0 j w.1) ∙ beside (catalogue s.texts) new name w.0 L free e

stays_outcome : (s : State) {r : Result Request Answer} {t : Answer × State} → Outcome s r t → (name : Name) (L : Lens) → Has s name L → Has t.1 name L
stays_outcome s (is_told q told) name L e = e
stays_outcome s (is_refused refuses) name L e = e
stays_outcome s (is_defined text d j) name L e = stays_defined s text d j name L e
stays_outcome s (is_changed ds db makes leads) name L e = ap (λ texts. finmap.get (catalogue texts) name) (texts_accept db ds s) ∙ e
stays_outcome s (is_undone cs is) name L e = e

pub lenses_stay : (s : State) (l : Line) (name : Name) (L : Lens) → Has s name L → Has (answer s l).1 name L
lenses_stay s l name L e = stays_outcome s (outcome s l) name L e

-- ---- what a definition leaves

-- the tables under a lens are in the catalogue
bases_there : (known : Catalogue) (L : Lens) → BasesAre known L → (q : Name) → set.contains (tables_of L) q ≡ true → is_some (finmap.get known q) ≡ true
unfolding tables_of
bases_there known (base t s) b q i = ap (λ n. is_some (finmap.get known n)) (one_is t q i) ∙ ap is_some b
bases_there known (select P C) b q i = bases_there known C b q i
bases_there known (drop A X a C) b q i = bases_there known C b q i
bases_there known (rename A B C) b q i = bases_there known C b q i
bases_there known (join kind A B) b q i = elim (or_cases _ _ (sym (set.contains-union name_total (tables_of A) (tables_of B) q) ∙ i)) [
  | inl j ↦ bases_there known A b.0 q j
  | inr j ↦ bases_there known B b.1 q j
]

-- a table that is there is in the catalogue
stored_there : (q : Name) (o : Option Lens) (r : Option Relation) → IsStored q o r → is_some r ≡ true → is_some o ≡ true
stored_there q None r h i = absurd (true≢false (sym i ∙ ap is_some h))
stored_there q (Some L) r h i = refl

-- a name that has a lens is another than one that is free
other : (known : Catalogue) (name q : Name) → is_taken known name ≡ false → is_some (finmap.get known q) ≡ true → eq_by_cmp bytes_cmp q name ≡ false
other known name q free h = false_from_ne_true _ (λ is. absurd (true≢false (sym h ∙ ap (λ n. is_some (finmap.get known n)) (tied_name q name is) ∙ free)))

-- what is under other names stays
left_alone : {X : Type 0} (m : finmap.FinMap bytes_cmp X) (name : Name) (x : X) (q : Name) → eq_by_cmp bytes_cmp q name ≡ false → finmap.get (finmap.insert m name x) q ≡ finmap.get m q
left_alone m name x q o = finmap.get-insert name_total m name x q ∙ ap (λ b. cond b (Some x) (finmap.get m q)) o

-- each name that has a lens has its table and its last change, if any, as before
record Leaves (s t : State) : Type 0 where
  tables : (q : Name) → is_some (finmap.get (catalogue s.texts) q) ≡ true → finmap.get t.tables q ≡ finmap.get s.tables q
  last : (q : Name) → is_some (finmap.get (catalogue s.texts) q) ≡ true → finmap.get t.last q ≡ finmap.get s.last q

leaves_definition : (s : State) (text : List ℕ) (r : Result Definition CatalogFault) → judgement s text ≡ r → Leaves s (answer_definition text r s).1
leaves_definition s text (Err fault) j = record { tables = λ q h. refl; last = λ q h. refl }
leaves_definition s text (Ok (view name expr)) j = record { tables = λ q h. refl; last = λ q h. refl }
leaves_definition s text (Ok (table name columns deps P)) j =
    let free = (judged_ok (catalogue s.texts) (reading text) (table name columns deps P) j).1.0 in
    record {
      tables = λ q h. left_alone s.tables name (record { columns = columns; rows = set.empty }) q (other (catalogue s.texts) name q free h);
      last = λ q h. left_alone s.last name (s.version + 1) q (other (catalogue s.texts) name q free h);
    }

leaves : (s : State) (l : Line) (text : List ℕ) → request l ≡ Ok (define text) → Leaves s (answer s l).1
leaves s l text asked = subst (λ r. Leaves s r.1) (sym (answer_is s l text (judgement s text) asked refl)) (leaves_definition s text (judgement s text) refl)

pub tables_left : (s : State) → Valid s → (l : Line) (text : List ℕ) → request l ≡ Ok (define text) → (t : Name) → is_some (finmap.get s.tables t) ≡ true → finmap.get (answer s l).1.tables t ≡ finmap.get s.tables t
tables_left s v l text asked t h = (leaves s l text asked).tables t (stored_there t (finmap.get (catalogue s.texts) t) (finmap.get s.tables t) (v.tables t) h)

pub views_left : DefinitionsLeaveViews
views_left s v l text asked name L e =
    let w = leaves s l text asked in
    let bases = (lens_here s v name L e).known.bases in
    let there : (q : Name) → set.contains (tables_of L) q ≡ true → is_some (finmap.get (catalogue s.texts) q) ≡ true = bases_there (catalogue s.texts) L bases in (
      get_same L s.tables (answer s l).1.tables (λ q i. w.tables q (there q i)),
      latest_same (answer s l).1.last s.last (set.items (tables_of L)) (λ q i. w.last q (there q (set.contains-items (tables_of L) q ∙ i))),
    )
