-- Databases whose lenses have their indexes after a change.
use Rattle.std.proofs.Common.{◌≡◌, ◌∙◌, ◌++◌, ◌+◌, ◌<◌, ℕ, true, false, List, [], ◌∷◌, length, map, Option, Some, None, ap, is_some, sym, subst, refl, ◌^◌}
use Rattle.std.specs.FinMap as finmap
use Rattle.plain_values.proofs.Common.{Contains, eq_by_cmp, bytes_cmp}
use Rattle.fd_laws.proofs.Common.{tied_name}
use Rattle.lens_laws.proofs.Common.{asked, all_there}
use Rattle.lens_laws.proofs.Moves.{AllThere as TablesThere}
use Rattle.lens_specs.specs.Common.{Lens, Tables, TableDelta, Name, Names}
use Rattle.server_specs.specs.Common.{catalogue, State, Valid}
use Rattle.server_laws.proofs.Stored.{AreStored}
use Rattle.server_laws.proofs.Taken.{get-new, get-other}
use Rattle.server_laws.specs.StateLaws.{AreShort}
use Rattle.signed_delta.specs.Tables.{table_delta}
use Rattle.opened_view.specs.Moving.{AreThere}
use Rattle.base_index.proofs.Known.{still_indexed}
use Rattle.base_index.specs.Held as held
use Rattle.base_index.specs.Held.{Held, IsNew, IsQuiet, IsThere, is_indexed}
use Rattle.table_keeper.specs.declared.keeper.Change.{Change}
use Rattle.view_catalog.proofs.Growth.{grown_by}
use Rattle.view_catalog.specs.Admissions.{IsAdmissible}
use Rattle.view_catalog.specs.Contents.{Contents}
use Rattle.view_catalog.specs.declared.prepared.Prepared.{Prepared}
use Rattle.database.proofs.Grown.{AllIndexed, asked_there, now_indexed}
use Rattle.database.specs.Defining.{tables_with}
use Rattle.database.specs.Keyed.{IsKeyed}
use Rattle.database.specs.Plans.{CanMove, CanStage, CanTake, IsFree, IsStaged, after, change_of, changed_tables, definition_of, last_after, past_after, texts_with}
use Rattle.database.specs.Staging.{defined_by, needs_of, next_state, table_of}
use Rattle.database.specs.States.{state_of}
use Rattle.database.specs.declared.plan.Staged.{Staged}
use Rattle.database.specs.declared.plan.StagedChange.{StagedChange}
use Rattle.database.specs.declared.plan.StagedChange.TheVariants.{Define, Rows as RowsChange}
use Rattle.database.specs.declared.database.Database.{Database}

-- each table that a lens of the catalogue asks is there
abbrev AllThere : List (List ℕ) → held.State → Type 0
AllThere texts st = (name : Name) (L : Lens) → finmap.get (catalogue texts) name ≡ Some L → (t : Name) (C : Names) → Contains (asked L []) (t, C) → IsThere st t

-- ---- definitions

new_of : (table : Option Name) (L : Lens) (st : held.State) → IsFree table st.relations → IsNew (table_of table L) st
new_of None L st h = tt
new_of (Some name) L st h = h

-- the lens of a definition has its indexes, and each lens that was there keeps its own
pub definition_indexed : (texts : List (List ℕ)) (p : Prepared) (table : Option Name) (st : held.State) → IsAdmissible texts p → IsFree table st.relations → AllThere texts st
    → AllThere (texts ++ p.text ∷ []) (defined_by table p.lens st) → AllIndexed (catalogue texts) st → AllIndexed (catalogue (texts ++ p.text ∷ [])) (defined_by table p.lens st)
definition_indexed texts p table st a free there later all name L e t C i =
    let known = catalogue texts in
    let got : finmap.get (finmap.insert known p.name p.lens) name ≡ Some L = ap (λ k. finmap.get k name) (sym (grown_by texts p a)) ∙ e in
    elim (eq_by_cmp bytes_cmp name p.name) as (λ b. eq_by_cmp bytes_cmp name p.name ≡ b → is_indexed (defined_by table p.lens st) t C ≡ true) [
      | true ↦ λ tie.
          let both : Some p.lens ≡ Some L = sym (get-new known p.name p.lens) ∙ ap (finmap.get (finmap.insert known p.name p.lens)) (sym (tied_name name p.name tie)) ∙ got in
          let same : L ≡ p.lens = cc in
          now_indexed (table_of table p.lens) p.lens st (λ u D j. later name L e u D (subst (λ M. Contains (asked M []) (u, D)) (sym same) j)) t C (subst (λ M. Contains (asked M []) (t, C)) same i)
      | false ↦ λ other.
          let old : finmap.get known name ≡ Some L = sym (get-other known p.name p.lens name other) ∙ got in
          still_indexed (table_of table p.lens) (needs_of p.lens) st t C (new_of table p.lens st free) (there name L old t C i) (all name L old t C i)
    ] refl

-- the tables after a definition
pub definition_relations : (table : Option Name) (L : Lens) (st : held.State) → (defined_by table L st).relations ≡ tables_with table L st.relations
definition_relations None L st = refl
definition_relations (Some name) L st = refl

-- ---- changes

-- the tables after a change
pub next_relations : (change : StagedChange) (st : held.State) → (next_state change st).relations ≡ changed_tables change st.relations
next_relations (Define text table p) st = definition_relations table p.lens st
next_relations (RowsChange deltas) st = refl

short_more : (texts : List (List ℕ)) (text : List ℕ) → AreShort texts → length text < 2 ^ 64 → AreShort (texts ++ text ∷ [])
short_more [] text all h = (h, tt)
short_more (first ∷ texts) text all h = (all.0, short_more texts text all.1 h)

-- the texts after a change are short
change_short : (change : StagedChange) (texts : List (List ℕ)) (db : Tables) → CanStage change db → AreShort texts → AreShort (texts_with (definition_of change) texts)
change_short (Define text table p) texts db can short = short_more texts p.text short can.0
change_short (RowsChange deltas) texts db can short = short

-- each lens has its indexes after a change
change_indexed : (change : StagedChange) (catalog : Contents) (st : held.State) → CanStage change st.relations → CanTake (definition_of change) catalog → AllThere catalog.texts st
    → AllThere (texts_with (definition_of change) catalog.texts) (next_state change st) → AllIndexed (catalogue catalog.texts) st
    → AllIndexed (catalogue (texts_with (definition_of change) catalog.texts)) (next_state change st)
change_indexed (Define text table p) catalog st can take there later all = definition_indexed catalog.texts p table st take.1 can.1 there later all
change_indexed (RowsChange deltas) catalog st can take there later all = λ name L e. all name L e

-- the database is what a staged change makes of the old one
pub record Made (staged : Staged) (old new : Database) : Type 0 where
  pub texts : new.catalog.texts ≡ texts_with (definition_of staged.change) old.catalog.texts
  pub present : new.tables.present ≡ next_state staged.change old.tables.present
  pub quiet : IsQuiet new.tables
  pub held : new.tables.held ≡ old.tables.held
  pub version : new.version ≡ old.version + 1
  pub last : new.last ≡ last_after staged.last (change_of staged.change) (old.version + 1) old.last
  pub past : new.past ≡ past_after staged.past (change_of staged.change) old.past

-- it is made by the parts of the change, over the tables that were staged
pub made : (staged : Staged) (old new : Database) (mid : Held) (change : Change) (definition : Option Prepared) → change ≡ change_of staged.change → definition ≡ definition_of staged.change
    → mid ≡ record old.tables { next = next_state staged.change old.tables.present } → new.catalog.texts ≡ texts_with definition old.catalog.texts
    → new.tables ≡ record mid { present = mid.next } → new.version ≡ old.version + 1 → new.last ≡ last_after staged.last change (old.version + 1) old.last
    → new.past ≡ past_after staged.past change old.past → Made staged old new
made staged old new mid change definition is_change is_definition is_mid texts tables version last past = record {
  texts = texts ∙ ap (λ o. texts_with o old.catalog.texts) is_definition;
  present = ap (λ (t : Held). t.present) tables ∙ ap (λ (t : Held). t.next) is_mid;
  quiet = ap (λ (t : Held). t.next) tables ∙ sym (ap (λ (t : Held). t.present) tables);
  held = ap (λ (t : Held). t.held) tables ∙ ap (λ (t : Held). t.held) is_mid;
  version = version;
  last = last ∙ ap (λ o. last_after staged.last o (old.version + 1) old.last) is_change;
  past = past ∙ ap (λ o. past_after staged.past o old.past) is_change;
}

-- it leaves the lenses able to ask their tables
pub keyed_after : (staged : Staged) (old new : Database) → Valid (state_of old) → IsKeyed old → IsStaged staged old → Made staged old new → IsKeyed new
keyed_after staged old new v keyed h m =
    let more = texts_with (definition_of staged.change) old.catalog.texts in
    let next = next_state staged.change old.tables.present in
    let stored : AreStored (catalogue more) next.relations =
    subst (AreStored (catalogue more)) (sym (next_relations staged.change old.tables.present)) h.valid.tables in
    let all = change_indexed staged.change old.catalog old.tables.present h.tables h.definition
    (asked_there old.catalog.texts old.tables.present v.definitions v.tables) (asked_there more next h.valid.definitions stored) keyed.indexed in
    record {
      quiet = m.quiet;
      free = m.held ∙ keyed.free;
      short = subst AreShort (sym m.texts) (change_short staged.change old.catalog.texts old.tables.present.relations h.tables keyed.short);
      indexed = subst (AllIndexed (catalogue new.catalog.texts)) (sym m.present) (subst (λ ts. AllIndexed (catalogue ts) next) (sym m.texts) all);
    }

-- and its state is the one after the change
pub state_after : (staged : Staged) (old new : Database) → Made staged old new → state_of new ≡ after staged (state_of old)
state_after staged old new m =
    let tables : new.tables.present.relations ≡ changed_tables staged.change old.tables.present.relations =
    ap (λ (st : held.State). st.relations) m.present ∙ next_relations staged.change old.tables.present in
    (λ i. record { texts = m.texts i; tables = tables i; version = m.version i; last = m.last i; past = m.past i })

-- ---- the last changes

named : (last : finmap.FinMap bytes_cmp ℕ) (db : Tables) (ds : List TableDelta) → ((q : Name) → is_some (finmap.get last q) ≡ is_some (finmap.get db q)) → TablesThere ds db → AreThere last ds
named last db [] h there = tt
named last db (d ∷ ds) h there = (h d.table ∙ there.0, named last db ds h there.1)

-- each of the tables that a staged change changes has a last change
pub last_there : (change : StagedChange) (s : State) → Valid s → CanStage change s.tables → CanMove (change_of change) s.last
last_there (Define text table p) s v can = tt
last_there (RowsChange deltas) s v can = named s.last s.tables (map table_delta deltas.items) v.last (all_there (map table_delta deltas.items) s.tables can)

-- ---- a change that is dropped

-- tables that are staged and unstaged are as they were
pub unstaged_same : (tables mid back : Held) (next : held.State) → IsQuiet tables → mid ≡ record tables { next = next } → back ≡ record mid { next = mid.present } → back ≡ tables
unstaged_same tables mid back next quiet is_mid is_back =
    is_back ∙ ap (λ (t : Held). record t { next = t.present }) is_mid ∙ (λ i. record { present = tables.present; next = sym quiet i; held = tables.held })
