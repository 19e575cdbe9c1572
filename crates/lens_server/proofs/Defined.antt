-- What a definition that was prepared makes of the state.
use Rattle.std.proofs.Common.{◌^◌, Option, is_some, length, ◌≡◌, ◌∙◌, ◌+◌, ◌<◌, ℕ, false, List, [], ◌∷◌, ◌++◌, ap, sym, subst, refl, Some, None, Ok, if◌then◌else◌}
use Rattle.lens_specs.specs.Common.{CanChange, Columns, TableDelta, Edge, Lens, Name, Predicate, define}
use Rattle.server_laws.proofs.Kept.{get-rows_of, is_some-rows}
use Rattle.server_specs.specs.State.{kept as kept_of}
use Rattle.table_keeper.specs.declared.keeper.Change.{Change}
use Rattle.database.specs.Plans.{CanStage, IsFree, change_of, changed_tables, definition_of, past_after}
use Rattle.database.specs.declared.plan.PastStep.{PastStep}
use Rattle.database.specs.declared.plan.PastStep.TheVariants.{Stays}
use Rattle.std.specs.FinMap as finmap
use Rattle.grammar_specs.specs.Common.{Definition, Expr, table, view}
use Rattle.grammar_laws.specs.Reading.{reading}
use Rattle.server_specs.specs.Common.{catalogue, is_table_of, table_lens, with_lens, judged, defined, answer_definition, with_defined, State, Valid}
use Rattle.request_text.specs.Answers.{answer_view}
use Rattle.server_specs.specs.Defining.{define_answer}
use Rattle.server_laws.specs.KeptLaws.{KeptFollows, table_made}
use Rattle.server_laws.proofs.KeptStates.{definitions_kept}
use Rattle.server_laws.proofs.Stored.{name_same}
use Rattle.server_laws.proofs.Taken.{all_known, get-new, judged_ok, lens_is, lens_is_known, not_own}
use Rattle.server_laws.proofs.Valid.{known_after, valid_taken}
use Rattle.table_keeper.specs.Changes.{change_view}
use Rattle.view_catalog.specs.Admissions.{IsAdmissible, table_in}
use Rattle.view_catalog.specs.Judgements.{name_in}
use Rattle.view_catalog.specs.declared.prepared.Prepared.{Prepared}
use Rattle.database.specs.Defining.{last_with, tables_with}
use Rattle.database.specs.Plans.{CanTake, IsPlan, IsStaged, Leads, after, last_after, texts_with}
use Rattle.database.specs.States.{state_of}
use Rattle.database.specs.declared.plan.Plan.{Plan}
use Rattle.database.specs.declared.plan.Staged.{Staged}
use Rattle.database.specs.declared.plan.StagedChange.TheVariants.{Define}
use Rattle.database.specs.declared.database.Database.{Database}

-- the tables, the last changes and the table's name are those of the definition
record IsMade (s : State) (prepared : Prepared) (d : Definition) : Type 0 where
  tables : tables_with (table_in prepared.name prepared.lens) prepared.lens s.tables ≡ (with_defined prepared.text d s).tables
  last : last_with (table_in prepared.name prepared.lens) (s.version + 1) s.last ≡ (with_defined prepared.text d s).last
  table : table_in prepared.name prepared.lens ≡ table_made d

table_is_made : (s : State) (prepared : Prepared) (name : Name) (columns : Columns) (deps : List Edge) (P : Predicate) → prepared.name ≡ name
    → prepared.lens ≡ table_lens name columns deps P → IsMade s prepared (table name columns deps P)
table_is_made s prepared name columns deps P n l =
    let t : table_in prepared.name prepared.lens ≡ Some name = (λ i. table_in (n i) (l i)) ∙ ap (λ b. if b then Some name else None) (name_same name) in record {
      tables = (λ i. tables_with (t i) (l i) s.tables);
      last = ap (λ o. last_with o (s.version + 1) s.last) t;
      table = t;
    }

view_is_made : (s : State) (prepared : Prepared) (name : Name) (expr : Expr) (L : Lens) → prepared.name ≡ name → prepared.lens ≡ L → is_table_of name L ≡ false
    → IsMade s prepared (view name expr)
view_is_made s prepared name expr L n l other =
    let t : table_in prepared.name prepared.lens ≡ None = (λ i. table_in (n i) (l i)) ∙ ap (λ b. if b then Some name else None) other in record {
      tables = ap (λ o. tables_with o prepared.lens s.tables) t;
      last = ap (λ o. last_with o (s.version + 1) s.last) t;
      table = t;
    }

is_made : (s : State) (prepared : Prepared) (d : Definition) → Valid s → judged (catalogue s.texts) (reading prepared.text) ≡ Ok d → name_in d ≡ prepared.name
    → finmap.get (catalogue (s.texts ++ prepared.text ∷ [])) prepared.name ≡ Some prepared.lens → IsMade s prepared d
is_made s prepared (table name columns deps P) v j n l =
    let got : Some (table_lens name columns deps P) ≡ Some prepared.lens =
    sym (get-new (catalogue s.texts) name (table_lens name columns deps P)) ∙ ap (λ k. finmap.get k name) (sym (known_after s prepared.text (table name columns deps P) j))
    ∙ ap (finmap.get (catalogue (s.texts ++ prepared.text ∷ []))) n ∙ l in
    let is : prepared.lens ≡ table_lens name columns deps P = cc in
    table_is_made s prepared name columns deps P (sym n) is
is_made s prepared (view name expr) v j n l =
    let known = catalogue s.texts in
    let all = all_known s.texts v.definitions in
    let taken = (judged_ok known (reading prepared.text) (view name expr) j).1 in
    let k = lens_is_known known all expr taken.1.0 taken.1.1 in
    let got : Some taken.1.0 ≡ Some prepared.lens =
    sym (get-new known name taken.1.0) ∙ ap (λ m. finmap.get m name) (sym (known_after s prepared.text (view name expr) j ∙ ap (λ o. with_lens name o known) (lens_is known expr taken.1.0 taken.1.1)))
    ∙ ap (finmap.get (catalogue (s.texts ++ prepared.text ∷ []))) n ∙ l in
    let is : prepared.lens ≡ taken.1.0 = cc in
    view_is_made s prepared name expr taken.1.0 (sym n) is (not_own known name taken.0 taken.1.0 k.bases)

defined_is : (text : List ℕ) (d : Definition) (s : State)
    → with_defined text d s ≡ record { texts = s.texts ++ text ∷ []; tables = (with_defined text d s).tables; version = s.version + 1; last = (with_defined text d s).last; past = s.past }
defined_is text (table name columns deps P) s = refl
defined_is text (view name expr) s = refl

-- a table that the kept contents can take is not there yet
free_of : (text : List ℕ) (o : Option Name) (s : State) → CanChange (define text o) (kept_of s) → IsFree o s.tables
free_of text None s h = tt
free_of text (Some name) s h = sym (is_some-rows (finmap.get s.tables name)) ∙ ap is_some (sym (get-rows_of s.tables name)) ∙ h

-- the changes that can be undone stay
past_stays : (step : PastStep) (change : Change) (past : List (List TableDelta)) → Stays ≡ step → past ≡ past_after step change past
past_stays step change past e = ap (λ p. past_after p change past) e

-- the plan that the catalogue takes a definition
pub definition_planned : (database : Database) (prepared : Prepared) (plan : Plan) (staged : Staged) → Valid (state_of database) → 0 < database.catalog.room → IsAdmissible database.catalog.texts prepared
    → answer_view plan.answer ≡ defined (database.version + 1) → plan.staged ≡ Some staged
    → staged.change ≡ Define prepared.text (table_in prepared.name prepared.lens) prepared → length prepared.text < 2 ^ 64
    → staged.last ≡ Some (last_with (table_in prepared.name prepared.lens) (database.version + 1) database.last) → staged.past ≡ Stays
    → IsPlan plan (define_answer prepared.text (state_of database)) database
definition_planned database prepared plan staged v room a answer is change short last past =
    let s = state_of database in
    let d = a.definition in
    let made = is_made s prepared d v a.taken a.named a.lens in
    let name = table_in prepared.name prepared.lens in
    let next : with_defined prepared.text d s ≡ after staged s =
    defined_is prepared.text d s ∙ (λ i. record {
      texts = texts_with (definition_of (sym change i)) s.texts;
      tables = (sym made.tables ∙ ap (λ ch. changed_tables ch s.tables) (sym change)) i;
      version = s.version + 1;
      last = (sym made.last ∙ ap (λ o. last_after o (change_of staged.change) (s.version + 1) s.last) (sym last)) i;
      past = past_stays staged.past (change_of staged.change) s.past (sym past) i;
    }) in
    let defines : change_view (change_of staged.change) ≡ define prepared.text name = ap (λ ch. change_view (change_of ch)) change in
    let changed : define prepared.text (table_made d) ≡ change_view (change_of staged.change) = ap (define prepared.text) (sym made.table) ∙ sym defines in
    let follows : KeptFollows (change_view (change_of staged.change)) s (after staged s) =
    subst (λ c. KeptFollows c s (after staged s)) changed
    (subst (λ t. KeptFollows (define prepared.text (table_made d)) s t) next (definitions_kept s v prepared.text d a.taken)) in
    let free : IsFree name s.tables = free_of prepared.text name s (subst (λ c. CanChange c (kept_of s)) defines follows.1) in
    let ready : IsStaged staged database = record {
      tables = subst (λ ch. CanStage ch s.tables) (sym change) (short, free);
      definition = subst (λ ch. CanTake (definition_of ch) database.catalog) (sym change) (room, a);
      kept = follows;
      valid = subst Valid next (valid_taken s prepared.text d v a.taken (judged_ok (catalogue s.texts) (reading prepared.text) d a.taken).1);
    } in
    subst (λ r. IsPlan plan (answer_definition prepared.text r s) database) (sym a.taken)
    (record { answer = answer; leads = subst (λ o. Leads o (with_defined prepared.text d s) database) (sym is) (next, ready) })
