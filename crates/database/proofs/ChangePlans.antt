-- The plan of a change of tables.
use Rattle.std.proofs.Common.{◌≡◌, ◌∙◌, ◌+◌, ◌-◌, ℕ, suc, true, false, List, [], ◌∷◌, Some, ap, sym, subst, refl, arith, ◌≢◌, ◌==◌, IfOk, Result, Ok, Err, None, Vec, length, map, slice_get}
use Rattle.plain_values.proofs.Common.{nat_tests, Global}
use Rattle.no_memory.specs.declared.NoMemory.{NoMemory}
use Rattle.lens_specs.specs.Common.{TableDelta, rows, Tables, LeadTo, inverted}
use Rattle.lens_laws.proofs.Common.{are_differences}
use Rattle.base_index.specs.Held.{AllApply, with_deltas}
use Rattle.reply_printing.specs.Answers.{answer_view}
use Rattle.server_specs.specs.Answer as answers
use Rattle.server_specs.specs.Common.{accept, with_last, State, remember, undone, Valid}
use Rattle.server_laws.specs.KeptLaws.{KeptFollows}
use Rattle.server_laws.proofs.KeptStates.{led_is_kept}
use Rattle.server_laws.proofs.Led.{IsChangeTo, tables_change}
use Rattle.server_laws.proofs.Valid.{undo_leads, valid_accept, valid_undone}
use Rattle.signed_delta.specs.Tables.{table_delta}
use Rattle.signed_delta.specs.declared.delta.TableDelta.{TableDelta as DeltaOf}
use Rattle.table_keeper.specs.Changes.{change_view}
use Rattle.table_keeper.specs.declared.keeper.Change.TheVariants.{Rows as RowsChange}
use Rattle.database.specs.Plans.{CanAccept, CanStage, CanTake, IsChange, IsPlan, IsStaged, Leads, after, change_of, changed_tables, definition_of, last_after, past_after, texts_with}
use Rattle.database.specs.States.{state_of}
use Rattle.database.specs.declared.plan.PastStep.{PastStep}
use Rattle.database.specs.declared.plan.PastStep.TheVariants.{Gains, Loses}
use Rattle.database.specs.declared.plan.Plan.{Plan}
use Rattle.database.specs.declared.database.Database.{Database}

-- the changes that can be undone gain it
rows_gained : (kept : Vec DeltaOf Global) (cs : List TableDelta) (past : List (List TableDelta)) → map table_delta kept.items ≡ cs → remember cs past ≡ past_after Gains (RowsChange kept) past
rows_gained kept cs past are = ap (λ l. remember l past) (sym are)

-- a plan of these differences leads to a valid state, where they lead to its tables, and its other parts are those after them
led_planned : (database : Database) (plan : Plan) (step : PastStep) (ds : List TableDelta) (next : State) → IsChange ds step database plan → LeadTo ds database.tables.present.relations next.tables → Valid next
    → next.texts ≡ database.catalog.texts → next.version ≡ database.version + 1 → next.last ≡ with_last (database.version + 1) ds database.last
    → ((kept : Vec DeltaOf Global) → map table_delta kept.items ≡ ds → next.past ≡ past_after step (RowsChange kept) database.past)
    → IsPlan plan (answers.changed ds (database.version + 1), next) database
led_planned database plan step ds next p leads valid texts version last past =
    let s = state_of database in
    let staged = p.staged in
    let is : next ≡ after staged s = (λ i. record {
      texts = (texts ∙ ap (λ ch. texts_with (definition_of ch) s.texts) (sym p.change)) i;
      tables = (sym leads.1 ∙ ap (λ l. with_deltas l s.tables) (sym p.are) ∙ ap (λ ch. changed_tables ch s.tables) (sym p.change)) i;
      version = version i;
      last = (last ∙ ap (λ l. with_last (s.version + 1) l s.last) (sym p.are) ∙ ap (λ ch. last_after None (change_of ch) (s.version + 1) s.last) (sym p.change)
          ∙ ap (λ o. last_after o (change_of staged.change) (s.version + 1) s.last) (sym p.last)) i;
      past = (past p.kept p.are ∙ ap (λ ch. past_after step (change_of ch) s.past) (sym p.change) ∙ ap (λ q. past_after q (change_of staged.change) s.past) (sym p.past)) i;
    }) in
    let change : rows ds ≡ change_view (change_of staged.change) = ap rows (sym p.are) ∙ ap (λ ch. change_view (change_of ch)) (sym p.change) in
    let kept : KeptFollows (change_view (change_of staged.change)) s (after staged s) =
    subst (λ c. KeptFollows c s (after staged s)) change (subst (λ t. KeptFollows (rows ds) s t) is (led_is_kept s next ds leads texts)) in
    let ready : IsStaged staged database = record {
      tables = subst (λ ch. CanStage ch s.tables) (sym p.change) (subst (λ l. AllApply l s.tables) (sym p.are) leads.0);
      definition = subst (λ ch. CanTake (definition_of ch) database.catalog) (sym p.change) tt;
      kept = kept;
      valid = subst Valid is valid;
    } in
    record { answer = p.answer; leads = subst (λ o. Leads o next database) (sym p.is) (is, ready) }

-- where no table changes, nothing does
pub nothing_planned : (database : Database) (db : Tables) (plan : Plan) (cs ds : List TableDelta) → cs ≡ ds → ds ≡ [] → answer_view plan.answer ≡ answers.changed ds database.version → plan.staged ≡ None
    → IsPlan plan (accept db cs (state_of database)) database
nothing_planned database db plan cs ds is none answer staged =
    subst (λ l. IsPlan plan (accept db l (state_of database)) database) (sym (is ∙ none))
    (record { answer = answer ∙ ap (λ l. answers.changed l database.version) none; leads = subst (λ o. Leads o (state_of database) database) (sym staged) refl })

-- the tables become others of the catalogue
change_planned : (database : Database) (db : Tables) (plan : Plan) (d : TableDelta) (ds : List TableDelta) → Valid (state_of database) → IsChangeTo (state_of database) (d ∷ ds) db → IsChange (d ∷ ds) Gains database plan
    → IsPlan plan (accept db (d ∷ ds) (state_of database)) database
change_planned database db plan d ds v to p =
    led_planned database plan Gains (d ∷ ds) (accept db (d ∷ ds) (state_of database)).1 p to.leads (valid_accept (state_of database) (d ∷ ds) db v to) refl refl refl
    (λ kept are. rows_gained kept (d ∷ ds) database.past are)

-- what was found to change, by whether anything does
pub changes_planned : (database : Database) (db : Tables) (ds : List TableDelta) (result : Result Plan NoMemory) → Valid (state_of database) → IsChangeTo (state_of database) ds db → ds ≢ []
    → IfOk result (IsChange ds Gains database) → IfOk result (λ plan. IsPlan plan (accept db ds (state_of database)) database)
changes_planned database db [] result v to some h = absurd (some refl)
changes_planned database db (d ∷ ds) (Err e) v to some h = tt
changes_planned database db (d ∷ ds) (Ok plan) v to some h = change_planned database db plan d ds v to h

undo_is : (database : Database) (cs : List TableDelta) (plan : Plan) → Valid (state_of database) → slice_get database.past (length database.past - 1) ≡ Some cs → IsChange (inverted cs) Loses database plan
    → IsPlan plan (undone (Some cs) (state_of database)) database
undo_is database cs plan v is p =
    let s = state_of database in
    led_planned database plan Loses (inverted cs) (undone (Some cs) s).1 p (undo_leads s cs v is) (valid_undone s v (Some cs) is) refl refl refl (λ kept _. refl)

-- the last change is taken back
pub undo_planned : (database : Database) (cs ds : List TableDelta) (result : Result Plan NoMemory) → Valid (state_of database) → slice_get database.past (length database.past - 1) ≡ Some cs → ds ≡ inverted cs
    → IfOk result (IsChange ds Loses database) → IfOk result (λ plan. IsPlan plan (undone (slice_get database.past (length database.past - 1)) (state_of database)) database)
undo_planned database cs ds (Err e) v last is h = tt
undo_planned database cs ds (Ok plan) v last is h =
    subst (λ o. IsPlan plan (undone o (state_of database)) database) (sym last) (undo_is database cs plan v last (subst (λ l. IsChange l Loses database plan) is h))

-- differences by rising names, none of them empty, that lead to other tables of the catalogue
pub change_to : (database : Database) (db : Tables) (ds : List TableDelta) → Valid (state_of database) → CanAccept ds database db → IsChangeTo (state_of database) ds db
change_to database db ds v can =
    let s = state_of database in record {
      stored = can.stored;
      deltas = can.rising;
      leads = can.leads;
      back = subst (λ l. LeadTo (inverted l) db s.tables) (sym (are_differences ds s.tables db can.rising can.leads)) (tables_change s db v can.stored).back;
    }

no_length : (n : ℕ) → (suc n == 0) ≡ true → ⊥
no_length n e = grind (arith, nat_tests)

-- the list is empty where its length is 0, and only there
pub told_none : (ds : List DeltaOf) → (length ds == 0) ≡ true → map table_delta ds ≡ []
told_none [] e = refl
told_none (d ∷ ds) e = absurd (no_length (length ds) e)

pub told_some : (ds : List DeltaOf) → (length ds == 0) ≡ false → map table_delta ds ≢ []
told_some [] e is = cc
told_some (d ∷ ds) e is = cc
