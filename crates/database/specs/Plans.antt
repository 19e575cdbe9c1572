-- Plans: the answer to a request, and the change that is made before it is given.
use Rattle.std.specs.Prelude.{◌≡◌, ◌<◌, ◌+◌, ◌-◌, ◌^◌, ℕ, false, List, [], ◌∷◌, ◌++◌, length, map, take, Option, Some, None, is_some, Vec}
use Rattle.std.specs.declared.alloc.Global.{Global}
use Rattle.std.specs.FinMap as finmap
use Rattle.lens_specs.specs.Common.{TableDelta, Tables, Name, AreDeltas, LeadTo}
use Rattle.plain_values.specs.Order.{bytes_cmp}
use Rattle.base_index.specs.Held.{AllApply, with_deltas}
use Rattle.catalog_specs.specs.Catalogue.{catalogue}
use Rattle.reply_printing.specs.Answers.{answer_view}
use Rattle.server_specs.specs.Answer.{Answer, changed}
use Rattle.server_specs.specs.Changing.{with_last}
use Rattle.server_specs.specs.State.{State, remember}
use Rattle.server_specs.specs.Validity.{AreStored, Valid}
use Rattle.server_laws.specs.KeptLaws.{KeptFollows}
use Rattle.signed_delta.specs.Tables.{table_delta}
use Rattle.opened_view.specs.Moving.{AreThere}
use Rattle.signed_delta.specs.declared.delta.TableDelta.{TableDelta as DeltaOf}
use Rattle.table_keeper.specs.Changes.{change_view}
use Rattle.table_keeper.specs.declared.keeper.Change.{Change}
use Rattle.table_keeper.specs.declared.keeper.Change.TheVariants.{Define, Rows}
use Rattle.view_catalog.specs.Admissions.{IsAdmissible}
use Rattle.view_catalog.specs.Contents.{Contents}
use Rattle.view_catalog.specs.declared.prepared.Prepared.{Prepared}
use Rattle.database.specs.Defining.{tables_with}
use Rattle.database.specs.States.{state_of}
use Rattle.database.specs.declared.plan.PastStep.{PastStep}
use Rattle.database.specs.declared.plan.PastStep.TheVariants.{Stays, Gains, Loses}
use Rattle.database.specs.declared.plan.Plan.{Plan}
use Rattle.database.specs.declared.plan.Staged.{Staged}
use Rattle.database.specs.declared.plan.StagedChange.{StagedChange}
use Rattle.database.specs.declared.plan.StagedChange.TheVariants as staged_change
use Rattle.database.specs.declared.database.Database.{Database}

-- what the keeper makes of its contents
abbrev pub change_of : StagedChange → Change
change_of (staged_change.Define text table prepared) = Define text table
change_of (staged_change.Rows deltas) = Rows deltas

-- the definition that the catalogue takes, if there is one
abbrev pub definition_of : StagedChange → Option Prepared
definition_of (staged_change.Define text table prepared) = Some prepared
definition_of (staged_change.Rows deltas) = None

-- the texts, and the definition's, if there is one
abbrev pub texts_with : Option Prepared → List (List ℕ) → List (List ℕ)
texts_with None texts = texts
texts_with (Some prepared) texts = texts ++ prepared.text ∷ []

-- the tables after a change
abbrev pub changed_tables : StagedChange → Tables → Tables
changed_tables (staged_change.Define text table prepared) tables = tables_with table prepared.lens tables
changed_tables (staged_change.Rows deltas) tables = with_deltas (map table_delta deltas.items) tables

-- the changes that can be undone, after a change
abbrev pub past_after : PastStep → Change → List (List TableDelta) → List (List TableDelta)
past_after Stays change past = past
past_after Gains (Rows deltas) past = remember (map table_delta deltas.items) past
past_after Gains (Define text table) past = past
past_after Loses change past = take (length past - 1) past

-- the last changes
abbrev pub LastOf : Type 0
LastOf = finmap.FinMap bytes_cmp ℕ

-- the last changes after a change: those that a definition brings along, or each of the changed tables' at the version
abbrev pub last_after : Option LastOf → Change → ℕ → LastOf → LastOf
last_after (Some last) change version old = last
last_after None (Rows deltas) version old = with_last version (map table_delta deltas.items) old
last_after None (Define text table) version old = old

-- each of the changed tables has a last change
abbrev pub CanMove : Change → LastOf → Type 0
CanMove (Rows deltas) last = AreThere last (map table_delta deltas.items)
CanMove (Define text table) last = Unit {0}

-- the state after a change
abbrev pub after : Staged → State → State
after staged s = record {
  texts = texts_with (definition_of staged.change) s.texts;
  tables = changed_tables staged.change s.tables;
  version = s.version + 1;
  last = last_after staged.last (change_of staged.change) (s.version + 1) s.last;
  past = past_after staged.past (change_of staged.change) s.past;
}

-- the catalogue can take the definition, if there is one, without memory
abbrev pub CanTake : Option Prepared → Contents → Type 0
CanTake None catalog = Unit {0}
CanTake (Some prepared) catalog = (0 < catalog.room) × IsAdmissible catalog.texts prepared

-- there is no table of this name yet, if it is one
abbrev pub IsFree : Option Name → Tables → Type 0
IsFree None tables = Unit {0}
IsFree (Some name) tables = is_some (finmap.get tables name) ≡ false

-- the tables can stage the change: a definition's text is short and its table, if it is one, is new, or the differences apply
abbrev pub CanStage : StagedChange → Tables → Type 0
CanStage (staged_change.Define text table prepared) tables = (length prepared.text < 2 ^ 64) × IsFree table tables
CanStage (staged_change.Rows deltas) tables = AllApply (map table_delta deltas.items) tables

-- The change can be made: the tables can stage it, the catalogue can take the definition, the keeper's contents follow, and the
-- state after it is valid.
pub record IsStaged (staged : Staged) (database : Database) : Type 0 where
  pub tables : CanStage staged.change database.tables.present.relations
  pub definition : CanTake (definition_of staged.change) database.catalog
  pub kept : KeptFollows (change_view (change_of staged.change)) (state_of database) (after staged (state_of database))
  pub valid : Valid (after staged (state_of database))

-- the change leads to the state, or there is none and the state is the present one
abbrev pub Leads : Option Staged → State → Database → Type 0
Leads None next database = next ≡ state_of database
Leads (Some staged) next database = (next ≡ after staged (state_of database)) × IsStaged staged database

-- the plan has the answer, and leads to the state after it
pub record IsPlan (plan : Plan) (expected : Answer × State) (database : Database) : Type 0 where
  pub answer : answer_view plan.answer ≡ expected.0
  pub leads : Leads plan.staged expected.1 database

-- the plan is that of some answer
abbrev pub IsPlanned : Plan → Database → Type 0
IsPlanned plan database = (expected : Answer × State) × IsPlan plan expected database

-- The plan tells these differences with the next version, and they are its change, each changed table last changed then; the
-- changes that can be undone gain or lose it.
pub record IsChange (deltas : List TableDelta) (step : PastStep) (database : Database) (plan : Plan) : Type 0 where
  pub answer : answer_view plan.answer ≡ changed deltas (database.version + 1)
  pub kept : Vec DeltaOf Global
  pub are : map table_delta kept.items ≡ deltas
  pub staged : Staged
  pub is : plan.staged ≡ Some staged
  pub change : staged.change ≡ staged_change.Rows kept
  pub last : staged.last ≡ None
  pub past : staged.past ≡ step

-- differences of tables by rising names, none of them empty, lead from the tables of the database to these, which are its catalogue's
pub record CanAccept (deltas : List TableDelta) (database : Database) (db : Tables) : Type 0 where
  pub stored : AreStored (catalogue database.catalog.texts) db
  pub rising : AreDeltas deltas
  pub leads : LeadTo deltas database.tables.present.relations db
