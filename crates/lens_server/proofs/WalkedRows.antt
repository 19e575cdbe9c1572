-- How many rows the tables of a lens have, and how many are walked for a change.
use Rattle.std.proofs.Common.{◌≡◌, ◌∙◌, ◌+◌, ◌≤◌, ◌||◌, ◌++◌, ℕ, Bool, true, false, cond, List, [], ◌∷◌, length, Option, Some, None, Result, Ok, Err, ap, sym, subst, refl, arith, ◌-◌, IfOk, slice_get, sum_by}
use Rattle.plain_values.proofs.Common.{true≢false, length-append, sum_by-cons, sum_by-le-sum_by, eq_by_cmp, bytes_cmp}
use Rattle.std.specs.FinMap as finmap
use Rattle.server_laws.proofs.Changes.{texts_settled, texts_batch, texts_undone}
use Rattle.no_memory.specs.declared.NoMemory.{NoMemory}
use Rattle.plain_values.specs.SortedSet as set
use Rattle.fd_laws.proofs.Common.{name_total, one_itself, tied_name, row_total}
use Rattle.lens_laws.proofs.Common.{IsTyped, count_of}
use Rattle.lens_specs.specs.Common.{Lens, Tables, base, drop, rename, rows_or_none, select, sort_of, tables_of, Name, Names, one, Relation, Rows, join}
use Rattle.server_specs.specs.Common.{Answer, import_settled, read_settled, edits_from, tested, BatchEdit, State}
use Rattle.csv_specs.specs.Sheets.{unsheet}
use Rattle.server_specs.specs.Batching.{batch_answer}
use Rattle.server_specs.specs.Undoing.{undo_answer}
use Rattle.base_index.specs.Held as held
use Rattle.lens_probe.specs.Reading.{rows_under}
use Rattle.lens_server.specs.Counting.{RisesBy, Walks, row_count}
use Rattle.lens_server.specs.Databases.{IsOpened, lens_of, tables_under}
use Rattle.opened_view.specs.declared.opened.Opened.{Opened}
use Rattle.database.specs.Plans.{IsPlan, Leads, definition_of, texts_with}
use Rattle.database.specs.Staging.{steps_in, steps_of}
use Rattle.database.proofs.Walked.{steps_few}
use Rattle.database.specs.declared.plan.Plan.{Plan}
use Rattle.database.specs.declared.plan.Staged.{Staged}
use Rattle.database.specs.declared.plan.StagedChange.{StagedChange}
use Rattle.database.specs.declared.plan.StagedChange.TheVariants.{Define, Rows as RowsChange}
use Rattle.database.specs.declared.database.Database.{Database}

-- ---- sums

module _ {A : Type 0} where
  -- so are two sums of numbers that are together smaller
  sums_less : (f g h : A → ℕ) (xs : List A) → ((x : A) → f x + g x ≤ h x) → sum_by f xs + sum_by g xs ≤ sum_by h xs
  sums_less f g h [] less = omega arith
  sums_less f g h (x ∷ xs) less = omega (arith, sum_by-cons f x xs, sum_by-cons g x xs, sum_by-cons h x xs, less x, sums_less f g h xs less)

-- ---- the rows under a lens

-- the number of rows of the entry, where its table is one of these
abbrev counted : Names → Name × Relation → ℕ
counted N e = cond (set.contains N e.0) (count_of e.1.rows) 0

-- a table has no more rows than the entries of its name
found_less : (t : Name) (es : List (Name × Relation)) → count_of (rows_or_none (finmap.find bytes_cmp t es)) ≤ sum_by (counted (one t)) es
found_less t [] =
    let none : count_of set.empty ≡ 0 = ap length (set.items-from_list row_total [] (set.nothing_rises row_total)) in
    omega (arith, none)
found_less t (e ∷ es) = elim (eq_by_cmp bytes_cmp t e.0) as (λ b. eq_by_cmp bytes_cmp t e.0 ≡ b
    → count_of (rows_or_none (cond b (Some e.1) (finmap.find bytes_cmp t es))) ≤ sum_by (counted (one t)) (e ∷ es)) [
      | true ↦ λ tie.
          let here : counted (one t) e ≡ count_of e.1.rows =
          ap (λ b. cond b (count_of e.1.rows) 0) (ap (set.contains (one t)) (sym (tied_name t e.0 tie)) ∙ one_itself t) in
          omega (arith, here, sum_by-cons (counted (one t)) e es)
      | false ↦ λ _. omega (arith, found_less t es, sum_by-cons (counted (one t)) e es)
    ] refl

one_of_two : (a b c : Bool) (n : ℕ) → (a ≡ true → b ≡ false) → c ≡ (a || b) → cond a n 0 + cond b n 0 ≤ cond c n 0
one_of_two true true c n d u = absurd (true≢false (d refl))
one_of_two true false true n d u = omega arith
one_of_two true false false n d u = cc
one_of_two false true true n d u = omega arith
one_of_two false true false n d u = cc
one_of_two false false c n d u = omega arith

-- the tables of a lens have at least the rows under it
under_less : (L : Lens) (db : Tables) → IsTyped L → rows_under L db ≤ sum_by (counted (tables_of L)) (finmap.entries db)
unfolding tables_of
under_less (base t s) db h = subst (λ o. count_of (rows_or_none o) ≤ sum_by (counted (one t)) (finmap.entries db)) (sym (finmap.get-entries db t)) (found_less t (finmap.entries db))
under_less (select P L) db h = under_less L db h.0
under_less (drop A X a L) db h = under_less L db h.0
under_less (rename A B L) db h = under_less L db h.0
under_less (join kind A B) db h =
    let both = sums_less (counted (tables_of A)) (counted (tables_of B)) (counted (set.union (tables_of A) (tables_of B))) (finmap.entries db)
    (λ e. one_of_two (set.contains (tables_of A) e.0) (set.contains (tables_of B) e.0) (set.contains (set.union (tables_of A) (tables_of B)) e.0) (count_of e.1.rows)
    (h.3 e.0) (set.contains-union name_total (tables_of A) (tables_of B) e.0)) in
    omega (arith, under_less A db h.0, under_less B db h.1, both)

some_less : (b : Bool) (n : ℕ) → cond b n 0 ≤ n
some_less true n = omega arith
some_less false n = omega arith

-- and all tables have no fewer
pub under_few : (L : Lens) (db : Tables) → IsTyped L → rows_under L db ≤ row_count db
under_few L db h =
    let few = sum_by-le-sum_by (counted (tables_of L)) (λ e. count_of e.1.rows) (finmap.entries db) (λ e. some_less (set.contains (tables_of L) e.0) (count_of e.1.rows)) in
    omega (arith, under_less L db h, few)

-- to read a view of the database walks no more
pub read_few : (database : Database) (opened : Opened) (old new : ℕ) → IsOpened opened database → RisesBy (rows_under (lens_of opened) (tables_under opened)) old new → RisesBy (row_count database.tables.present.relations) old new
read_few database opened old new h walked =
    let few = under_few (lens_of opened) database.tables.present.relations h.here.here.typed in
    let there : new ≤ old + rows_under (lens_of opened) database.tables.present.relations = subst (λ t. new ≤ old + rows_under (lens_of opened) t.present.relations) h.tables walked.1 in
    (walked.0, omega (arith, few, there))

-- ---- rows that are walked for a change

longer : (texts : List (List ℕ)) (text : List ℕ) → texts ++ text ∷ [] ≡ texts → ⊥
longer texts text e = let n = ap length e in let m = length-append texts (text ∷ []) in absurd (omega (arith, n, m))

undefined_steps : (change : StagedChange) (st : held.State) (texts : List (List ℕ)) → texts_with (definition_of change) texts ≡ texts → steps_in change st ≡ 0
undefined_steps (Define text table p) st texts e = absurd (longer texts p.text e)
undefined_steps (RowsChange deltas) st texts e = refl

-- none is walked where no text is added
steps_none : (o : Option Staged) (next : State) (database : Database) → Leads o next database → next.texts ≡ database.catalog.texts → steps_of o database ≡ 0
steps_none None next database l e = refl
steps_none (Some staged) next database l e = undefined_steps staged.change database.tables.present database.catalog.texts (sym (ap (λ s. s.texts) l.0) ∙ e)

-- ---- changes of views add no text

read_texts : (r : Result Rows ℕ) (on : Option ℕ) (L : Lens) (s : State) → (read_settled r on L s).1.texts ≡ s.texts
read_texts (Err place) on L s = refl
read_texts (Ok rows) on L s = texts_settled (tested s L on (Ok rows)) L s

-- nor does an import
pub import_texts : (o : Option Name) (text : List ℕ) (on : Option ℕ) (L : Lens) (s : State) → (import_settled o text on L s).1.texts ≡ s.texts
import_texts (Some name) text on L s = refl
import_texts None text on L s = read_texts (unsheet (sort_of L).columns text) on L s

-- nor does a batch
pub batch_texts : (edits : List BatchEdit) (on : Option ℕ) (s : State) → (batch_answer edits on s).1.texts ≡ s.texts
batch_texts edits on s = texts_batch (edits_from 0 on s edits s.tables) s

-- nor an undo
pub undo_texts : (s : State) → (undo_answer s).1.texts ≡ s.texts
undo_texts s = texts_undone (slice_get s.past (length s.past - 1)) s

-- what was walked for the plan of such a change is all that is walked for it
pub change_walks : (result : Result Plan NoMemory) (expected : Answer × State) (database : Database) (old new most : ℕ) → IfOk result (λ plan. IsPlan plan expected database)
    → expected.1.texts ≡ database.catalog.texts → new ≤ old + most → Walks result database old new most
change_walks (Ok plan) expected database old new most p e h = omega (arith, steps_none plan.staged expected.1 database p.leads e, h)
change_walks (Err e) expected database old new most p t h = h

-- a definition walks the tables once, when it is settled
pub definition_walks : (result : Result Plan NoMemory) (database : Database) (old most : ℕ) → row_count database.tables.present.relations ≤ most → Walks result database old old most
definition_walks (Ok plan) database old most h = omega (arith, steps_few plan.staged database, h)
definition_walks (Err e) database old most h = omega arith
