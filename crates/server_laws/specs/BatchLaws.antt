-- The laws of batches of edits.
use Rattle.std.specs.Prelude.{◌≡◌, ◌↔◌, ◌⊎◌, ◌++◌, ℕ, false, List, [], ◌∷◌, length, Option, Some, Ok, Err}
use Rattle.std.specs.FinMap as finmap
use Rattle.plain_values.specs.SortedSet as set
use Rattle.lens_specs.specs.Common.{Name, IsOf, Tables, sort_of, get, tables_of, changes, differences, AreDeltas, LeadTo}
use Rattle.io_specs.specs.Lines.{Line}
use Rattle.catalog_specs.specs.Catalogue.{catalogue}
use Rattle.server_specs.specs.State.{State}
use Rattle.server_specs.specs.EditRefusal.{EditRefusal, in_remove, in_add}
use Rattle.server_specs.specs.Answer.{changed, told, in_edit}
use Rattle.server_specs.specs.Request.{BatchEdit, batch, edit, request}
use Rattle.server_specs.specs.Changing.{set_in}
use Rattle.server_specs.specs.Batching as batching
use Rattle.server_specs.specs.Batching.{edit_tables, edits_from, KnownEdit, known_view, with_known}
use Rattle.server_specs.specs.Answering.{answer}
use Rattle.server_specs.specs.Validity.{Valid}
use Rattle.server_laws.specs.Answers.{IsAccepted}

-- the line sends these edits, which rest on a version, if on any
abbrev pub IsBatchLine : Line → List BatchEdit → Option ℕ → Type 0
IsBatchLine l edits on = request l ≡ Ok (batch edits on)

-- ---- what is refused

-- the edits before the one at this place are taken, and this one is refused on the tables that they gave
pub record IsFirstRefused (s : State) (edits : List BatchEdit) (on : Option ℕ) (i : ℕ) (why : EditRefusal) : Type 0 where
  pub before : List BatchEdit
  pub here : BatchEdit
  pub after : List BatchEdit
  pub are : edits ≡ before ++ here ∷ after
  pub place : length before ≡ i
  pub db : Tables
  pub taken : edits_from 0 on s before s.tables ≡ Ok db
  pub refused : edit_tables here on (finmap.get (catalogue s.texts) here.view) s db ≡ Err why

-- a batch is refused exactly for the first edit that is refused, and that changes nothing
abbrev pub FirstRefusedIsTold : Type 0
FirstRefusedIsTold = (s : State) (l : Line) (edits : List BatchEdit) (on : Option ℕ) → IsBatchLine l edits on
    → (i : ℕ) (why : EditRefusal) → (answer s l ≡ (in_edit i why, s)) ↔ IsFirstRefused s edits on i why

-- and otherwise it is accepted
abbrev pub BatchesAcceptedOrRefused : Type 0
BatchesAcceptedOrRefused = (s : State) (l : Line) (edits : List BatchEdit) (on : Option ℕ) → IsBatchLine l edits on
    → IsAccepted (answer s l).0 ⊎ ((i : ℕ) × (why : EditRefusal) × (answer s l ≡ (in_edit i why, s)))

-- ---- what is accepted

-- the lenses and the sets of rows of the edits are these
abbrev pub AreKnown : State → List BatchEdit → List KnownEdit → Type 0
AreKnown s [] [] = Unit {0}
AreKnown s [] (k ∷ known) = ⊥
AreKnown s (e ∷ edits) [] = ⊥
AreKnown s (e ∷ edits) (k ∷ known) =
    (finmap.get (catalogue s.texts) e.view ≡ Some k.lens)
    × (set_in in_remove (sort_of k.lens).columns e.remove ≡ Ok k.remove) × (set_in in_add (sort_of k.lens).columns e.add ≡ Ok k.add)
    × AreKnown s edits known

-- an accepted batch makes the tables those after its edits, one after another, and tells how they differ from those before
abbrev pub BatchesAreMade : Type 0
BatchesAreMade = (s : State) → Valid s → (l : Line) (edits : List BatchEdit) (on : Option ℕ) → IsBatchLine l edits on → IsAccepted (answer s l).0
    → (known : List KnownEdit) × AreKnown s edits known
    × ((answer s l).1.tables ≡ batching.batch known s.tables)
    × ((answer s l).0 ≡ changed (differences (finmap.keys s.tables) s.tables (answer s l).1.tables) (answer s l).1.version)

-- what it tells are differences by rising names, none of them empty, that lead from the old tables to the new ones
abbrev pub BatchesLead : Type 0
BatchesLead = (s : State) → Valid s → (l : Line) (edits : List BatchEdit) (on : Option ℕ) → IsBatchLine l edits on → IsAccepted (answer s l).0
    → AreDeltas (differences (finmap.keys s.tables) s.tables (answer s l).1.tables)
    × LeadTo (differences (finmap.keys s.tables) s.tables (answer s l).1.tables) s.tables (answer s l).1.tables

-- An edit puts a new view of its lens's sort, which is then read; where it is the old view, the tables stay. The changes lead to the
-- tables after it, and the tables that are not the lens's stay.
pub record IsLawfulEdit (e : KnownEdit) (db : Tables) : Type 0 where
  pub sort : IsOf (known_view e db) (sort_of e.lens)
  pub put_get : get e.lens (with_known e db) ≡ known_view e db
  pub get_put : known_view e db ≡ get e.lens db → with_known e db ≡ db
  pub leads : LeadTo (changes e.lens (known_view e db) db) db (with_known e db)
  pub others : (table : Name) → set.contains (tables_of e.lens) table ≡ false → finmap.get (with_known e db) table ≡ finmap.get db table

-- each edit is lawful on the tables that those before it gave
abbrev pub AreLawful : List KnownEdit → Tables → Type 0
AreLawful [] db = Unit {0}
AreLawful (e ∷ others) db = IsLawfulEdit e db × AreLawful others (with_known e db)

-- each edit of an accepted batch is lawful
abbrev pub EditsAreLawful : Type 0
EditsAreLawful = (s : State) → Valid s → (l : Line) (edits : List BatchEdit) (on : Option ℕ) → IsBatchLine l edits on → IsAccepted (answer s l).0
    → (known : List KnownEdit) → AreKnown s edits known → AreLawful known s.tables

-- ---- small batches

-- no edit changes nothing
abbrev pub NoEditsChangeNothing : Type 0
NoEditsChangeNothing = (s : State) (l : Line) (on : Option ℕ) → IsBatchLine l [] on → answer s l ≡ (changed [] s.version, s)

-- nor do edits that leave the tables as they were
abbrev pub NothingMadeChangesNothing : Type 0
NothingMadeChangesNothing = (s : State) (l : Line) (edits : List BatchEdit) (on : Option ℕ) → IsBatchLine l edits on
    → edits_from 0 on s edits s.tables ≡ Ok s.tables → answer s l ≡ (changed [] s.version, s)

-- a batch of one edit is answered as the edit is; or both are refused, the batch at its place 0
abbrev pub OneEditIsAnEdit : Type 0
OneEditIsAnEdit = (s : State) → Valid s → (l m : Line) (e : BatchEdit) (on : Option ℕ) → IsBatchLine l (e ∷ []) on → request m ≡ Ok (edit e.view e.remove e.add on)
    → (answer s l ≡ answer s m) ⊎ ((why : EditRefusal) × (answer s l ≡ (in_edit 0 why, s)) × (answer s m ≡ (told why, s)))
