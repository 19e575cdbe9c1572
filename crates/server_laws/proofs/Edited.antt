-- Edits of a batch, one after another.
use Rattle.std.proofs.Common.{◌≡◌, ℕ, suc, List, [], ◌∷◌, Option, Some, None, Result, Ok, Err, subst, refl}
use Rattle.std.specs.FinMap as finmap
use Rattle.lens_laws.proofs.Common.{get_after}
use Rattle.lens_specs.specs.Common.{Lens, Tables, put, sort_of, Rows, IsOf}
use Rattle.server_specs.specs.Common.{catalogue, State, EditRefusal, BatchEdit, at_tables, edit_tables, edits_from, put_in, then_edits, asked_view, edited, AreStored, Valid}
use Rattle.server_laws.proofs.Asked.{asked_typed}
use Rattle.server_laws.proofs.Stored.{IsHere, lens_over, stored_put}

-- ---- one edit

-- the edit puts a new view of its lens, which is of the lens's sort
pub record IsEdited (s : State) (e : BatchEdit) (on : Option ℕ) (db new : Tables) : Type 0 where
  pub lens : Lens
  pub known : finmap.get (catalogue s.texts) e.view ≡ Some lens
  pub here : IsHere (at_tables s db) lens
  pub view : Rows
  pub asked : asked_view (at_tables s db) lens (edited e.remove e.add) on ≡ Ok view
  pub typed : IsOf view (sort_of lens)
  pub is : put lens view db ≡ new

pub put_ok : (r : Result Rows EditRefusal) (L : Lens) (db new : Tables) → put_in r L db ≡ Ok new → (N : Rows) × (r ≡ Ok N) × (put L N db ≡ new)
put_ok (Err why) L db new e = cc
put_ok (Ok N) L db new e = (N, refl, cc)

edit_by : (s : State) → Valid s → (e : BatchEdit) (on : Option ℕ) (o : Option Lens) (db new : Tables) → finmap.get (catalogue s.texts) e.view ≡ o → AreStored (catalogue s.texts) db
    → edit_tables e on o s db ≡ Ok new → IsEdited s e on db new
edit_by s v e on None db new is stored ok = cc
edit_by s v e on (Some L) db new is stored ok =
    let here = lens_over (at_tables s db) v.definitions stored e.view L is in
    let w = put_ok (asked_view (at_tables s db) L (edited e.remove e.add) on) L db new ok in
    record { lens = L; known = is; here = here; view = w.0; asked = w.1; typed = asked_typed (at_tables s db) L here (edited e.remove e.add) on w.0 w.1; is = w.2 }

pub edit_is : (s : State) → Valid s → (e : BatchEdit) (on : Option ℕ) (db new : Tables) → AreStored (catalogue s.texts) db → edit_tables e on (finmap.get (catalogue s.texts) e.view) s db ≡ Ok new → IsEdited s e on db new
edit_is s v e on db new stored ok = edit_by s v e on (finmap.get (catalogue s.texts) e.view) db new refl stored ok

-- the tables after it are those of the catalogue
pub edit_stored : (s : State) (e : BatchEdit) (on : Option ℕ) (db new : Tables) → AreStored (catalogue s.texts) db → IsEdited s e on db new → AreStored (catalogue s.texts) new
edit_stored s e on db new stored h = subst (AreStored (catalogue s.texts)) h.is
    (stored_put (catalogue s.texts) db h.lens h.view stored h.here.known.bases (get_after h.lens db h.here.typed h.here.are h.view h.typed).0)

-- ---- one after another

pub then_ok : (i : ℕ) (others : Tables → Result Tables (ℕ × EditRefusal)) (r : Result Tables EditRefusal) (new : Tables) → then_edits i others r ≡ Ok new
    → (db : Tables) × (r ≡ Ok db) × (others db ≡ Ok new)
then_ok i others (Err why) new e = cc
then_ok i others (Ok db) new e = (db, refl, e)

pub edits_stored : (s : State) → Valid s → (i : ℕ) (on : Option ℕ) (edits : List BatchEdit) (db new : Tables) → AreStored (catalogue s.texts) db → edits_from i on s edits db ≡ Ok new → AreStored (catalogue s.texts) new
edits_stored s v i on [] db new stored e = let is : db ≡ new = cc in subst (AreStored (catalogue s.texts)) is stored
edits_stored s v i on (b ∷ edits) db new stored e =
    let w = then_ok i (edits_from (suc i) on s edits) (edit_tables b on (finmap.get (catalogue s.texts) b.view) s db) new e in
    edits_stored s v (suc i) on edits w.0 new (edit_stored s b on db w.0 stored (edit_is s v b on db w.0 stored w.1)) w.2
