-- No update is lost: a change that rests on a version at which the view was read or exported finds the view as it was then.
use Rattle.std.specs.Prelude.{◌≡◌, ◌⊎◌, ℕ, List, [], ◌∷◌, ◌++◌, Some, Ok}
use Rattle.lens_specs.specs.Relation.{Name, Rows}
use Rattle.io_specs.specs.Lines.{Line}
use Rattle.server_specs.specs.State.{State}
use Rattle.server_specs.specs.Answer.{exported, shown}
use Rattle.server_specs.specs.Request.{BatchEdit, batch, export, import, read, request}
use Rattle.server_specs.specs.Changing.{Sent}
use Rattle.server_specs.specs.Answering.{answer}
use Rattle.server_specs.specs.Session.{Exchange, Session, last_state}
use Rattle.server_specs.specs.Validity.{Valid}
use Rattle.server_laws.specs.Answers.{IsAccepted}
use Rattle.server_laws.specs.ChangeLaws.{change_request}

-- one of the edits is of the view
abbrev pub HasEditOf : Name → List BatchEdit → Type 0
HasEditOf name [] = ⊥
HasEditOf name (e ∷ edits) = (e.view ≡ name) ⊎ HasEditOf name edits

-- the line changes the view and rests on the version: by a put or an edit, by an import, or by a batch with an edit of the view
pub data ChangesOn (l : Line) (name : Name) (version : ℕ) : Type 0 where
  by_itself : (sent : Sent) → request l ≡ Ok (change_request sent name (Some version)) → ChangesOn l name version
  by_import : (csv : List ℕ) → request l ≡ Ok (import name csv (Some version)) → ChangesOn l name version
  in_batch : (edits : List BatchEdit) → request l ≡ Ok (batch edits (Some version)) → HasEditOf name edits → ChangesOn l name version

-- After some exchanges from s on, e reads the view of the name, which shows these rows at this version; and after some more, f
-- changes the view, rests on this version, and is accepted.
pub record RestsOnRead (s : State) (before : List Exchange) (e : Exchange) (between : List Exchange) (f : Exchange) (name : Name) (rows : Rows) (version : ℕ) : Type 0 where
  pub asked : request e.line ≡ Ok (read name)
  pub told : (answer (last_state s before) e.line).0 ≡ shown rows version
  pub rests : ChangesOn f.line name version
  pub accepted : IsAccepted (answer (last_state e.state between) f.line).0

-- In each session from a valid state, where a change rests on a version at which the view was read, and is accepted, the view has
-- the rows that were read just before the change.
abbrev pub NoUpdateIsLost : Type 0
NoUpdateIsLost = (s : State) (count : ℕ) (lines : List Line) (replies : List (List ℕ)) (last : State) (count' : ℕ) → Valid s
    → (session : Session s count lines replies last count') → (before between after : List Exchange) (e f : Exchange)
    → session.exchanges ≡ before ++ e ∷ (between ++ f ∷ after) → (name : Name) (rows : Rows) (version : ℕ) → RestsOnRead s before e between f name rows version
    → (answer (last_state e.state between) e.line).0 ≡ shown rows (last_state e.state between).version

-- After some exchanges from s on, e exports the view of the name, and is answered with this text at this version; and after some
-- more, f changes the view, rests on this version, and is accepted.
pub record RestsOnExport (s : State) (before : List Exchange) (e : Exchange) (between : List Exchange) (f : Exchange) (name : Name) (csv : List ℕ) (version : ℕ) : Type 0 where
  pub asked : request e.line ≡ Ok (export name)
  pub told : (answer (last_state s before) e.line).0 ≡ exported csv version
  pub rests : ChangesOn f.line name version
  pub accepted : IsAccepted (answer (last_state e.state between) f.line).0

-- In each session from a valid state, where a change rests on a version at which the view was exported, and is accepted, an export
-- just before the change would have given the same text.
abbrev pub NoExportIsLost : Type 0
NoExportIsLost = (s : State) (count : ℕ) (lines : List Line) (replies : List (List ℕ)) (last : State) (count' : ℕ) → Valid s
    → (session : Session s count lines replies last count') → (before between after : List Exchange) (e f : Exchange)
    → session.exchanges ≡ before ++ e ∷ (between ++ f ∷ after) → (name : Name) (csv : List ℕ) (version : ℕ) → RestsOnExport s before e between f name csv version
    → (answer (last_state e.state between) e.line).0 ≡ exported csv (last_state e.state between).version
