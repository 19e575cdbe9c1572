-- What a batch of edits is answered, and the state after it.
use Rattle.std.specs.Prelude.{ℕ, suc, List, [], ◌∷◌, Option, Some, None, Result, Ok, Err}
use Rattle.std.specs.FinMap as finmap
use Rattle.lens_specs.specs.Common.{Rows, Tables, Lens, get, put as put_rows, differences, new_view}
use Rattle.catalog_specs.specs.Catalogue.{catalogue}
use Rattle.server_specs.specs.State.{State, unchanged}
use Rattle.server_specs.specs.Answer.{Answer, in_edit}
use Rattle.server_specs.specs.EditRefusal.{EditRefusal, unknown_name}
use Rattle.server_specs.specs.Request.{BatchEdit}
use Rattle.server_specs.specs.Changing.{edited, asked_view, accept}

-- the state with other tables; its version and its last changes stay
abbrev pub at_tables : State → Tables → State
at_tables s db = record s { tables = db }

-- the tables after a new view is put, or why it is refused
abbrev pub put_in : Result Rows EditRefusal → Lens → Tables → Result Tables EditRefusal
put_in (Err why) lens db = Err why
put_in (Ok rows) lens db = Ok (put_rows lens rows db)

-- the tables after one edit of a batch, whose view may have a lens
abbrev pub edit_tables : BatchEdit → Option ℕ → Option Lens → State → Tables → Result Tables EditRefusal
edit_tables e on None s db = Err (unknown_name e.view)
edit_tables e on (Some lens) s db = put_in (asked_view (at_tables s db) lens (edited e.remove e.add) on) lens db

-- the edits after this one are made on the tables that it gives; or it is refused, with its place
abbrev pub then_edits : ℕ → (Tables → Result Tables (ℕ × EditRefusal)) → Result Tables EditRefusal → Result Tables (ℕ × EditRefusal)
then_edits i others (Err why) = Err (i, why)
then_edits i others (Ok db) = others db

-- the tables after the edits, each on those that the edits before it gave; or the place of the first that is refused, and why
abbrev pub edits_from : ℕ → Option ℕ → State → List BatchEdit → Tables → Result Tables (ℕ × EditRefusal)
edits_from i on s [] db = Ok db
edits_from i on s (e ∷ edits) db =
    then_edits i (edits_from (suc i) on s edits) (edit_tables e on (finmap.get (catalogue s.texts) e.view) s db)

-- the tables are changed, or an edit is refused
abbrev pub batch_settled : Result Tables (ℕ × EditRefusal) → State → Answer × State
batch_settled (Err refused) s = unchanged (in_edit refused.0 refused.1) s
batch_settled (Ok db) s = accept db (differences (finmap.keys s.tables) s.tables db) s

-- what `batch` is answered, and the state after it
abbrev pub batch_answer : List BatchEdit → Option ℕ → State → Answer × State
batch_answer edits on s = batch_settled (edits_from 0 on s edits s.tables) s

-- ---- a batch without its tests

-- an edit whose view has this lens, with the sets of rows
pub record KnownEdit : Type 0 where
  pub lens : Lens
  pub remove : Rows
  pub add : Rows

-- the new view of the edit
abbrev pub known_view : KnownEdit → Tables → Rows
known_view e db = new_view (get e.lens db) (record { remove = e.remove; add = e.add })

-- the tables after the edit
abbrev pub with_known : KnownEdit → Tables → Tables
with_known e db = put_rows e.lens (known_view e db) db

-- the tables after the edits, one after another
abbrev pub batch : List KnownEdit → Tables → Tables
batch [] db = db
batch (e ∷ others) db = batch others (with_known e db)
