-- How many rows a line may walk, and how many it may look at by key.
use Rattle.std.specs.Prelude.{ℕ, ◌+◌, ◌*◌, ◌≤◌, Bool, true, false, List, [], ◌∷◌, Option, None, Some, if◌then◌else◌, Result, Ok, Err}
use Rattle.std.specs.FinMap as finmap
use Rattle.no_memory.specs.declared.NoMemory.{NoMemory}
use Rattle.serde_json.specs.Data.{Items}
use Rattle.lens_specs.specs.Common.{Lens, Tables, sort_of, Name, one}
use Rattle.catalog_specs.specs.Catalogue.{catalogue}
use Rattle.lens_probe.specs.Viewed.{is_left_side}
use Rattle.lens_laws.specs.Work.{fan, work}
use Rattle.server_specs.specs.Answer.{Answer}
use Rattle.server_specs.specs.Batching.{edit_tables}
use Rattle.server_specs.specs.EditRefusal.{EditRefusal}
use Rattle.server_specs.specs.Request.{BatchEdit, Request, find_at, put, edit, preview, batch, undo, import}
use Rattle.server_specs.specs.State.{State}
use Rattle.database.specs.Staging.{steps_of}
pub use Rattle.opened_view.specs.Counters.{RisesBy, row_count}
use Rattle.view_answers.specs.Looks.{looks_by}
pub use Rattle.view_changes.specs.Sizes.{changed_by, differs_by, imported_by, sent_by, sent_of}
use Rattle.database.specs.declared.plan.Plan.{Plan}
use Rattle.database.specs.declared.database.Database.{Database}

-- whether the lens of the name, if it has one, is asked by the column alone
abbrev pub is_asked_by : Name → Option Lens → Bool
is_asked_by column None = true
is_asked_by column (Some L) = is_left_side (one column) (sort_of L).tree

-- whether rows are found by key alone: by an edit, a preview, a batch, an undo, and a find by the left side of a dependency
abbrev pub is_by_key : Result Request Answer → State → Bool
is_by_key (Ok (find_at name column json)) s = is_asked_by column (finmap.get (catalogue s.texts) name)
is_by_key (Ok (edit name remove add on)) s = true
is_by_key (Ok (preview name remove add on)) s = true
is_by_key (Ok (batch edits on)) s = true
is_by_key (Ok undo) s = true
is_by_key other s = false

-- the most rows that it may walk: none by key, and else as many as there are
abbrev pub most_walked : Result Request Answer → State → ℕ
most_walked request s = if is_by_key request s then 0 else row_count s.tables

-- what was walked for the plan, and will be when it is settled, is so many rows at most
abbrev pub Walks : Result Plan NoMemory → Database → ℕ → ℕ → ℕ → Type 0
Walks (Ok plan) database old new most = new + steps_of plan.staged database ≤ old + most
Walks (Err e) database old new most = new ≤ old + most

-- ---- rows that are looked at by key

-- a number for the lens, if there is one
abbrev pub of_lens : (Lens → ℕ) → Option Lens → ℕ
of_lens f None = 0
of_lens f (Some L) = f L

-- the most looks of a put, of an import, of an edit and of a find, where fan bounds the groups of the tables
abbrev pub put_looks : Tables → Items → Lens → ℕ
put_looks db rows L = 2 * work L (changed_by db L rows) (fan L db)

abbrev pub import_looks : Tables → List ℕ → Lens → ℕ
import_looks db text L = 2 * work L (imported_by db L text) (fan L db)

abbrev pub edit_looks : Tables → Items → Items → Lens → ℕ
edit_looks db remove add L = 3 * work L (sent_by L remove add) (fan L db)

abbrev pub find_looks : Tables → Name → Lens → ℕ
find_looks db column L = looks_by column (fan L db) L

-- the looks behind an edit that gave these tables, and none behind one that is refused
abbrev pub then_looks : (Tables → ℕ) → Result Tables EditRefusal → ℕ
then_looks others (Err why) = 0
then_looks others (Ok db) = others db

-- the most looks of the edits of a batch, each on the tables that the edits before it gave
abbrev pub batch_looks : Option ℕ → State → List BatchEdit → Tables → ℕ
batch_looks on s [] db = 0
batch_looks on s (e ∷ edits) db =
    of_lens (edit_looks db e.remove e.add) (finmap.get (catalogue s.texts) e.view)
    + then_looks (batch_looks on s edits) (edit_tables e on (finmap.get (catalogue s.texts) e.view) s db)

-- the most rows that a line may look at: by the rows that it changes, and not by the sizes of tables
abbrev pub most_looked : Result Request Answer → State → ℕ
most_looked (Ok (find_at name column json)) s = of_lens (find_looks s.tables column) (finmap.get (catalogue s.texts) name)
most_looked (Ok (put name rows on)) s = of_lens (put_looks s.tables rows) (finmap.get (catalogue s.texts) name)
most_looked (Ok (import name text on)) s = of_lens (import_looks s.tables text) (finmap.get (catalogue s.texts) name)
most_looked (Ok (edit name remove add on)) s = of_lens (edit_looks s.tables remove add) (finmap.get (catalogue s.texts) name)
most_looked (Ok (preview name remove add on)) s = of_lens (edit_looks s.tables remove add) (finmap.get (catalogue s.texts) name)
most_looked (Ok (batch edits on)) s = batch_looks on s edits s.tables
most_looked other s = 0
