-- The laws of finds: which rows are found, and what is refused.
use Rattle.std.specs.Prelude.{◌≡◌, ℕ, Some, None, Ok}
use Rattle.std.specs.FinMap as finmap
use Rattle.serde_json.specs.Data.{Data}
use Rattle.plain_values.specs.declared.value.Kind.{Kind}
use Rattle.plain_values.specs.declared.value.Value.{Value}
use Rattle.lens_specs.specs.Common.{Lens, sort_of, Name, kind_clash, unknown_column, Rows}
use Rattle.io_specs.specs.Lines.{Line}
use Rattle.catalog_specs.specs.Catalogue.{catalogue}
use Rattle.server_specs.specs.State.{State}
use Rattle.server_specs.specs.Answer.{shown, refused, unknown_name}
use Rattle.server_specs.specs.Request.{find_at, read, request}
use Rattle.server_specs.specs.Sending.{value_in}
use Rattle.server_specs.specs.Questions.{rows_with}
use Rattle.server_specs.specs.Answering.{answer}

-- the line finds by the data in the column of the view of the lens
pub record FindsIn (s : State) (l : Line) (name column : Name) (json : Data) (lens : Lens) : Type 0 where
  pub asked : request l ≡ Ok (find_at name column json)
  pub named : finmap.get (catalogue s.texts) name ≡ Some lens

-- it finds those of the rows that a line reads there which have the value in the column
abbrev pub FindsAreFilters : Type 0
FindsAreFilters = (s : State) (l m : Line) (name column : Name) (json : Data) (lens : Lens) → FindsIn s l name column json lens
    → (kind : Kind) → finmap.get (sort_of lens).columns column ≡ Some kind → (value : Value) → value_in kind json ≡ Some value
    → request m ≡ Ok (read name) → (rows : Rows) (version : ℕ) → (answer s m).0 ≡ shown rows version
    → answer s l ≡ (shown (rows_with column value rows) s.version, s)

-- a name without a lens is told
abbrev pub FindsKnowTheirView : Type 0
FindsKnowTheirView = (s : State) (l : Line) (name column : Name) (json : Data) → request l ≡ Ok (find_at name column json) → finmap.get (catalogue s.texts) name ≡ None
    → answer s l ≡ (unknown_name name, s)

-- then a column that is not there
abbrev pub FindsKnowTheirColumn : Type 0
FindsKnowTheirColumn = (s : State) (l : Line) (name column : Name) (json : Data) (lens : Lens) → FindsIn s l name column json lens
    → finmap.get (sort_of lens).columns column ≡ None → answer s l ≡ (refused (unknown_column column), s)

-- and then a value that does not fit it
abbrev pub FoundValuesFit : Type 0
FoundValuesFit = (s : State) (l : Line) (name column : Name) (json : Data) (lens : Lens) → FindsIn s l name column json lens
    → (kind : Kind) → finmap.get (sort_of lens).columns column ≡ Some kind → value_in kind json ≡ None → answer s l ≡ (refused (kind_clash column), s)
