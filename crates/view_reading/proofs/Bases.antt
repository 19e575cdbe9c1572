-- The table of a lens that is a table.
use Rattle.std.proofs.Common.{◌≡◌, ◌∙◌, ap, refl, None, Option, Some, unwrap_or}
use Rattle.std.specs.FinMap as finmap
use Rattle.lens_specs.specs.Common.{Lens, Tables, base, get, rows_or_none, Name, Relation, Sort}
use Rattle.base_index.specs.Held.{no_relation, relation_in}

rows_found : (o : Option Relation) → (unwrap_or o no_relation).rows ≡ rows_or_none o
rows_found None = refl
rows_found (Some r) = refl

-- the rows of the table are those that the lens shows
pub rows_shown : (L : Lens) (t : Name) (s : Sort) (db : Tables) → base t s ≡ L → (relation_in db t).rows ≡ get L db
unfolding get
rows_shown L t s db is = rows_found (finmap.get db t) ∙ ap (λ M. get M db) is
