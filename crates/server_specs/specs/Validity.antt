-- States that a server can be in.
use Rattle.std.specs.Prelude.{◌≡◌, ◌≢◌, ◌≤◌, Bool, true, false, List, [], ◌∷◌, length, reverse, Option, Some, None, is_some, IfSome}
use Rattle.std.specs.List.{AllByRecursion}
use Rattle.std.specs.FinMap as finmap
use Rattle.lens_specs.specs.Common.{Name, Relation, IsOfSort, TableDelta, Tables, Lens, sort_of, AllApply, AreDeltas, inverted, with_deltas}
use Rattle.catalog_specs.specs.Catalogue.{Catalogue, catalogue, is_table_of}
use Rattle.catalog_specs.specs.Judging.{first_refused}
use Rattle.server_specs.specs.State.{State}

-- a relation is there, and of the sort of the lens
abbrev pub IsRelationOf : Lens → Option Relation → Type 0
IsRelationOf lens None = ⊥
IsRelationOf lens (Some relation) = IsOfSort relation (sort_of lens)

-- a relation is there, where the lens is a table's own, and is of its sort; or else none is there
abbrev pub IsStoredAs : Bool → Lens → Option Relation → Type 0
IsStoredAs true lens relation = IsRelationOf lens relation
IsStoredAs false lens relation = relation ≡ None

-- a relation is there exactly where the lens is the table of the name, and is of its sort
abbrev pub IsStored : Name → Option Lens → Option Relation → Type 0
IsStored name None relation = relation ≡ None
IsStored name (Some lens) relation = IsStoredAs (is_table_of name lens) lens relation

-- the tables are those of the catalogue, each of its sort
abbrev pub AreStored : Catalogue → Tables → Type 0
AreStored known db = (name : Name) → IsStored name (finmap.get known name) (finmap.get db name)

-- some tables differ, by rising names
abbrev pub IsDifference : List TableDelta → Type 0
IsDifference cs = (cs ≢ []) × AreDeltas cs

-- each change in turn can be taken back from the tables that were left by those before it, and leaves tables of the catalogue
abbrev pub CanUndo : Catalogue → Tables → List (List TableDelta) → Type 0
CanUndo known db [] = Unit {0}
CanUndo known db (cs ∷ older) =
    AllApply (inverted cs) db × AreStored known (with_deltas (inverted cs) db) × CanUndo known (with_deltas (inverted cs) db) older

-- Every definition was taken, the tables are those of the catalogue, each of its sort, and each was last changed at a version
-- that is the present one at most. At most 16 changes can be undone; each differs, and they can be taken back, the last first.
pub record Valid (s : State) : Type 0 where
  pub definitions : first_refused s.texts ≡ None
  pub tables : AreStored (catalogue s.texts) s.tables
  pub last : (name : Name) → is_some (finmap.get s.last name) ≡ is_some (finmap.get s.tables name)
  pub versions : (name : Name) → IfSome (finmap.get s.last name) (λ version. version ≤ s.version)
  pub few : length s.past ≤ 16
  pub differences : AllByRecursion IsDifference s.past
  pub past : CanUndo (catalogue s.texts) s.tables (reverse s.past)
