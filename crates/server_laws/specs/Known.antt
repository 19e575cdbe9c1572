-- What is known of the lenses of a state.
use Rattle.std.specs.Prelude.{◌≡◌, Some, Ok}
use Rattle.std.specs.FinMap as finmap
use Rattle.lens_specs.specs.Common.{Lens, base, select, drop, rename, sort_of, sort}
use Rattle.lens_specs.specs.Lens.{join}
use Rattle.lens_laws.specs.Lenses.{AreOf, IsTyped}
use Rattle.lens_laws.specs.Rules.{BasesAreSound}
use Rattle.catalog_specs.specs.Catalogue.{Catalogue, catalogue}
use Rattle.server_specs.specs.State.{State}

-- the tables under the lens are those of the catalogue
abbrev pub BasesAre : Catalogue → Lens → Type 0
BasesAre known (base t s) = finmap.get known t ≡ Some (base t s)
BasesAre known (select P C) = BasesAre known C
BasesAre known (drop A X a C) = BasesAre known C
BasesAre known (rename A B C) = BasesAre known C
BasesAre known (join kind A B) = BasesAre known A × BasesAre known B

-- a lens has a sort, and its tables are those of the catalogue
pub record IsKnown (known : Catalogue) (L : Lens) : Type 0 where
  pub sound : BasesAreSound L
  pub sorted : sort L ≡ Ok (sort_of L)
  pub bases : BasesAre known L

-- a lens of a valid state is known, passes the tests of its nodes, and its tables are those of the state
pub record IsHere (s : State) (L : Lens) : Type 0 where
  pub known : IsKnown (catalogue s.texts) L
  pub typed : IsTyped L
  pub are : AreOf L s.tables
