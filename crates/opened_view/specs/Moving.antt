-- Last changes of tables that are changed again.
use Rattle.std.specs.Prelude.{◌≡◌, ℕ, List, is_some, true}
use Rattle.std.specs.FinMap as finmap
use Rattle.std.specs.List.{AllByRecursion}
use Rattle.plain_values.specs.Order.{bytes_cmp}
use Rattle.lens_specs.specs.Common.{TableDelta}

-- the last change of each of the changed tables is there
abbrev pub AreThere : finmap.FinMap bytes_cmp ℕ → List TableDelta → Type 0
AreThere last changes = AllByRecursion (λ change. is_some (finmap.get last change.table) ≡ true) changes
