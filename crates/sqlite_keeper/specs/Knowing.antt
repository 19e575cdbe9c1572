-- The columns of tables that are known.
use Rattle.std.specs.Prelude.{◌≡◌, ℕ, Bool, List, [], ◌∷◌, ◌++◌, map, nat_eq, Option, None, Some, is_some, if◌then◌else◌}
use Rattle.std.specs.List.{list_all}
use Rattle.std.specs.Cmp.Lexicographic.{pointwise}
use Rattle.plain_values.specs.Columns.{Columns}
use Rattle.signed_delta.specs.declared.delta.TableDelta.{TableDelta}
use Rattle.view_lang.specs.declared.definition.Definition.{Definition}
use Rattle.view_lang.specs.declared.definition.Definition.TheVariants.{Table, View}
use Rattle.sqlite_keeper.specs.declared.known.KnownColumns.{KnownColumns}

-- tables with their columns
abbrev pub ByTable : Type 0
ByTable = List (List ℕ × Columns)

-- the tables whose columns are known
abbrev pub known_in : KnownColumns → ByTable
known_in k = map (λ t. (t.table, t.columns)) k.tables.items

-- the columns of the table of this name, if they are known
abbrev pub columns_at : ByTable → List ℕ → Option Columns
columns_at [] name = None
columns_at (t ∷ known) name = if pointwise nat_eq t.0 name then Some t.1 else columns_at known name

-- with the columns of the table that is defined, unless they are known
abbrev pub with_defined : Definition → ByTable → ByTable
with_defined (Table name cols deps pred) known = if is_some (columns_at known name) then known else known ++ (name, cols) ∷ []
with_defined (View name expr) known = known

-- nothing that was known is another thing now
abbrev pub Extends : ByTable → ByTable → Type 0
Extends old new = (more : ByTable) × (new ≡ old ++ more)

-- whether the columns of each of the tables that change are known
abbrev pub are_known : ByTable → List TableDelta → Bool
are_known known deltas = list_all (λ d. is_some (columns_at known d.table)) deltas
