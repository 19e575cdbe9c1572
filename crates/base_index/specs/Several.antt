-- Several tables, one after another. Where two have one name, the first is meant.
use Rattle.std.specs.Prelude.{◌≡◌, ℕ, Bool, false, if◌then◌else◌, List, [], ◌∷◌, ◌++◌, map}
use Rattle.std.specs.Prelude.{Option, Some, None, is_some, unwrap_or}
use Rattle.std.specs.List.{list_any}
use Rattle.lens_specs.specs.Common.{AppliesTo, Delta, new_view, Name, Columns, Rows}
use Rattle.signed_delta.specs.declared.delta.TableDelta.{TableDelta}
use Rattle.base_index.specs.Need.{rows_walked, same_name, with_needs}
use Rattle.base_index.specs.Stored.{IsQuiet, Stored, new_table, shown_of}
use Rattle.base_index.specs.declared.need.Need.{Need}

-- the table of this name
abbrev pub first : Name → List Stored → Option Stored
first name [] = None
first name (s ∷ ss) = if same_name s.name name then Some s else first name ss

-- the names of the tables
abbrev pub names_of : List Stored → List Name
names_of ss = map (λ s. s.name) ss

-- no name stands twice
abbrev pub AreApart : List Name → Type 0
AreApart [] = Unit {0}
AreApart (n ∷ ns) = (list_any (λ m. same_name m n) ns ≡ false) × AreApart ns

-- with the difference staged
abbrev pub staged : Delta → Stored → Stored
staged d s = record s { next_rows = new_view s.rows d }

-- with the difference of one table staged
abbrev pub staged_in : TableDelta → List Stored → List Stored
staged_in c [] = []
staged_in c (s ∷ ss) =
    if same_name s.name c.table then staged c.delta s ∷ ss else s ∷ staged_in c ss

-- with each of the differences staged
abbrev pub staged_all : List TableDelta → List Stored → List Stored
staged_all [] ss = ss
staged_all (c ∷ cs) ss = staged_all cs (staged_in c ss)

-- the table is there, has nothing staged, and the difference applies to it
pub record CanStage (c : TableDelta) (ss : List Stored) (s : Stored) : Type 0 where
  pub there : first c.table ss ≡ Some s
  pub quiet : IsQuiet s
  pub applies : AppliesTo c.delta (shown_of s)

-- each of the differences can be staged, and no later one is of the same table
abbrev pub CanStageAll : List TableDelta → List Stored → Type 0
CanStageAll [] ss = Unit {0}
CanStageAll (c ∷ cs) ss =
    ((s : Stored) × CanStage c ss s)
    × ((list_any (λ later. same_name later.table c.table) cs ≡ false) × CanStageAll cs ss)

-- with the indexes that the needs ask for
abbrev pub needed : List Need → Stored → Stored
needed needs s = record s { next_indexes = with_needs s.name needs s.indexes }

-- how many rows of a table are walked for the needs
abbrev pub walked_of : List Need → Stored → ℕ
walked_of needs s = rows_walked s.name needs s.indexes s.rows

-- nothing is staged in any of them
abbrev pub AreQuiet : List Stored → Type 0
AreQuiet [] = Unit {0}
AreQuiet (s ∷ ss) = IsQuiet s × AreQuiet ss

-- each of them is held, or none is
abbrev pub AreHeld : Bool → List Stored → Type 0
AreHeld b [] = Unit {0}
AreHeld b (s ∷ ss) = (is_some s.held ≡ b) × AreHeld b ss

-- the rows stand as they are
abbrev pub kept : Stored → Stored
kept s = record s { held = None }

-- the rows are held as they are
abbrev pub holding : Stored → Stored
holding s = record s { held = Some s.rows }

-- the rows at `hold`, or those that readers see where they are not held
abbrev pub first_rows : Stored → Rows
first_rows s = unwrap_or s.held s.rows

-- the rows are what they were
abbrev pub taken_back : Stored → Stored
taken_back s = record s { rows = first_rows s; next_rows = first_rows s; held = None }

-- no index is staged
abbrev pub AreIndexed : List Stored → Type 0
AreIndexed [] = Unit {0}
AreIndexed (s ∷ ss) = (s.next_indexes ≡ s.indexes) × AreIndexed ss

-- with the new table, if any, at the end
abbrev pub with_new : Option (Name × Columns) → List Stored → List Stored
with_new None ss = ss
with_new (Some t) ss = ss ++ new_table t.0 t.1 ∷ []
