-- What lines export reads back.
use Rattle.std.specs.Prelude.{◌≡◌, ◌⊎◌, List, [], ◌∷◌}
use Rattle.lens_specs.specs.Common.{Lens, Name}
use Rattle.server_specs.specs.Answer.{memory, text}
use Rattle.server_specs.specs.Session.{Exchange}
use Rattle.server_specs.specs.State.{State}
use Rattle.server_laws.specs.SheetLaws.{IsExportLine, ReadsBack}

-- where the line exports a view, the text of the view reads back as its rows, unless memory ran out
abbrev pub IsReadBack : State → Exchange → Type 0
IsReadBack s e = (name : Name) (L : Lens) → IsExportLine s e.line name L → (e.reply ≡ text memory) ⊎ ReadsBack L s.tables

-- it does at each exchange, from the state that the one before left
abbrev pub AreReadBack : State → List Exchange → Type 0
AreReadBack s [] = Unit {0}
AreReadBack s (e ∷ exchanges) = IsReadBack s e × AreReadBack e.state exchanges
