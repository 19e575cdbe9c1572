use Rattle.std.proofs.Common.{◌≡◌, ◌∷◌, [], ◌+◌, length, List, Ok}
use Rattle.csv_specs.specs.Sheets.{Record, rows_from}
use Rattle.view_csv.specs.Places.{ArePlaces}
use Rattle.view_csv.specs.Records.{HasRead}
use Rattle.view_csv.proofs.reading.rows_under.Given as goal

abbrev pub invariant-loop-place : goal.invariant-loop-place
invariant-loop-place l = (text : _) (header : Record) → HasRead l.fn.reader text (header ∷ []) → ArePlaces l.columns header l.places
    → (rs : List Record) × HasRead l.reader text (header ∷ rs) × (rows_from 1 l.columns header rs ≡ Ok l.rows.items) × (length rs + 1 ≡ l.place)
