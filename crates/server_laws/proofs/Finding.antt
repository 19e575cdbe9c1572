-- What a line that finds is answered.
use Rattle.std.proofs.Common.{◌≡◌, ◌∙◌, ℕ, Some, Ok, ap, sym}
use Rattle.std.specs.FinMap as finmap
use Rattle.serde_json.specs.Data.{Data}
use Rattle.lens_specs.specs.Common.{Lens, get, Name, Rows}
use Rattle.server_specs.specs.Common.{Line, catalogue, State, shown, read, request, about, find_told, finding_told, found_told, rows_told, rows_with, answer, answer_request}
use Rattle.server_laws.specs.FindLaws.{FindsAreFilters, FindsIn, FindsKnowTheirColumn, FindsKnowTheirView, FoundValuesFit}

same_rows : (M N : Rows) (v w : ℕ) → shown M v ≡ shown N w → M ≡ N
same_rows M N v w e = cc

-- what a line that reads the view shows
read_shows : (s : State) (m : Line) (name : Name) (lens : Lens) → request m ≡ Ok (read name) → finmap.get (catalogue s.texts) name ≡ Some lens → (answer s m).0 ≡ shown (get lens s.tables) s.version
unfolding answer
read_shows s m name lens asked named = ap (λ r. (answer_request r s).0) asked ∙ ap (about (rows_told s) name) named

-- what is told of the column of the view
told : (s : State) (l : Line) (name column : Name) (json : Data) (lens : Lens) → FindsIn s l name column json lens → answer s l ≡ (finding_told s column json lens, s)
unfolding answer
told s l name column json lens finds = ap (λ r. answer_request r s) finds.asked ∙ ap (λ o. (about (finding_told s column json) name o, s)) finds.named

pub finds_are_filters : FindsAreFilters
finds_are_filters s l m name column json lens finds kind column_is value value_is reads rows version shows =
    let same : get lens s.tables ≡ rows = same_rows (get lens s.tables) rows s.version version (sym (read_shows s m name lens reads finds.named) ∙ shows) in
    told s l name column json lens finds ∙ ap (λ o. (find_told s lens column json o, s)) column_is ∙ ap (λ o. (found_told s lens column o, s)) value_is
    ∙ ap (λ M. (shown (rows_with column value M) s.version, s)) same

pub finds_know_their_view : FindsKnowTheirView
unfolding answer
finds_know_their_view s l name column json asked none = ap (λ r. answer_request r s) asked ∙ ap (λ o. (about (finding_told s column json) name o, s)) none

pub finds_know_their_column : FindsKnowTheirColumn
finds_know_their_column s l name column json lens finds none = told s l name column json lens finds ∙ ap (λ o. (find_told s lens column json o, s)) none

pub found_values_fit : FoundValuesFit
found_values_fit s l name column json lens finds kind column_is none =
    told s l name column json lens finds ∙ ap (λ o. (find_told s lens column json o, s)) column_is ∙ ap (λ o. (found_told s lens column o, s)) none
