-- How far a text was read.
use Rattle.std.specs.Prelude.{◌≡◌, ℕ, List, [], ◌∷◌, ◌++◌, Bool, true, false, Some}
use Rattle.std.specs.Borrow.{Bor}
use Rattle.csv.specs.Reading.{Reached, Ready, default_config, reader_config, reader_state, reader_trim, records, source_of, strip_bom}
use Rattle.csv.specs.declared.parser.State.TheVariants as st
use Rattle.csv.specs.declared.reader.Reader.{Reader}
use Rattle.csv.specs.declared.reader.Trim.TheVariants as trim
use Rattle.csv_specs.specs.Sheets.{Record}

-- the records of a text that has at most one byte order mark in front
abbrev pub records_in : List ℕ → List Record
records_in text = records default_config (strip_bom text)

-- the reader has given these records of the text, and stands behind them
pub record HasRead (reader : Reader (Bor (List ℕ))) (text : List ℕ) (rs : List Record) : Type 0 where
  pub config : reader_config reader ≡ default_config
  pub trim : reader_trim reader ≡ trim.None
  pub ready : Ready reader
  pub left : List ℕ
  pub source : source_of (λ s. Some s.now) reader ≡ Some left
  pub reached : Reached default_config st.StartRecord (strip_bom text) rs (reader_state reader) left

-- one more record, with these fields; or there is none, and the text has no others
abbrev pub ReadsOn : Bool → Reader (Bor (List ℕ)) → List ℕ → List Record → Record → Type 0
ReadsOn true reader text rs fields = HasRead reader text (rs ++ (fields ∷ []))
ReadsOn false reader text rs fields = records_in text ≡ rs
