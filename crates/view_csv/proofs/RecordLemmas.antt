-- What a read of a record does to what was read.
use Rattle.std.proofs.Common.{◌≡◌, ◌∙◌, ℕ, List, ◌++◌, Bool, true, false, Some, inl}
use Rattle.plain_values.proofs.Common.{Bor}
use Rattle.csv.specs.Reading.{ReadRecord, default_config, reader_state, strip_bom, took_first}
use Rattle.csv.specs.declared.parser.State.TheVariants as st
use Rattle.csv.specs.declared.reader.Reader.{Reader}
use Rattle.csv.proofs.ReadFacts.{rows-end, rows-more}
use Rattle.csv_specs.specs.Sheets.{Record}
use Rattle.csv_specs.proofs.Readings.{all_records, first_records}
use Rattle.view_csv.specs.Records.{HasRead, ReadsOn, records_in}

-- a read carries what was read by one record, or shows that there is none
pub goes_on : (found : Bool) (old new : Reader (Bor (List ℕ))) (text : List ℕ) (rs : List Record) (fields : Record)
    → HasRead old text rs → took_first new ≡ true → ReadRecord (λ (s : Bor (List ℕ)). Some s.now) old new found fields → ReadsOn found new text rs fields
goes_on true old new text rs fields h first r =
    let m = rows-more (λ (s : Bor (List ℕ)). Some s.now) old new fields default_config st.StartRecord (strip_bom text) h.left rs h.config h.source h.reached r in
    record { config = r.2 ∙ h.config; trim = r.3 ∙ h.trim; ready = inl first; left = m.0; source = m.1; reached = m.2 }
goes_on false old new text rs fields h first r =
    let none = rows-end (λ (s : Bor (List ℕ)). Some s.now) old new fields default_config h.left h.config h.source r in
    all_records default_config (strip_bom text) rs (reader_state old, h.left, h.reached, none)

-- what was read first are the first records of the text
pub others_follow : (reader : Reader (Bor (List ℕ))) (text : List ℕ) (rs : List Record) → HasRead reader text rs → (others : List Record) × (records_in text ≡ rs ++ others)
others_follow reader text rs h = first_records default_config (strip_bom text) h.left (reader_state reader) rs h.reached
