use Rattle.csv.specs.Records.{fields_of}
use Rattle.view_csv.proofs.RecordLemmas.{goes_on}
use Rattle.view_csv.proofs.records.read_next.Goals as goal
use Rattle.view_csv.proofs.records.read_next.Goals.{in-Ok, in-Err}

pub returns : goal.returns
returns c = elim c.match-read_byte_record.branch [
  | in-Ok w ↦ rw w.result-is (λ text rs h.
      let first = rw w.in-Ok.is at (c.read_byte_record.ensures.ready h.trim) in
      let read = (rw w.in-Ok.is at c.read_byte_record.ensures.reads) h.trim h.ready in
      goes_on w.in-Ok.found c.args.reader.now c.read_byte_record.new.self text rs (fields_of c.read_byte_record.new.row) h first read)
  | in-Err w ↦ rw w.result-is tt
]
