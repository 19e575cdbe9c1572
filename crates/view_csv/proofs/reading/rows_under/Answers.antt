use Rattle.std.proofs.Common.{◌∙◌, ◌∷◌, ◌++◌, [], Ok, ap, length, sym, arith}
use Rattle.plain_values.proofs.Common.{length-append}
use Rattle.plain_values.specs.SortedSet as set
use Rattle.csv.specs.Records.{fields_of}
use Rattle.csv_specs.specs.Sheets.{Record, rows_from}
use Rattle.view_csv.specs.Told.{told}
use Rattle.view_csv.proofs.RowLemmas.{names_are, no_row, row_made, rows_more, stopped, whole}
use Rattle.view_csv.proofs.reading.rows_under.Goals as goal

pub returns-then-not-branch : goal.returns-then-not-branch
returns-then-not-branch c text header rs start are all =
    let (read, at, right, place) = c.loop-place.invariant text header start are in
    let none = rw c.if-not-branch.true at (c.in_ok-read_next.ensures text (header ∷ read) at) in
    ap told (ap (rows_from 1 c.args.columns.now header) (whole text header read rs none all) ∙ right)

pub returns-then-len-places : goal.returns-then-len-places
returns-then-len-places c text header rs start are all _ =
    let (read, at, right, place) = c.loop-place.invariant text header start are in
    let on = rw c.if-not-branch.false at (c.in_ok-read_next.ensures text (header ∷ read) at) in
    let fields = fields_of c.read_next.new.fields in
    stopped c.args.columns.now header c.read_next.new.reader text read fields c.loop-place.rows.items rs c.loop-place.place on right place all
    (no_row c.args.columns.now header c.args.places.now are fields (λ long. c.if-len-places.true (c.len.ensures ∙ long)))

pub row_of_record-requires : goal.row_of_record-requires
row_of_record-requires c = c.requires ∙ ap length (sym (ap set.items c.in_ok-names.ensures ∙ names_are c.args.columns.now))

pub returns-in-None : goal.returns-in-None
returns-in-None c text header rs start are all _ =
    let (read, at, right, place) = c.loop-place.invariant text header start are in
    let on = rw c.if-not-branch.false at (c.in_ok-read_next.ensures text (header ∷ read) at) in
    let fields = fields_of c.read_next.new.fields in
    stopped c.args.columns.now header c.read_next.new.reader text read fields c.loop-place.rows.items rs c.loop-place.place on right place all
    (row_made c.args.columns.now header c.args.places.now are fields c.in_ok-names.names c.in_ok-row.field-0 (ap set.items c.in_ok-names.ensures ∙ names_are c.args.columns.now)
    (sym c.len.ensures ∙ c.if-len-places.false) c.in_ok-row.ensures ∙ c.in-None.is)

pub loop-place-preserved : goal.loop-place-preserved
loop-place-preserved c text header start are =
    let (read, at, right, place) = c.loop-place.invariant text header start are in
    let on = rw c.if-not-branch.false at (c.in_ok-read_next.ensures text (header ∷ read) at) in
    let fields : Record = fields_of c.read_next.new.fields in
    let row = row_made c.args.columns.now header c.args.places.now are fields c.in_ok-names.names c.in_ok-row.field-0 (ap set.items c.in_ok-names.ensures ∙ names_are c.args.columns.now)
    (sym c.len.ensures ∙ c.if-len-places.false) c.in_ok-row.ensures ∙ c.in-Some.is in
    let long = length-append read (fields ∷ []) in (
      read ++ (fields ∷ []),
      on,
      rows_more c.args.columns.now header 1 read c.loop-place.rows.items fields c.in-Some.row right row ∙ ap (λ l. Ok l) (sym c.in_ok-push-in-Some.ensures.items),
      omega (arith, long, place),
    )
