use Rattle.std.proofs.Common.{◌∙◌, ◌∷◌, [], Ok, ap, subst, sym}
use Rattle.csv.specs.Records.{fields_of}
use Rattle.csv_specs.specs.Sheets.{Record, rows_from, unsheet}
use Rattle.view_csv.specs.Places.{ArePlaces}
use Rattle.csv_specs.proofs.Fitting.{unsheet_fits}
use Rattle.view_csv.specs.Told.{told}
use Rattle.view_csv.proofs.RecordLemmas.{others_follow}
use Rattle.view_csv.proofs.RowLemmas.{told_fault, told_ok, told_set, unsheet_no_header, unsheet_nothing, unsheet_rows}
use Rattle.view_csv.proofs.reading.from_csv.Goals as goal

pub returns-then-not-branch-clause-gives : goal.returns-then-not-branch-clause-gives
returns-then-not-branch-clause-gives c _ =
    let none = rw c.if-not-branch.true at (c.in_ok-read_next.ensures c.args.text.now [] c.reader_of-reader.ensures) in
    ap told (unsheet_nothing c.args.columns.now c.args.text.now none)

pub returns-in-Ok-clause-gives : goal.returns-in-Ok-clause-gives
returns-in-Ok-clause-gives c =
    let header : Record = fields_of c.read_next.new.fields in
    let on = rw c.if-not-branch.false at (c.in_ok-read_next.ensures c.args.text.now [] c.reader_of-reader.ensures) in
    let (others, follow) = others_follow c.read_next.new.reader c.args.text.now (header ∷ []) on in
    let is = rw c.in-Some.is at c.in_ok-places.ensures.is in
    let are = rw c.in-Some.is at c.in_ok-places.ensures.places in
    let places = subst (ArePlaces c.args.columns.now header) (sym c.deref.ensures.value) are in
    let right = c.in-Ok.ensures c.args.text.now header others on places follow in
    ap told (unsheet_rows c.args.columns.now c.args.text.now header others follow (sym is))
    ∙ told_set (rows_from 1 c.args.columns.now header others) c.in-Ok.rows.items right
    ∙ ap (λ set. Ok set) (sym c.in_ok-new-in-Ok.ensures)

pub returns-in-Ok-clause-fit : goal.returns-in-Ok-clause-fit
returns-in-Ok-clause-fit c = unsheet_fits c.args.columns.now c.args.text.now c.in_ok-new-in-Ok.field-0 (told_ok (unsheet c.args.columns.now c.args.text.now) c.in_ok-new-in-Ok.field-0 (returns-in-Ok-clause-gives c))

pub returns-in-Some-clause-gives : goal.returns-in-Some-clause-gives
returns-in-Some-clause-gives c plain =
    let header : Record = fields_of c.read_next.new.fields in
    let on = rw c.if-not-branch.false at (c.in_ok-read_next.ensures c.args.text.now [] c.reader_of-reader.ensures) in
    let (others, follow) = others_follow c.read_next.new.reader c.args.text.now (header ∷ []) on in
    let is = rw c.in-Some.is at c.in_ok-places.ensures.is in
    let are = rw c.in-Some.is at c.in_ok-places.ensures.places in
    let places = subst (ArePlaces c.args.columns.now header) (sym c.deref.ensures.value) are in
    let wrong = c.in-Err.ensures c.args.text.now header others on places follow plain in
    ap told (unsheet_rows c.args.columns.now c.args.text.now header others follow (sym is))
    ∙ told_fault (rows_from 1 c.args.columns.now header others) c.in-Err.fault wrong

pub returns-clause-gives : goal.returns-clause-gives
returns-clause-gives c _ =
    let header : Record = fields_of c.read_next.new.fields in
    let on = rw c.if-not-branch.false at (c.in_ok-read_next.ensures c.args.text.now [] c.reader_of-reader.ensures) in
    let (others, follow) = others_follow c.read_next.new.reader c.args.text.now (header ∷ []) on in
    let is = rw c.in-None.is at c.in_ok-places.ensures.is in
    ap told (unsheet_no_header c.args.columns.now c.args.text.now header others follow (sym is))
