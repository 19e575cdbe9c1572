use Rattle.std.proofs.Common.{◌≡◌, ◌∙◌, ap, sym}
use Rattle.lens_specs.specs.Common.{sort_of}
use Rattle.request_text.specs.Answers.{list_view}
use Rattle.request_text.specs.RowFaults.{set_of}
use Rattle.server_specs.specs.Common.{rows_in}
use Rattle.view_changes.proofs.SentRows.{fault_told, set_asked, set_fits, set_refused}
use Rattle.view_changes.proofs.changes.set_in.Goals as goal

pub returns-in-Ok-clause-set : goal.returns-in-Ok-clause-set
returns-in-Ok-clause-set c =
    let U = (sort_of c.args.opened.now.view.lens).columns in
    let columns : c.cols.result.now ≡ U = c.cols.ensures.value ∙ ap (λ s. s.columns) c.sort.ensures.sort in
    let is = ap (λ U. set_of (rows_in U c.args.rows)) (sym columns) ∙ c.in-Ok.ensures in
    (set_asked (list_view c.args.list) (rows_in U c.args.rows) c.in-Ok.rows is, set_fits U c.args.rows c.in-Ok.rows is)

pub returns-in-Err-BadRow-clause-set : goal.returns-in-Err-BadRow-clause-set
returns-in-Err-BadRow-clause-set c =
    let U = (sort_of c.args.opened.now.view.lens).columns in
    let columns : c.cols.result.now ≡ U = c.cols.ensures.value ∙ ap (λ s. s.columns) c.sort.ensures.sort in
    set_refused (list_view c.args.list) (rows_in U c.args.rows) c.in-Err-BadRow.index c.in-Err-BadRow.col
    (ap (λ U. set_of (rows_in U c.args.rows)) (sym columns)
    ∙ fault_told c.in-Err-BadRow.field-0 c.in-Err-BadRow.index c.in-Err-BadRow.col (set_of (rows_in c.cols.result.now c.args.rows)) c.in-Err-BadRow.field-0-is c.in-Err-BadRow.ensures)
