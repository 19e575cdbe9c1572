use Rattle.std.proofs.Common.{◌∙◌, ap}
use Rattle.std.proofs.lemmas.Result.{IfOk-weaker}
use Rattle.rehearsal.specs.Summary.{rows_data, summary_line}
use Rattle.rehearsal.proofs.Points.{Stopped-Halted, later-Halted, on_err}
use Rattle.rehearsal.proofs.Whole.{Halted-define, Halted-reads, Halted-summary, Halted-tables, Halted-view, Rehearsed-reads, Room-first, Room-reads, Room-tables, Room-view}
use Rattle.rehearsal.proofs.rehearsing.rehearse.Goals as goal

pub returns-in_err-define-clause-stopped : goal.returns-in_err-define-clause-stopped
returns-in_err-define-clause-stopped g c = on_err c.from_residual.result _ (Stopped-Halted _ _ _ (Halted-define _ _ c.args.number c.in_err-define.ensures.halted))

pub returns-in_err-define-clause-later : goal.returns-in_err-define-clause-later
returns-in_err-define-clause-later g c = later-Halted _ _ _ c.in_err-define.ensures.halted

pub fill_tables-requires-clause-room : goal.fill_tables-requires-clause-room
fill_tables-requires-clause-room g c =
    Room-tables _ _ c.args.number (Room-first _ c.args.number _ c.new-tally.ensures c.requires.room) c.in_ok-define.ensures.done

pub returns-in_err-fill_tables-clause-stopped : goal.returns-in_err-fill_tables-clause-stopped
returns-in_err-fill_tables-clause-stopped g c =
    on_err c.from_residual-in_err-fill_tables.result _ (Stopped-Halted _ _ _ (Halted-tables _ _ _ c.args.number c.in_ok-define.ensures.done c.in_err-fill_tables.ensures.halted))

pub returns-in_err-fill_tables-clause-later : goal.returns-in_err-fill_tables-clause-later
returns-in_err-fill_tables-clause-later g c = later-Halted _ _ _ (Halted-tables _ _ _ c.args.number c.in_ok-define.ensures.done c.in_err-fill_tables.ensures.halted)

pub edit_view-requires-clause-room : goal.edit_view-requires-clause-room
edit_view-requires-clause-room g c =
    Room-view _ _ _ c.args.number (Room-first _ c.args.number _ c.new-tally.ensures c.requires.room) c.in_ok-define.ensures.done c.in_ok-fill_tables.ensures.done

pub returns-in_err-edit_view-clause-stopped : goal.returns-in_err-edit_view-clause-stopped
returns-in_err-edit_view-clause-stopped g c =
    on_err c.from_residual-in_err-edit_view.result _ (Stopped-Halted _ _ _ (Halted-view _ _ _ _ c.args.number c.in_ok-define.ensures.done c.in_ok-fill_tables.ensures.done c.in_err-edit_view.ensures.halted))

pub returns-in_err-edit_view-clause-later : goal.returns-in_err-edit_view-clause-later
returns-in_err-edit_view-clause-later g c = later-Halted _ _ _ (Halted-view _ _ _ _ c.args.number c.in_ok-define.ensures.done c.in_ok-fill_tables.ensures.done c.in_err-edit_view.ensures.halted)

pub read_all-requires-clause-room : goal.read_all-requires-clause-room
read_all-requires-clause-room g c =
    Room-reads _ _ _ _ c.args.number (Room-first _ c.args.number _ c.new-tally.ensures c.requires.room) c.in_ok-define.ensures.done c.in_ok-fill_tables.ensures.done c.in_ok-edit_view.ensures.done

pub returns-in_err-shown-clause-stopped : goal.returns-in_err-shown-clause-stopped
returns-in_err-shown-clause-stopped g c =
    on_err c.from_residual-in_err-shown.result _ (Stopped-Halted _ _ _ (Halted-reads _ _ _ _ _ c.args.number c.in_ok-define.ensures.done c.in_ok-fill_tables.ensures.done c.in_ok-edit_view.ensures.done c.in_err-shown.ensures.halted))

pub returns-in_err-shown-clause-later : goal.returns-in_err-shown-clause-later
returns-in_err-shown-clause-later g c = later-Halted _ _ _ (Halted-reads _ _ _ _ _ c.args.number c.in_ok-define.ensures.done c.in_ok-fill_tables.ensures.done c.in_ok-edit_view.ensures.done c.in_err-shown.ensures.halted)

pub returns-clause-done : goal.returns-clause-done
returns-clause-done g c =
    let shown = c.in_ok-shown.shown in
    let tally = c.read_all.new.tally in
    let line = summary_line tally.accepted tally.refused (rows_data shown.albums shown.tracks shown.stock) in
    IfOk-weaker c.summary_line.result _ _
    (λ told is. Rehearsed-reads _ _ _ _ _ c.args.number shown told.items c.new-tally.ensures c.in_ok-define.ensures.done c.in_ok-fill_tables.ensures.done c.in_ok-edit_view.ensures.done
    c.in_ok-shown.ensures.done (is ∙ ap line c.version.ensures))
    c.summary_line.ensures

pub returns-clause-stopped : goal.returns-clause-stopped
returns-clause-stopped g c =
    on_err c.summary_line.result _
    (Stopped-Halted _ _ _ (Halted-summary _ _ _ _ _ c.args.number _ c.in_ok-define.ensures.done c.in_ok-fill_tables.ensures.done c.in_ok-edit_view.ensures.done c.in_ok-shown.ensures.done))

pub returns-clause-later : goal.returns-clause-later
returns-clause-later g c =
    later-Halted _ _ _ (Halted-summary _ _ _ _ _ c.args.number _ c.in_ok-define.ensures.done c.in_ok-fill_tables.ensures.done c.in_ok-edit_view.ensures.done c.in_ok-shown.ensures.done)
