use Rattle.std.proofs.Common.{◌∷◌, [], arith, sym, codes}
use Rattle.rehearsal.specs.Rehearsal.{read_line}
use Rattle.rehearsal.specs.Summary.{rows_data}
use Rattle.rehearsal.proofs.Points.{Halted-after, Halted-early, Passed-append, Room-Passed, on_err}
use Rattle.rehearsal.proofs.rehearsing.read_all.Goals as goal

pub returns-in_err-albums-clause-halted : goal.returns-in_err-albums-clause-halted
returns-in_err-albums-clause-halted g c =
    on_err c.from_residual.result _ (Halted-early _ _ _ (read_line (codes "tracks") ∷ read_line (codes "stock") ∷ []) c.in_err-albums.ensures.halted)

pub read-requires-2-clause-room : goal.read-requires-2-clause-room
read-requires-2-clause-room g c = Room-Passed _ _ _ _ 3 1 c.requires.room c.in_ok-albums.ensures.done.1 (omega arith)

pub returns-in_err-tracks-clause-halted : goal.returns-in_err-tracks-clause-halted
returns-in_err-tracks-clause-halted g c =
    on_err c.from_residual-in_err-tracks.result _
    (Halted-after _ _ _ _ _ _ c.in_ok-albums.ensures.done.1 (Halted-early _ _ _ (read_line (codes "stock") ∷ []) c.in_err-tracks.ensures.halted))

pub read-requires-3-clause-room : goal.read-requires-3-clause-room
read-requires-3-clause-room g c =
    Room-Passed _ _ _ _ 3 1 c.requires.room (Passed-append _ _ _ _ _ _ _ c.in_ok-albums.ensures.done.1 c.in_ok-tracks.ensures.done.1) (omega arith)

pub returns-in_err-stock-clause-halted : goal.returns-in_err-stock-clause-halted
returns-in_err-stock-clause-halted g c =
    on_err c.from_residual-in_err-stock.result _
    (Halted-after _ _ _ _ _ _ (Passed-append _ _ _ _ _ _ _ c.in_ok-albums.ensures.done.1 c.in_ok-tracks.ensures.done.1) c.in_err-stock.ensures.halted)

pub returns-clause-done : goal.returns-clause-done
returns-clause-done g c =
    let albums = c.in_ok-albums.ensures.done in
    let tracks = c.in_ok-tracks.ensures.done in
    let stock = c.in_ok-stock.ensures.done in (
      albums.0 ∷ tracks.0 ∷ stock.0 ∷ [],
      Passed-append _ _ _ _ _ _ _ (Passed-append _ _ _ _ _ _ _ albums.1 tracks.1) stock.1,
      λ i. rows_data (sym albums.2 i) (sym tracks.2 i) (sym stock.2 i),
    )
