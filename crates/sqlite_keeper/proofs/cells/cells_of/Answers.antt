use Rattle.std.proofs.Common.{◌∙◌, ◌++◌, ap, sym, length, rules}
use Rattle.plain_values.proofs.Common.{zip_end, zip_turn, length_push}
use Rattle.sqlite_keeper.specs.Cells.{cells_at}
use Rattle.sqlite_keeper.proofs.CellsListed.{cells_more, cells_to, cells_whole}
use Rattle.sqlite_keeper.proofs.cells.cells_of.Goals as goal

pub loop-column-preserved : goal.loop-column-preserved
loop-column-preserved c =
    let columns = c.args.columns.now in
    let values = c.args.values.now in
    let xs = c.loop-column.yielded in
    let turn =
    zip_turn columns values xs c.into_iter-column-iterator.result c.loop-column.column-iterator c.next.new.self c.next.result
    (search rules) (search rules) c.loop-column.yielded_by (c.in-Some.column, c.in-Some.value) c.in-Some.is c.next.ensures.steps in
    c.in_ok-push_cells.ensures
    ∙ ap (λ l. l ++ cells_at c.in-Some.column.now.1 c.in-Some.value.now) c.loop-column.invariant
    ∙ sym (cells_more columns values (length xs) c.in-Some.column.now c.in-Some.value.now turn)
    ∙ ap (cells_to columns values) (sym (length_push xs (c.in-Some.column, c.in-Some.value)))

pub returns : goal.returns
returns c =
    let columns = c.args.columns.now in
    let values = c.args.values.now in
    let xs = c.loop-column.yielded in
    let ended =
    zip_end columns values xs c.into_iter-column-iterator.result c.loop-column.column-iterator c.next.new.self c.next.result
    (search rules) (search rules) c.loop-column.yielded_by c.in-None.is c.next.ensures.steps in
    c.loop-column.invariant ∙ cells_whole columns values (length xs) ended
