use Rattle.std.proofs.Common.{◌≡◌, codes, arith, rules}
use Rattle.serde_json.specs.Data.{item, no_items}
use Rattle.serde_json.specs.View.{view}
use Rattle.rehearsal.specs.Rehearsal.{edit_request, numbered, rating_of, stock_line, stock_row}
use Rattle.rehearsal.proofs.Short.{length-decimal}
use Rattle.rehearsal.proofs.Texts.{line-made_if_ok}
use Rattle.rehearsal.proofs.lines.stock_line.Goals as goal

pub returns : goal.returns
unfolding stock_line
returns c =
    let i = c.args.i in
    let request = edit_request (codes "stock") (item (stock_row i (rating_of i) (numbered (codes "t") i)) no_items) (item (stock_row i 3 (numbered (codes "n") i)) no_items) in
    let same : view c.in_ok-request.request ≡ request = search rules in
    line-made_if_ok c.json_text.result _ request c.json_text.ensures same (omega (arith, length-decimal i))
