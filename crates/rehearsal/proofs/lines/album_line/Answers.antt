use Rattle.std.proofs.Common.{◌≡◌, codes, arith, rules}
use Rattle.serde_json.specs.Data.{item, no_items}
use Rattle.serde_json.specs.View.{view}
use Rattle.rehearsal.specs.Rehearsal.{album_line, album_row, edit_request}
use Rattle.rehearsal.proofs.Short.{length-decimal}
use Rattle.rehearsal.proofs.Texts.{line-made_if_ok}
use Rattle.rehearsal.proofs.lines.album_line.Goals as goal

pub returns : goal.returns
unfolding album_line
returns c =
    let i = c.args.i in
    let request = edit_request (codes "albums") no_items (item (album_row i) no_items) in
    let same : view c.in_ok-request.request ≡ request = search rules in
    line-made_if_ok c.json_text.result _ request c.json_text.ensures same (omega (arith, length-decimal i))
