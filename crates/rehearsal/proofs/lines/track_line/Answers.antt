use Rattle.std.proofs.Common.{◌≡◌, ◌+◌, ◌%◌, codes, arith, rules}
use Rattle.serde_json.specs.Data.{item, no_items}
use Rattle.serde_json.specs.View.{view}
use Rattle.rehearsal.specs.Rehearsal.{edit_request, track_line, track_row}
use Rattle.rehearsal.proofs.Short.{length-decimal}
use Rattle.rehearsal.proofs.Texts.{line-made_if_ok}
use Rattle.rehearsal.proofs.lines.track_line.Goals as goal

pub returns : goal.returns
unfolding track_line
returns c =
    let i = c.args.i in
    let request = edit_request (codes "tracks") no_items (item (track_row i i) (item (track_row i ((i + 1) % c.args.number)) no_items)) in
    let same : view c.in_ok-request.request ≡ request = search rules in
    line-made_if_ok c.json_text.result _ request c.json_text.ensures same (omega (arith, length-decimal i, length-decimal ((i + 1) % c.args.number)))
