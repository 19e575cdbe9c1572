use Rattle.std.proofs.Common.{◌≡◌, ◌++◌, ◌∷◌, [], List, ap, arith, map, sym, take, ◌∙◌, flat_map}
use Rattle.plain_values.proofs.Common.{flat_map_more, take_all, take_more, Row}
use Rattle.view_reading.specs.Pasting.{HasNames, near_in, part_at, parts_by}
use Rattle.view_reading.proofs.PairParts.{named_at}
use Rattle.view_reading.proofs.joining.Index.parts.Goals as goal

pub loop-row-preserved : goal.loop-row-preserved
loop-row-preserved c =
    let K = c.args.kept.now in
    let ps = c.args.places.now in
    let C = c.args.self.now.cols in
    let U = c.args.left.now.cols.now in
    let entries = c.args.self.now.entries.items in
    let rows = c.rows-row-items.result.now in
    let with : Row → List Row = λ m. map (λ e. part_at K ps m e.1) (near_in entries C m) in
    let i = c.loop-row.row-index in
    let row : Row = c.row-item.result in
    let own : HasNames U row = named_at U c.args.left.now.rows.now rows i row c.requires.left c.rows-row-items.ensures c.loop-row-test.true c.row-item.is in
    let found : c.in_ok-near.near.entries.now ≡ near_in entries C row = c.in_ok-near.ensures U c.requires.places own c.loop-row.invariant.1.1 in (
      c.in_ok-add_parts.ensures
          ∙ (λ z. c.loop-row.invariant.0 z ++ map (λ e. part_at K ps row e.1) (found z))
          ∙ flat_map_more with [] (take i rows) row
          ∙ ap (flat_map with) (ap (λ r. take i rows ++ r ∷ []) c.row-item.is ∙ sym (take_more rows i row c.loop-row-test.true)),
      (found, own),
    )

pub returns : goal.returns
returns c =
    let rows = c.rows-row-items.result.now in
    c.loop-row.invariant.0
    ∙ ap (parts_by c.args.kept.now c.args.places.now c.args.self.now.cols c.args.self.now.entries.items) (take_all c.loop-row.row-index rows (omega arith) ∙ c.rows-row-items.ensures)
