use Rattle.std.proofs.Common.{◌≡◌, ◌++◌, ◌∷◌, [], List, take, map, sym, ap, arith, ◌∙◌, filter, flat_map}
use Rattle.plain_values.proofs.Common.{is_eq, flat_map_more, take_all, take_more, override, restrict, row_cmp, Row}
use Rattle.row_sets.proofs.joining.paired.Goals as goal

pub loop-row-preserved : goal.loop-row-preserved
loop-row-preserved c =
    let with : Row → List Row = λ m. map (λ e. override e.1 m) (filter (λ e. is_eq (row_cmp e.0 (restrict c.args.cols.now m))) c.args.index.now) in
    let i = c.loop-row.row-index in
    let row : Row = c.row-item.result in
    let found : c.in_ok-near.near.entries.now ≡ filter (λ e. is_eq (row_cmp e.0 (restrict c.args.cols.now row))) c.args.index.now = c.in_ok-near.ensures in (
      c.in_ok-append_pairs.ensures
          ∙ (λ z. c.loop-row.invariant.0 z ++ map (λ e. override e.1 row) (found z))
          ∙ flat_map_more with [] (take i c.args.rows.now) row
          ∙ ap (flat_map with) (ap (λ r. take i c.args.rows.now ++ r ∷ []) c.row-item.is ∙ sym (take_more c.args.rows.now i row c.loop-row-test.true)),
      found,
    )

pub returns : goal.returns
returns c =
    let with : Row → List Row = λ m. map (λ e. override e.1 m) (filter (λ e. is_eq (row_cmp e.0 (restrict c.args.cols.now m))) c.args.index.now) in
    c.loop-row.invariant.0 ∙ ap (flat_map with) (take_all c.loop-row.row-index c.args.rows.now (omega arith))
