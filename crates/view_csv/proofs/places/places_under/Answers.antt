use Rattle.std.proofs.Common.{◌∷◌, [], ap, arith, length, map, sym, ◌∙◌}
use Rattle.plain_values.proofs.Common.{length-append}
use Rattle.view_csv.specs.Places.{value_at}
use Rattle.csv.specs.Records.{fields_of}
use Rattle.view_csv.proofs.PlaceLemmas.{all_places_at, column_found_at, header_right_at, name_found_at, not_header_at}
use Rattle.view_csv.proofs.places.places_under.Goals as goal

pub returns-in-None-clause-is : goal.returns-in-None-clause-is
returns-in-None-clause-is c =
    not_header_at (fields_of c.args.header.now) c.args.columns.now c.pairs-pairs.result.now c.pairs-pairs.ensures c.loop-column.column-index c.column-item.result c.loop-column-test.true c.column-item.is c.in-None.ensures.is

pub returns-clause-is : goal.returns-clause-is
returns-clause-is c =
    header_right_at (fields_of c.args.header.now) c.args.columns.now c.pairs-pairs.result.now c.pairs-pairs.ensures c.loop-column.column-index (sym c.len.ensures ∙ c.if-len-pairs.false) c.loop-column-test.false c.loop-column.invariant.names

pub returns-clause-places : goal.returns-clause-places
returns-clause-places c =
    all_places_at (fields_of c.args.header.now) c.args.columns.now c.pairs-pairs.result.now c.pairs-pairs.ensures c.loop-column.column-index c.loop-column.places.items c.loop-column.invariant.as_many
    c.loop-column.auto.column-index-end c.loop-column-test.false (sym c.len.ensures ∙ c.if-len-pairs.false) c.loop-column.invariant.values

pub loop-column-preserved : goal.loop-column-preserved
loop-column-preserved c =
    let pushed = c.in_ok-push-in-Some.ensures.items in
    record {
      values = λ fields. column_found_at (fields_of c.args.header.now) c.args.columns.now c.pairs-pairs.result.now c.pairs-pairs.ensures c.loop-column.column-index c.column-item.result
          c.loop-column.places.items c.in-Some.place c.loop-column-test.true c.column-item.is c.loop-column.invariant.values c.in-Some.ensures.place fields
          ∙ ap (map (value_at fields)) (sym pushed);
      names = name_found_at (fields_of c.args.header.now) c.args.columns.now c.pairs-pairs.result.now c.pairs-pairs.ensures c.loop-column.column-index c.column-item.result
          c.loop-column-test.true c.column-item.is c.loop-column.invariant.names (sym c.in-Some.ensures.is);
      as_many = ap length pushed ∙ length-append c.loop-column.places.items ((c.in-Some.place, c.column-item.result.1) ∷ []) ∙ omega (arith, c.loop-column.invariant.as_many);
    }
