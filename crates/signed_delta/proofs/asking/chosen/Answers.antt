use Rattle.std.proofs.Common.{ap, ◌∙◌, length, arith}
use Rattle.plain_values.specs.SortedSet as set
use Rattle.signed_delta.specs.Chosen.{is_chosen}
use Rattle.signed_delta.proofs.Counts.{at_end}
use Rattle.signed_delta.proofs.Looks.{listed_at, passed_are, passed_rise}
use Rattle.signed_delta.proofs.asking.chosen.Goals as goal

pub has-requires : goal.has-requires
has-requires g c = c.requires c.row-item.result
    (listed_at c.args.rows.now c.rows-row-items.result.now c.loop-row.row-index c.row-item.result c.rows-row-items.ensures c.loop-row-test.true c.row-item.is)

pub from_rising-requires : goal.from_rising-requires
from_rising-requires g c = passed_rise (is_chosen (g.K.Look.relation c.args.look.now).rows c.args.present) c.args.rows.now c.rows-row-items.result.now c.loop-row.some.items
    c.loop-row.row-index c.rows-row-items.ensures c.loop-row-test.false c.loop-row.invariant.0

pub returns : goal.returns
returns g c = record {
  rows = c.from_rising.ensures ∙ passed_are (is_chosen (g.K.Look.relation c.args.look.now).rows c.args.present) c.args.rows.now c.rows-row-items.result.now c.loop-row.some.items
      c.loop-row.row-index c.rows-row-items.ensures c.loop-row-test.false c.loop-row.invariant.0;
  looks = λ n w. at_end n c.loop-row.row-index (length (set.items c.args.rows.now)) c.args.looked.now c.loop-row.looked
      (omega (arith, c.loop-row.auto.row-index-end, ap length c.rows-row-items.ensures)) (c.loop-row.invariant.1 n w);
}
