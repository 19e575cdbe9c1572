use Rattle.std.proofs.Common.{ap, ◌∙◌, length, arith}
use Rattle.plain_values.specs.SortedSet as set
use Rattle.signed_delta.proofs.Counts.{at_end}
use Rattle.signed_delta.proofs.Looks.{listed_at, passed_are, passed_rise}
use Rattle.join_delta.specs.Shown.{is_shown}
use Rattle.join_delta.proofs.parts.shown_parts.Goals as goal

pub is_shown-requires-clause-have : goal.is_shown-requires-clause-have
is_shown-requires-clause-have g c = c.requires.have c.part-item.result
    (listed_at c.args.parts.now c.rows-part-items.result.now c.loop-part.part-index c.part-item.result c.rows-part-items.ensures c.loop-part-test.true c.part-item.is)

pub from_rising-requires : goal.from_rising-requires
from_rising-requires g c = passed_rise (is_shown c.args.shared.now (g.A.Look.relation c.args.left.now).rows c.args.removed.now) c.args.parts.now c.rows-part-items.result.now
    c.loop-part.shown.items c.loop-part.part-index c.rows-part-items.ensures c.loop-part-test.false c.loop-part.invariant.0

pub returns : goal.returns
returns g c = record {
  shown = c.from_rising.ensures ∙ passed_are (is_shown c.args.shared.now (g.A.Look.relation c.args.left.now).rows c.args.removed.now) c.args.parts.now c.rows-part-items.result.now
      c.loop-part.shown.items c.loop-part.part-index c.rows-part-items.ensures c.loop-part-test.false c.loop-part.invariant.0;
  looks = λ n w. at_end n c.loop-part.part-index (length (set.items c.args.parts.now)) c.args.looked.now c.loop-part.looked
      (omega (arith, c.loop-part.auto.part-index-end, ap length c.rows-part-items.ensures)) (c.loop-part.invariant.1 n w);
}
