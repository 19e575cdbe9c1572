use Rattle.std.proofs.Common.{◌≡◌, ◌++◌, ◌-◌, arith, ap, drop, length, slice_range, subst, take}
use Rattle.std.proofs.lemmas.Grind.{common_steps}
use Rattle.lens_io.specs.Cutting.{Cuts}
use Rattle.lens_io.proofs.Gathered.{step_ended, step_now, step_over, needs_some}
use Rattle.lens_io.proofs.cutting.gathering.find.Goals as goal

pub returns-in-Some-clause-cuts : goal.returns-in-Some-clause-cuts
returns-in-Some-clause-cuts g c = rw c.cut_at.ensures
    (step_now c.args.bytes.now.items c.as_slice.result.now c.args.last.start c.args.last.end c.args.last.taken c.args.limit c.stop-stop.result c.in-Some.at c.args.last.ended _ _
    (omega (arith, ap length c.as_slice.ensures.value)) c.requires.last.taken c.requires.last.given c.as_slice.ensures.value c.stop-stop.ensures
    c.in-Some.ensures.0 c.in-Some.ensures.1 c.in-Some.ensures.2 c.in-Some.ensures.3 c.if-last.false)

pub returns-then-last-limit-clause-cuts : goal.returns-then-last-limit-clause-cuts
returns-then-last-limit-clause-cuts g c = rw c.spent.ensures
    (step_over c.args.bytes.now.items c.as_slice.result.now c.args.last.start c.args.last.end c.args.last.taken c.args.limit c.stop-stop.result c.args.last.ended _ _
    (omega (arith, ap length c.as_slice.ensures.value)) c.requires.last.taken c.if-last-limit.true c.requires.last.given c.as_slice.ensures.value c.stop-stop.ensures
    c.in_default.ensures c.if-last.false)

pub returns-clause-asks : goal.returns-clause-asks
returns-clause-asks g c = λ needs. absurd
    (needs_some c.args.bytes.now.items c.as_slice.result.now c.args.last.start c.args.last.end c.args.last.taken c.args.limit c.stop-stop.result c.args.last.ended
    c.if-last-limit.false c.as_slice.ensures.value c.stop-stop.ensures c.in_default.ensures c.if-last.false needs)

pub returns-then-last-clause-cuts : goal.returns-then-last-clause-cuts
returns-then-last-clause-cuts g c = rw c.stopped.ensures
    (step_ended c.args.bytes.now.items c.args.bytes.now.items c.args.last.start c.args.last.end c.args.last.taken c.args.limit c.args.last.ended _ _
    c.requires.last.given c.requires.last.taken c.requires.last.ended c.if-last.true)

pub returns-clause-cuts : goal.returns-clause-cuts
returns-clause-cuts g c =
    let waiting : take (c.args.last.end - c.args.last.start) (take c.args.bytes.now.len (c.copy_within.new.self ++ drop (length c.copy_within.new.self) c.args.bytes.now.items))
    ≡ slice_range c.args.bytes.now.items c.args.last.start c.args.last.end = grind (arith, common_steps) in
    subst (λ w. Cuts c.gather.result.cut w
    (slice_range c.gather.new.bytes.items c.gather.result.line_start c.gather.result.line_end)
    (slice_range c.gather.new.bytes.items c.gather.result.start c.gather.result.end)
    c.args.last.taken c.gather.result.taken c.args.limit c.args.last.ended c.gather.result.ended
    (g.S.Source.left c.args.source.now) (g.S.Source.left c.gather.new.source) (g.S.Source.asked c.args.source.now) (g.S.Source.asked c.gather.new.source))
    waiting (rw c.if-last.false c.gather.ensures.cuts)
