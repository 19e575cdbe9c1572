use Rattle.std.proofs.Common.{◌+◌, arith, ap, length, refl, subst, take}
use Rattle.lens_io.proofs.Asking.{Asking, Asking-last, asked_more}
use Rattle.lens_io.proofs.Gathered.{Gathered-more, clear_more, grown, range_stop, step_failed, step_last, step_cut, step_spent, step_passed}
use Rattle.lens_io.proofs.cutting.gathering.gather.Goals as goal

pub returns-in-Err-clause-cuts : goal.returns-in-Err-clause-cuts
returns-in-Err-clause-cuts g c = rw c.stopped.ensures
    (step_failed c.args.bytes.now.items c.gather.bytes.items c.ask.new.bytes.items c.args.first c.gather.end c.args.before c.gather.taken c.args.limit _ _ _ _ _
    c.gather.invariant.first (omega (arith, c.in-Err.ensures.longer)) c.gather.invariant.counted c.gather.invariant.most c.gather.invariant.clear c.gather.invariant.gathered
    c.in-Err.ensures.front c.in-Err.ensures.kept
    (Asking-last _ _ _ c.args.limit _ _ _ _ _ _ c.gather.invariant.asking c.in-Err.ensures.call_failed refl))

pub returns-then-count-eq0-clause-cuts : goal.returns-then-count-eq0-clause-cuts
returns-then-count-eq0-clause-cuts g c = rw c.last_line.ensures
    (step_last c.args.bytes.now.items c.gather.bytes.items c.ask.new.bytes.items c.args.first c.gather.end c.in-Ok.count c.args.before c.gather.taken c.args.limit _ _ _ _ _
    c.gather.invariant.first (omega (arith, c.in-Ok.ensures.longer)) c.gather.invariant.counted c.gather.invariant.most c.gather.invariant.clear c.gather.invariant.gathered
    c.in-Ok.ensures.front c.in-Ok.ensures.came c.if-count-eq0.true (c.in-Ok.ensures.last c.if-count-eq0.true) c.gather-test.true
    (Asking-last _ _ _ c.args.limit _ _ _ _ _ _ c.gather.invariant.asking c.in-Ok.ensures.call refl))

pub returns-in-Some-clause-cuts : goal.returns-in-Some-clause-cuts
returns-in-Some-clause-cuts g c = rw c.cut_at.ensures
    (step_cut c.args.bytes.now.items c.gather.bytes.items c.ask.new.bytes.items c.as_slice.result.now c.args.first c.gather.end c.in-Ok.count c.args.before c.gather.taken c.args.limit c.stop-stop.result c.in-Some.at _ _ _ _ _
    c.gather.invariant.first (omega (arith, c.in-Ok.ensures.size, ap length c.as_slice.ensures.value)) c.gather.invariant.counted (omega (arith, c.in-Ok.ensures.bound)) (omega (arith, c.in-Ok.ensures.bound)) c.gather.invariant.clear c.gather.invariant.gathered
    c.in-Ok.ensures.front c.in-Ok.ensures.came c.as_slice.ensures.value c.stop-stop.ensures c.in-Some.ensures.0 c.in-Some.ensures.1 c.in-Some.ensures.2 c.in-Some.ensures.3
    (Asking-last _ _ _ c.args.limit _ _ _ _ _ _ c.gather.invariant.asking c.in-Ok.ensures.call refl))

pub returns-then-taken-limit-clause-cuts : goal.returns-then-taken-limit-clause-cuts
returns-then-taken-limit-clause-cuts g c = rw c.spent.ensures
    (step_spent c.args.bytes.now.items c.gather.bytes.items c.ask.new.bytes.items c.as_slice.result.now c.args.first c.gather.end c.in-Ok.count c.args.before c.gather.taken c.args.limit c.stop-stop.result _ _ _ _ _
    c.gather.invariant.first (omega (arith, c.in-Ok.ensures.size, ap length c.as_slice.ensures.value)) c.gather.invariant.counted (omega (arith, c.in-Ok.ensures.bound)) (omega (arith, c.in-Ok.ensures.bound)) c.if-taken-limit.true c.gather.invariant.most
    c.gather.invariant.clear c.gather.invariant.gathered
    c.in-Ok.ensures.front c.in-Ok.ensures.came c.as_slice.ensures.value c.stop-stop.ensures c.in_default.ensures
    (Asking-last _ _ _ c.args.limit _ _ _ _ _ _ c.gather.invariant.asking c.in-Ok.ensures.call refl))

pub gather-preserved : goal.gather-preserved
gather-preserved g c = record {
  capacity = omega (arith, c.in-Ok.ensures.capacity);
  first = omega arith;
  size = c.in-Ok.ensures.size;
  counted = omega arith;
  most = c.if-taken-limit.false;
  clear = clear_more c.gather.bytes.items c.ask.new.bytes.items c.gather.end c.in-Ok.count c.in-Ok.ensures.front c.gather.invariant.clear
      (range_stop c.ask.new.bytes.items c.as_slice.result.now c.gather.end c.in-Ok.count c.gather.taken c.args.limit c.stop-stop.result c.as_slice.ensures.value c.stop-stop.ensures c.if-taken-limit.false c.in_default.ensures);
  gathered = Gathered-more c.args.first c.args.bytes.now.items c.gather.bytes.items c.ask.new.bytes.items c.gather.end c.in-Ok.count _ _ _ c.gather.invariant.first c.in-Ok.ensures.front
      c.gather.invariant.gathered c.in-Ok.ensures.came;
  asking = subst (λ v. Asking (take c.args.first c.args.bytes.now.items) c.args.before (c.gather.taken + c.in-Ok.count) c.args.limit v (g.S.Source.asked c.args.source.now) (g.S.Source.asked c.ask.new.source))
      (grown c.args.first c.gather.bytes.items c.ask.new.bytes.items c.gather.end c.in-Ok.count c.gather.invariant.first c.in-Ok.ensures.front)
      (asked_more _ _ _ c.args.limit _ _ _ _ c.ask.new.bytes.items c.gather.end c.in-Ok.count (omega (arith, c.in-Ok.ensures.size, ap length c.as_slice.ensures.value)) c.if-count-eq0.false c.gather.invariant.asking c.in-Ok.ensures.call
      (range_stop c.ask.new.bytes.items c.as_slice.result.now c.gather.end c.in-Ok.count c.gather.taken c.args.limit c.stop-stop.result c.as_slice.ensures.value c.stop-stop.ensures c.if-taken-limit.false c.in_default.ensures));
  later = omega (arith, c.in-Ok.ensures.later);
}

pub returns-clause-cuts : goal.returns-clause-cuts
returns-clause-cuts g c =
    step_passed _ c.args.bytes.now.items c.gather.bytes.items _ _ c.args.first c.gather.end c.args.before c.gather.taken _ c.args.limit _ _ _ _ _ _ _
    c.gather.invariant.first (omega arith) c.gather-test.false c.gather.invariant.counted c.gather.invariant.clear c.gather.invariant.gathered c.gather.invariant.asking c.pass_over.ensures.passed
