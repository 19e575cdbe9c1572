use Rattle.std.proofs.Common.{arith, ap, length, refl, ◌∙◌}
use Rattle.lens_io.proofs.PassedOver.{pass_more, pass_cut, pass_failed, pass_last, pass_spent}
use Rattle.lens_io.proofs.cutting.gathering.pass_over.Goals as goal

pub pass-preserved : goal.pass-preserved
pass-preserved g c = record {
  capacity = omega (arith, c.in-Ok.ensures.capacity);
  most = omega arith;
  passed = pass_more c.ask.new.bytes.items c.as_slice.result.now c.args.before c.pass.taken c.in-Ok.count c.stop-stop.result c.args.limit _ _ _ _ _ _
      c.as_slice.ensures.value c.stop-stop.ensures c.if-taken-limit.false (omega (arith, c.in-Ok.ensures.size, ap length c.as_slice.ensures.value)) c.pass.invariant.passed c.in_default.ensures c.in-Ok.ensures.came
      c.if-count-eq0.false c.in-Ok.ensures.call;
  later = omega (arith, c.in-Ok.ensures.later);
}

pub returns-in-Some-clause-passed : goal.returns-in-Some-clause-passed
returns-in-Some-clause-passed g c =
    pass_cut c.ask.new.bytes.items c.as_slice.result.now c.args.before c.pass.taken c.in-Ok.count c.stop-stop.result c.args.limit c.in-Some.at _ _ _ _ _ _
    c.as_slice.ensures.value c.stop-stop.ensures (omega (arith, c.in-Ok.ensures.bound)) (omega (arith, c.in-Ok.ensures.bound)) (omega (arith, c.in-Ok.ensures.size, ap length c.as_slice.ensures.value)) c.pass.invariant.passed
    c.in-Some.ensures.1 c.in-Some.ensures.2 c.in-Some.ensures.3 c.in-Ok.ensures.came c.in-Ok.ensures.call

pub returns-then-taken-limit-clause-passed : goal.returns-then-taken-limit-clause-passed
returns-then-taken-limit-clause-passed g c = rw c.spent.ensures
    (pass_spent c.ask.new.bytes.items c.as_slice.result.now c.args.before c.pass.taken c.in-Ok.count c.stop-stop.result c.args.limit _ _ _ _ _ _
    c.as_slice.ensures.value c.stop-stop.ensures (omega (arith, c.in-Ok.ensures.bound)) c.if-taken-limit.true c.pass.invariant.most (omega (arith, c.in-Ok.ensures.bound)) (omega (arith, c.in-Ok.ensures.size, ap length c.as_slice.ensures.value))
    c.pass.invariant.passed c.in_default.ensures c.in-Ok.ensures.came c.in-Ok.ensures.call)

pub returns-in-Err-clause-passed : goal.returns-in-Err-clause-passed
returns-in-Err-clause-passed g c = rw c.stopped.ensures
    (pass_failed c.args.before c.pass.taken c.args.limit _ _ _ _ _ _ c.pass.invariant.passed c.pass.invariant.most c.in-Err.ensures.kept c.in-Err.ensures.call_failed)

pub returns-then-count-eq0-clause-passed : goal.returns-then-count-eq0-clause-passed
returns-then-count-eq0-clause-passed g c = rw c.stopped-then-count-eq0.ensures
    (pass_last c.ask.new.bytes.items c.args.before c.pass.taken c.in-Ok.count c.args.limit _ _ _ _ _ _ c.pass.invariant.passed c.pass.invariant.most c.in-Ok.ensures.came c.if-count-eq0.true (c.in-Ok.ensures.last c.if-count-eq0.true) c.in-Ok.ensures.call)
