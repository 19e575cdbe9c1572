use Rattle.std.proofs.Common.{◌≤◌, ◌<◌, ◌∙◌, arith, length, subst, sym, take}
use Rattle.plain_values.proofs.Common.{zip, take_all, length-zip, get_or-zip}
use Rattle.plain_values.specs.ValueOrder.{derived_cmp}
use Rattle.plain_values.specs.declared.value.Value.{Value}
use Rattle.lens_specs.specs.Common.{Name}
use Rattle.view_reading.specs.KnownRows.{AreAmong}
use Rattle.view_reading.proofs.KnownParts.{one_more}
use Rattle.view_reading.proofs.known.pairs_cmp.Goals as goal
use Rattle.view_reading.proofs.known.pairs_cmp.Goals.{then-eq+in-Equal, else-eq}

pub loop-i-preserved : goal.loop-i-preserved
loop-i-preserved c =
    let names = c.args.known.now in
    let values = c.args.values.now in
    let others = c.args.others.now in
    let their = c.args.their.now in
    let i = c.loop-i.i in
    let j = c.loop-i.j in
    let in_names : i < length names = c.loop-i-test.true in
    let in_others : j < length others = c.if-j-others.true in
    let in_values : i < length values = omega (arith, in_names, c.requires.known) in
    let in_their : j < length their = omega (arith, in_others, c.requires.others) in
    elim c.if-eq.branch [
      | then-eq+in-Equal w ↦
          let p : Name × Value = (c.index-known-i.result, w.index-values-i.result) in
          let q : Name × Value = (c.index-others-j.result, w.index-their-j.result) in
          record {
            known = omega (arith, in_names, w.i-is);
            others = omega (arith, in_others);
            so_far = subst (λ n. AreAmong (take n (zip names values)) (zip others their)) (sym w.i-is)
                (one_more (zip names values) (zip others their) i j p q
                (omega (arith, in_names, in_values, length-zip names values)) (omega (arith, in_others, in_their, length-zip others their))
                ((λ k. (c.index-known-i.is k, w.index-values-i.is k)) ∙ sym (get_or-zip names values i p in_names in_values))
                ((λ k. (c.index-others-j.is k, w.index-their-j.is k)) ∙ sym (get_or-zip others their j q in_others in_their))
                c.loop-i.invariant.so_far (sym w.if-eq.true ∙ c.eq.ensures) (sym (derived_cmp p.1 q.1) ∙ sym w.cmp.ensures ∙ w.in-Equal.is));
          }
      | else-eq w ↦ record {
        known = omega (arith, c.loop-i.invariant.known, w.i-is);
        others = omega (arith, in_others);
        so_far = subst (λ n. AreAmong (take n (zip names values)) (zip others their)) (sym w.i-is) c.loop-i.invariant.so_far;
      }
    ]

pub returns-else-i-known : goal.returns-else-i-known
returns-else-i-known c = λ _.
    let pairs = zip c.args.known.now c.args.values.now in
    let all : length pairs ≤ c.loop-i.i = omega (arith, c.if-i-known.false, length-zip c.args.known.now c.args.values.now) in
    subst (λ l. AreAmong l (zip c.args.others.now c.args.their.now)) (take_all c.loop-i.i pairs all) c.loop-i.invariant.so_far
