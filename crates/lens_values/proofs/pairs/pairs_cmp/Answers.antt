use Rattle.std.proofs.Common.{◌∙◌, ap, sym, arith, ◌≡◌, ◌<◌, ◌+◌, length, drop, min, ℕ, List}
use Rattle.plain_values.proofs.Common.{slice_cmp, zip, nat_cmp, ordering_then, length-zip, get_or-zip, pair_cmp}
use Rattle.plain_values.specs.declared.value.Value.{Value}
use Rattle.lens_values.proofs.Comparing.{cmp_at, cmp_ends, then_other}
use Rattle.lens_values.proofs.pairs.pairs_cmp.Goals as goal

pub loop-place-preserved : goal.loop-place-preserved
loop-place-preserved c =
    let names = c.args.names.now in
    let values = c.args.values.now in
    let others = c.args.others.now in
    let their = c.args.their.now in
    let place = c.loop-place.place in
    let mine : List ℕ × Value = (c.index-names-place.result, c.index-values-place.result) in
    let its : List ℕ × Value = (c.index-others-place.result, c.index-their-place.result) in
    let rest = slice_cmp pair_cmp (drop (place + 1) (zip names values)) (drop (place + 1) (zip others their)) in
    let end : place < min (length values) (length their) = omega (arith, c.loop-place-test.true, c.min-place-end.ensures) in
    let own : place < length (zip names values) = omega (arith, end, length-zip names values, c.requires.names) in
    let other : place < length (zip others their) = omega (arith, end, length-zip others their, c.requires.others) in
    c.loop-place.invariant
    ∙ cmp_at pair_cmp (zip names values) (zip others their) place mine its own other
    ((λ i. (c.index-names-place.is i, c.index-values-place.is i)) ∙ sym (get_or-zip names values place mine (omega (arith, end, c.requires.names)) (omega (arith, end))))
    ((λ i. (c.index-others-place.is i, c.index-their-place.is i)) ∙ sym (get_or-zip others their place its (omega (arith, end, c.requires.others)) (omega (arith, end))))
    ∙ ap (λ o. ordering_then o rest) (sym c.in-Equal.ensures)

pub returns-in_default : goal.returns-in_default
returns-in_default c =
    let names = c.args.names.now in
    let values = c.args.values.now in
    let others = c.args.others.now in
    let their = c.args.their.now in
    let place = c.loop-place.place in
    let mine : List ℕ × Value = (c.index-names-place.result, c.index-values-place.result) in
    let its : List ℕ × Value = (c.index-others-place.result, c.index-their-place.result) in
    let rest = slice_cmp pair_cmp (drop (place + 1) (zip names values)) (drop (place + 1) (zip others their)) in
    let end : place < min (length values) (length their) = omega (arith, c.loop-place-test.true, c.min-place-end.ensures) in
    let own : place < length (zip names values) = omega (arith, end, length-zip names values, c.requires.names) in
    let other : place < length (zip others their) = omega (arith, end, length-zip others their, c.requires.others) in
    sym (c.loop-place.invariant
    ∙ cmp_at pair_cmp (zip names values) (zip others their) place mine its own other
    ((λ i. (c.index-names-place.is i, c.index-values-place.is i)) ∙ sym (get_or-zip names values place mine (omega (arith, end, c.requires.names)) (omega (arith, end))))
    ((λ i. (c.index-others-place.is i, c.index-their-place.is i)) ∙ sym (get_or-zip others their place its (omega (arith, end, c.requires.others)) (omega (arith, end))))
    ∙ ap (λ o. ordering_then o rest) (sym c.pair_cmp.ensures) ∙ then_other c.pair_cmp.result rest c.in_default.not-Equal)

pub returns : goal.returns
returns c =
    let own = zip c.args.names.now c.args.values.now in
    let other = zip c.args.others.now c.args.their.now in
    let long : length own ≡ length c.args.values.now = omega (arith, length-zip c.args.names.now c.args.values.now, c.requires.names) in
    let their : length other ≡ length c.args.their.now = omega (arith, length-zip c.args.others.now c.args.their.now, c.requires.others) in
    let end : c.loop-place.place ≡ min (length own) (length other) = omega (arith, long, their, c.loop-place-test.false, c.loop-place.auto.place-end, c.min-place-end.ensures) in
    c.cmp.ensures ∙ (λ i. nat_cmp (sym long i) (sym their i)) ∙ sym (cmp_ends pair_cmp own other) ∙ ap (λ n. slice_cmp pair_cmp (drop n own) (drop n other)) (sym end) ∙ sym c.loop-place.invariant
