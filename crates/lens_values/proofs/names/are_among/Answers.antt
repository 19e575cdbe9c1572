use Rattle.std.proofs.Common.{◌≡◌, ◌<◌, ◌+◌, ◌∙◌, ap, sym, arith, drop, length, get_or}
use Rattle.plain_values.proofs.Common.{eq_by_cmp, nat_list_cmp_total, texts_ties, bytes_cmp}
use Rattle.lens_values.proofs.Among.{meets_all, met, meets, misses, all_met, at_end}
use Rattle.lens_values.proofs.names.are_among.Goals as goal
use Rattle.lens_values.proofs.names.are_among.Goals.{then-eq, else-eq}

pub loop-other-preserved : goal.loop-other-preserved
loop-other-preserved c =
    let names = c.args.names.now in
    let others = c.args.others.now in
    let i = c.loop-other.met in
    let j = c.loop-other.other-index in
    let own = c.index-names-met.result in
    let other = c.other-item.result in
    let within : i < length names = omega (arith, c.loop-other.invariant.in_range, c.if-met-names.false) in
    let same : eq_by_cmp bytes_cmp (get_or names i own) (get_or others j other) ≡ c.eq.result =
    (λ k. eq_by_cmp bytes_cmp (sym c.index-names-met.is k) (sym c.other-item.is k)) ∙ sym (texts_ties own other) ∙ sym c.eq.ensures in
    record {
      in_range = elim c.if-eq.branch [
        | then-eq w ↦ omega (arith, w.met-is, within)
        | else-eq w ↦ omega (arith, w.met-is, within)
      ];
      rest = elim c.if-eq.branch [
        | then-eq w ↦
            ap (λ m. meets_all bytes_cmp (drop m names) (drop (j + 1) others)) w.met-is
            ∙ sym (meets bytes_cmp names others i j own other within c.loop-other-test.true (same ∙ w.if-eq.true)) ∙ c.loop-other.invariant.rest
        | else-eq w ↦
            ap (λ m. meets_all bytes_cmp (drop m names) (drop (j + 1) others)) w.met-is
            ∙ sym (misses bytes_cmp names others i j own other within c.loop-other-test.true (same ∙ w.if-eq.false)) ∙ c.loop-other.invariant.rest
      ];
    }

pub returns-then-met-names : goal.returns-then-met-names
returns-then-met-names c =
    sym (all_met bytes_cmp c.args.names.now c.args.others.now c.loop-other.met c.loop-other.other-index c.if-met-names.true) ∙ c.loop-other.invariant.rest ∙ met nat_list_cmp_total c.args.names.now c.args.others.now c.requires.names c.requires.others

pub returns : goal.returns
returns c =
    at_end bytes_cmp c.args.names.now c.args.others.now c.loop-other.met c.loop-other.other-index c.loop-other.invariant.in_range (omega (arith, c.loop-other-test.false))
    ∙ c.loop-other.invariant.rest ∙ met nat_list_cmp_total c.args.names.now c.args.others.now c.requires.names c.requires.others
