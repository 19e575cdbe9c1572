use Rattle.std.proofs.Common.{◌≡◌, sym, ap, ◌∙◌, subst, length, arith}
use Rattle.plain_values.specs.SortedSet as set
use Rattle.lens_specs.specs.Common.{has, minus, those}
use Rattle.fd_laws.proofs.Common.{from_minus}
use Rattle.signed_delta.specs.Disjoint.{AreApart}
use Rattle.lens_laws.proofs.Common.{count_of, rows_of}
use Rattle.signed_delta.proofs.Counts.{both_counted, minus_len, those_len}
use Rattle.signed_delta.proofs.Looks.{answered_apart, answered_is}
use Rattle.signed_delta.proofs.delta.of_touched.Goals as goal

pub present-requires : goal.present-requires
present-requires g c = λ row there. c.requires.remove row (from_minus c.args.remove.now c.args.add.now row (ap (λ M. has M row) (sym c.in_ok-rest.ensures) ∙ there)).0

pub new-requires : goal.new-requires
new-requires g c =
    let V = (g.K.Look.relation c.args.look.now).rows in
    subst (λ M. AreApart M c.in_ok-new.new) (sym c.in_ok-gone.ensures.rows)
    (subst (AreApart (those (has V) c.in_ok-rest.rest)) (sym c.in_ok-new.ensures.rows) (answered_apart V c.in_ok-rest.rest c.args.add.now))

pub returns : goal.returns
returns g c =
    let V = (g.K.Look.relation c.args.look.now).rows in
    let gone : c.in_ok-gone.gone ≡ those (has V) (minus c.args.remove.now c.args.add.now) = c.in_ok-gone.ensures.rows ∙ ap (those (has V)) c.in_ok-rest.ensures in
    record {
      delta = c.new.ensures ∙ (λ i. record { remove = gone i; add = c.in_ok-new.ensures.rows i })
          ∙ answered_is V (record { remove = c.args.remove.now; add = c.args.add.now });
      looks = λ n w.
          let rest = ap (λ s. length (set.items s)) c.in_ok-rest.ensures in
          let fewer = minus_len c.args.remove.now c.args.add.now in
          both_counted n (length (set.items c.in_ok-rest.rest)) (length (set.items c.args.remove.now)) (length (set.items c.args.add.now)) c.args.looked.now c.present.new.looked c.absent.new.looked
          (omega (arith, rest, fewer)) (c.present.ensures.looks n w) (c.absent.ensures.looks n w);
      few =
          let gone_few = those_len (has V) (minus c.args.remove.now c.args.add.now) in
          let rest_few = minus_len c.args.remove.now c.args.add.now in
          let new_few = minus_len c.args.add.now V in
          let are = ap rows_of c.new.ensures in
          let gone_is = ap count_of gone in
          let new_is = ap count_of c.in_ok-new.ensures.rows in
          omega (arith, gone_few, rest_few, new_few, are, gone_is, new_is);
    }

pub returns-in_err-gone-clause-looks : goal.returns-in_err-gone-clause-looks
returns-in_err-gone-clause-looks g c = λ n w.
    let rest = ap (λ s. length (set.items s)) c.in_ok-rest.ensures in
    let fewer = minus_len c.args.remove.now c.args.add.now in
    both_counted n (length (set.items c.in_ok-rest.rest)) (length (set.items c.args.remove.now)) (length (set.items c.args.add.now)) c.args.looked.now c.present.new.looked c.present.new.looked
    (omega (arith, rest, fewer)) (c.present.ensures.looks n w) (omega arith)

pub returns-in_err-new-clause-looks : goal.returns-in_err-new-clause-looks
returns-in_err-new-clause-looks g c = λ n w.
    let rest = ap (λ s. length (set.items s)) c.in_ok-rest.ensures in
    let fewer = minus_len c.args.remove.now c.args.add.now in
    both_counted n (length (set.items c.in_ok-rest.rest)) (length (set.items c.args.remove.now)) (length (set.items c.args.add.now)) c.args.looked.now c.present.new.looked c.absent.new.looked
    (omega (arith, rest, fewer)) (c.present.ensures.looks n w) (c.absent.ensures.looks n w)
