use Rattle.std.proofs.Common.{◌≡◌, ◌∙◌, ◌*◌, IfOk, ap, arith, length, subst, sym}
use Rattle.plain_values.proofs.Common.{eqb-true}
use Rattle.plain_values.specs.SortedSet as set
use Rattle.lens_specs.specs.Common.{project, union}
use Rattle.lens_laws.proofs.Common.{found_each, suspects}
use Rattle.join_delta.proofs.NoRows.{union_found}
use Rattle.join_delta.proofs.sources.suspects.Goals as goal

pub returns : goal.returns
unfolding suspects
returns g c =
    let S = c.args.sides.now.shared in
    let M = (g.A.Look.relation c.args.left.now).rows in
    let parts : c.in_ok-parts.parts ≡ project c.args.sides.now.left c.args.delta.now.remove = c.in_ok-parts.ensures ∙ ap (project c.args.sides.now.left) c.remove.ensures in
    let near : c.in_ok-near.near ≡ found_each S M (set.items c.args.change.now.add) = c.in_ok-near.ensures.found ∙ ap (λ N. found_each S M (set.items N)) c.add-2.ensures in
    record { suspects = subst (λ s. IfOk c.union.result (λ rows. rows ≡ s)) (λ i. union (parts i) (near i)) c.union.ensures; looks = λ n w. let more = ap (λ M. n * length (set.items M)) c.add-2.ensures in let now = c.find_each.ensures.looks n w in omega (arith, more, now) }

pub returns-then-is_empty : goal.returns-then-is_empty
unfolding suspects
returns-then-is_empty g c =
    let S = c.args.sides.now.shared in
    let M = (g.A.Look.relation c.args.left.now).rows in
    let parts : c.in_ok-parts.parts ≡ project c.args.sides.now.left c.args.delta.now.remove = c.in_ok-parts.ensures ∙ ap (project c.args.sides.now.left) c.remove.ensures in
    let none : length (set.items c.args.change.now.add) ≡ 0 = ap (λ N. length (set.items N)) (sym c.add.ensures) ∙ ap length (sym c.rows.ensures) ∙ eqb-true _ _ (sym c.is_empty.ensures ∙ c.if-is_empty.true) in
    record { suspects = parts ∙ sym (union_found S M (project c.args.sides.now.left c.args.delta.now.remove) (set.items c.args.change.now.add) none); looks = λ n w. omega arith }

pub returns-in_err-near-clause-looks : goal.returns-in_err-near-clause-looks
returns-in_err-near-clause-looks g c = λ n w. let more = ap (λ M. n * length (set.items M)) c.add-2.ensures in let now = c.find_each.ensures.looks n w in omega (arith, more, now)
