use Rattle.std.proofs.Common.{◌≡◌, ◌∙◌, ◌+◌, ◌*◌, ◌≤◌, ℕ, IfOk, ap, arith, length, subst, sym}
use Rattle.plain_values.proofs.Common.{mul-le}
use Rattle.plain_values.specs.SortedSet as set
use Rattle.lens_specs.specs.Common.{Rows, has, minus, project, those}
use Rattle.fd_laws.proofs.Common.{from_minus}
use Rattle.signed_delta.proofs.Counts.{minus_len, project_len}
use Rattle.join_delta.specs.Deleted.{free_of}
use Rattle.join_delta.specs.Shown.{is_shown}
use Rattle.join_delta.proofs.parts.free_parts.Given.{Over}
use Rattle.join_delta.proofs.parts.free_parts.Goals.{After-shown_parts}
use Rattle.join_delta.proofs.parts.free_parts.Goals as goal

pub shown_parts-requires-clause-have : goal.shown_parts-requires-clause-have
shown_parts-requires-clause-have g c =
    let m = c.args.merged.now in
    let others : c.in_ok-others.others ≡ minus (project m.sides.right m.over) m.parts = c.in_ok-others.ensures ∙ ap (λ (M : Rows). minus M m.parts) c.in_ok-parts.ensures in
    let old : c.in_ok-old.old ≡ minus c.in_ok-others.others m.right.add = c.in_ok-old.ensures ∙ ap (minus c.in_ok-others.others) c.add.ensures in
    λ row there.
    let v = from_minus c.in_ok-others.others m.right.add row (ap (λ (M : Rows). has M row) (sym old) ∙ there) in
    let w = from_minus (project m.sides.right m.over) m.parts row (ap (λ (M : Rows). has M row) (sym others) ∙ v.0) in
    c.requires.have row w.0 v.1

few_asked : (g : Over) (c : After-shown_parts g) (n : ℕ) → g.A.Look.within c.args.left.now n → c.shown_parts.new.looked ≤ c.args.looked.now + n * length (set.items c.args.merged.now.over)
few_asked g c n w =
    let all = c.shown_parts.ensures.looks n w in
    let old = ap (λ (M : Rows). length (set.items M)) c.in_ok-old.ensures in
    let fewer = minus_len c.in_ok-others.others c.add.result.now in
    let others = ap (λ (M : Rows). length (set.items M)) c.in_ok-others.ensures in
    let few = minus_len c.in_ok-parts.parts c.args.merged.now.parts in
    let parts = ap (λ (M : Rows). length (set.items M)) c.in_ok-parts.ensures in
    let some = project_len c.args.merged.now.sides.right c.args.merged.now.over in
    let less : n * length (set.items c.in_ok-old.old) ≤ n * length (set.items c.args.merged.now.over) =
    mul-le n (length (set.items c.in_ok-old.old)) n (length (set.items c.args.merged.now.over)) (omega arith) (omega (arith, old, fewer, others, few, parts, some)) in
    omega (arith, all, less)

pub returns : goal.returns
returns g c =
    let M = (g.A.Look.relation c.args.left.now).rows in
    let m = c.args.merged.now in
    let others : c.in_ok-others.others ≡ minus (project m.sides.right m.over) m.parts = c.in_ok-others.ensures ∙ ap (λ (N : Rows). minus N m.parts) c.in_ok-parts.ensures in
    let old : c.in_ok-old.old ≡ minus c.in_ok-others.others m.right.add = c.in_ok-old.ensures ∙ ap (minus c.in_ok-others.others) c.add.ensures in
    let shown : c.in_ok-shown.shown ≡ those (is_shown m.sides.shared M c.args.removed.now) (minus c.in_ok-others.others m.right.add) =
    c.in_ok-shown.ensures.shown ∙ ap (those (is_shown m.sides.shared M c.args.removed.now)) old in
    let is : minus c.in_ok-others.others c.in_ok-shown.shown ≡ free_of m M c.args.removed.now =
    ap (minus c.in_ok-others.others) shown ∙ ap (λ (N : Rows). minus N (those (is_shown m.sides.shared M c.args.removed.now) (minus N m.right.add))) others in
    let e = goal.at.returns g c in
    record {
      free = subst (λ (s : Rows). IfOk c.minus-3.result (λ free. free ≡ s)) is c.minus-3.ensures;
      looks = few_asked g e.After-shown_parts;
    }

pub returns-in_err-shown-clause-looks : goal.returns-in_err-shown-clause-looks
returns-in_err-shown-clause-looks g c = let e = goal.at.returns-in_err-shown-clause-looks g c in few_asked g e.After-shown_parts
