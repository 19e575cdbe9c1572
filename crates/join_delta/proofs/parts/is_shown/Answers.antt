use Rattle.std.proofs.Common.{◌≡◌, ◌∙◌, IfOk, ap, subst, sym}
use Rattle.plain_values.specs.SortedSet as set
use Rattle.signed_delta.proofs.Looks.{find_by-restrict}
use Rattle.join_delta.specs.Shown.{one_stays}
use Rattle.join_delta.proofs.parts.is_shown.Goals as goal

pub returns-clause-shown : goal.returns-clause-shown
returns-clause-shown g c =
    let part = c.args.part.now in
    let near = c.in_ok-near.ensures.found ∙ sym (find_by-restrict c.args.shared.now part (g.A.Look.relation c.args.left.now).rows) in
    subst (λ rows. IfOk c.one_stays.result (λ stays. stays ≡ one_stays c.args.removed.now part rows)) (c.rows.ensures ∙ ap set.items near) c.one_stays.ensures
