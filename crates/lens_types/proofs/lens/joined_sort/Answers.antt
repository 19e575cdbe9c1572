use Rattle.std.proofs.Common.{◌∙◌, ap, subst, sym}
use Rattle.plain_values.specs.declared.join_kind.JoinKind.{JoinKind}
use Rattle.lens_specs.specs.Common.{Sort, sort, join}
use Rattle.lens_types.specs.Faults.{Decides}
use Rattle.lens_types.specs.Kept.{IsKept}
use Rattle.lens_types.specs.Sorts.{natural_join}
use Rattle.lens_types.proofs.KeptLenses.{if_decided, join_kept, sort-join}
use Rattle.lens_types.proofs.lens.joined_sort.Goals as goal
use Rattle.lens_types.proofs.lens.joined_sort.Goals.{After-joined}

-- the sort is that of the whole lens
decided : (c : After-joined) (kind : JoinKind) → Decides (λ (x : Sort). x) c.joined.result tt (sort (join kind c.args.left.now c.args.right.now))
decided c kind =
    let s = c.sort.result.now in
    let t = c.sort-2.result.now in
    let verdict = sort-join kind c.args.left.now c.args.right.now s t c.args.nodes c.sort.ensures.given c.sort-2.ensures.given (c.requires kind) ∙ ap (natural_join c.args.nodes s t) (sym c.in_ok-twice.ensures) in
    subst (λ v. Decides (λ (x : Sort). x) c.joined.result tt v) (sym verdict) c.joined.ensures

pub returns-clause-sort : goal.returns-clause-sort
returns-clause-sort c = decided (goal.at.returns-clause-sort c).After-joined

pub returns-clause-kept : goal.returns-clause-kept
returns-clause-kept c = λ kind.
    let A = c.args.left.now in
    let B = c.args.right.now in
    if_decided c.joined.result tt (sort (join kind A B)) (λ s. IsKept (join kind A B) s c.args.nodes)
    (λ x e. join_kept kind A B c.sort.result.now c.sort-2.result.now x c.args.nodes c.sort.ensures.given c.sort-2.ensures.given c.sort.ensures.typed c.sort-2.ensures.typed (c.requires kind) e)
    (decided (goal.at.returns-clause-kept c).After-joined kind)
