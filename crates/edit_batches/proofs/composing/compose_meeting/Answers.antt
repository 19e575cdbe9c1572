use Rattle.std.proofs.Common.{ap, sym, ◌∙◌}
use Rattle.lens_specs.specs.Common.{has}
use Rattle.edit_batches.proofs.Moves.{pair_apart}
use Rattle.plain_values.specs.SortedSet as set
use Rattle.edit_batches.proofs.composing.compose_meeting.Goals as goal

pub new-requires : goal.new-requires
new-requires c = λ row there.
    let d = c.args.before.now in
    let e = c.args.later.now in
    let before = c.sides.ensures in
    let later = c.sides-2.ensures in
    let gone = c.in_ok-gone.ensures ∙ (λ i. set.difference (before.remove i) (later.add i)) in
    let gone_later = c.in_ok-gone_later.ensures ∙ (λ i. set.difference (later.remove i) (before.add i)) in
    let come = c.in_ok-come.ensures ∙ (λ i. set.difference (before.add i) (later.remove i)) in
    let come_later = c.in_ok-come_later.ensures ∙ (λ i. set.difference (later.add i) (before.remove i)) in
    let remove = c.in_ok-remove.ensures ∙ (λ i. set.union (gone i) (gone_later i)) in
    let add = c.in_ok-add.ensures ∙ (λ i. set.union (come i) (come_later i)) in
    ap (λ s. has s row) add ∙ pair_apart d e before.apart later.apart row (ap (λ s. has s row) (sym remove) ∙ there)
