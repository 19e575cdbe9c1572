use Rattle.std.proofs.Common.{◌≡◌, ◌∙◌, ap, length, sym}
use Rattle.plain_values.proofs.Common.{eqb-true}
use Rattle.plain_values.specs.SortedSet as set
use Rattle.lens_specs.specs.Common.{Rows, minus, union}
use Rattle.join_delta.proofs.CarriedJoin.{fewer, fewer_apart, not_fewer}
use Rattle.join_delta.proofs.merging.without.Goals as goal

pub returns-then-is_empty : goal.returns-then-is_empty
returns-then-is_empty c =
    let none : length (set.items c.args.rows.now) ≡ 0 = ap length (sym c.rows.ensures) ∙ eqb-true _ _ (sym c.is_empty.ensures ∙ c.if-is_empty.true) in
    λ M N is sub. not_fewer M N c.args.rows.now c.args.change none is

pub new-requires : goal.new-requires
new-requires c =
    let gone : c.in_ok-gone.gone ≡ minus c.args.rows.now c.args.change.add = c.in_ok-gone.ensures ∙ ap (minus c.args.rows.now) c.add.ensures in
    let removes : c.in_ok-remove.remove ≡ union c.args.change.remove (minus c.args.rows.now c.args.change.add) = c.in_ok-remove.ensures ∙ (λ i. union (c.remove.ensures i) (gone i)) in
    let adds : c.in_ok-add.add ≡ minus c.args.change.add c.args.rows.now = c.in_ok-add.ensures ∙ ap (λ (M : Rows). minus M c.args.rows.now) c.add-2.ensures in
    fewer_apart c.args.rows.now c.args.change c.in_ok-remove.remove c.in_ok-add.add c.requires removes adds

pub returns : goal.returns
returns c =
    let gone : c.in_ok-gone.gone ≡ minus c.args.rows.now c.args.change.add = c.in_ok-gone.ensures ∙ ap (minus c.args.rows.now) c.add.ensures in
    let removes : c.in_ok-remove.remove ≡ union c.args.change.remove (minus c.args.rows.now c.args.change.add) = c.in_ok-remove.ensures ∙ (λ i. union (c.remove.ensures i) (gone i)) in
    let adds : c.in_ok-add.add ≡ minus c.args.change.add c.args.rows.now = c.in_ok-add.ensures ∙ ap (λ (M : Rows). minus M c.args.rows.now) c.add-2.ensures in
    λ M N is sub. c.new.ensures ∙ fewer M N c.args.rows.now c.args.change c.in_ok-remove.remove c.in_ok-add.add is sub removes adds
