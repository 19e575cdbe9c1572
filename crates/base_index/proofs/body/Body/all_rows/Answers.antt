use Rattle.std.proofs.Common.{◌≡◌, sym, ◌∙◌, subst, rules, IfOk, length}
use Rattle.plain_values.specs.SortedSet as set
use Rattle.key_index.proofs.Common.{rows_of, slice_behind}
use Rattle.base_index.specs.Parts.{parts_of, to_come, to_go}
use Rattle.base_index.proofs.Bodies.{none_hidden}
use Rattle.base_index.proofs.body.Body.all_rows.Goals as goal

pub returns-then-count-eq0 : goal.returns-then-count-eq0
returns-then-count-eq0 c =
    let b = parts_of c.args.self.now in
    let none : length (set.items b.hidden) ≡ 0 = search rules in
    c.in_ok-old.ensures
    ∙ (λ i. set.difference (c.in_ok-rows.ensures i) (rows_of (slice_behind c.deref.result.now c.args.self.now.add.items c.args.self.now.added c.deref.ensures.value i)))
    ∙ sym (none_hidden (set.difference b.rows (to_come b)) b.hidden (to_go b) none)

pub returns : goal.returns
returns c =
    let old = c.in_ok-old.ensures
    ∙ (λ i. set.difference (c.in_ok-rows.ensures i) (rows_of (slice_behind c.deref.result.now c.args.self.now.add.items c.args.self.now.added c.deref.ensures.value i))) in
    let gone = c.in_ok-gone.ensures
    ∙ (λ i. set.difference (c.in_ok-hidden.ensures i) (rows_of (slice_behind c.deref-2.result.now c.args.self.now.remove.items c.args.self.now.removed c.deref-2.ensures.value i))) in
    subst (λ s. IfOk c.minus.result (λ all. all ≡ s)) (λ i. set.difference (old i) (gone i)) c.minus.ensures
