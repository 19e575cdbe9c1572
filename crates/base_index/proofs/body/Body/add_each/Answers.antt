use Rattle.std.proofs.Common.{ap, sym, ◌∙◌, subst, arith}
use Rattle.plain_values.specs.SortedSet as set
use Rattle.lens_specs.specs.Common.{has}
use Rattle.lens_specs.specs.Relation.{Fits}
use Rattle.base_index.specs.Parts.{parts_of, rows_next}
use Rattle.key_index.proofs.Common.{in_list_at, contained}
use Rattle.key_index.proofs.Adding.{none_more, one_more}
use Rattle.base_index.proofs.Bodies.{kept_itself, kept_twice}
use Rattle.key_index.proofs.Fronts.{not_before}
use Rattle.base_index.proofs.body.Body.add_each.Goals as goal

pub loop-row-init : goal.loop-row-init
loop-row-init c = (c.requires.whole, sym (none_more (rows_next (parts_of c.args.self.now))), kept_itself (parts_of c.args.self.now))

pub add-requires-clause-unseen : goal.add-requires-clause-unseen
add-requires-clause-unseen c =
    ap (λ s. has s c.row-item.result) c.loop-row.invariant.2.seen
    ∙ c.requires.unseen c.row-item.result (in_list_at c.args.list.now c.loop-row.row-index c.row-item.result c.loop-row-test.true c.row-item.is)

pub add-requires-clause-absent : goal.add-requires-clause-absent
add-requires-clause-absent c =
    let row = c.row-item.result in
    let now = ap (λ s. has s row) c.loop-row.invariant.1 in
    let old = c.requires.absent row (in_list_at c.args.list.now c.loop-row.row-index row c.loop-row-test.true c.row-item.is) in
    let before = not_before c.args.list.now c.loop-row.row-index row c.requires.apart c.loop-row-test.true c.row-item.is in
    grind (arith, contained, now, old, before)

pub add-requires-clause-fits : goal.add-requires-clause-fits
add-requires-clause-fits c =
    subst (λ d. Fits d c.row-item.result) (sym c.loop-row.invariant.2.columns)
    (c.requires.fits c.row-item.result (in_list_at c.args.list.now c.loop-row.row-index c.row-item.result c.loop-row-test.true c.row-item.is))

pub returns-in_err-add-clause-kept : goal.returns-in_err-add-clause-kept
returns-in_err-add-clause-kept c = kept_twice _ _ _ c.loop-row.invariant.2 c.in_err-add.ensures.kept

pub loop-row-preserved : goal.loop-row-preserved
loop-row-preserved c = (
  c.in_ok-add.ensures.whole,
  c.in_ok-add.ensures.next ∙ ap (λ s. set.insert s c.row-item.result) c.loop-row.invariant.1
      ∙ one_more (rows_next (parts_of c.args.self.now)) c.args.list.now c.loop-row.row-index c.row-item.result c.loop-row-test.true c.row-item.is,
  kept_twice _ _ _ c.loop-row.invariant.2 c.in_ok-add.ensures.kept,
)
