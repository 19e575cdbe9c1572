use Rattle.std.proofs.Common.{◌+◌, ◌≤◌, ap, arith, subst, sym}
use Rattle.lens_specs.specs.Common.{nodes_of}
use Rattle.lens_probe.specs.NearRows.{AreOfJoin}
use Rattle.lens_probe.proofs.Found.{source_of_drop, source_of_select}
use Rattle.lens_probe.proofs.Sizes.{dropped_size, selected_size, under_dropped, under_selected}
use Rattle.lens_probe.proofs.near.+near_part.Goals as goal

-- ---- a selection

pub near_part-requires : goal.near_part-requires
near_part-requires g t c κs within =
    let is = c.in-Select.ensures.is in (
      omega (arith, c.decreases, ap nodes_of is),
      (
        within,
        (
          source_of_select c.args.lens.now c.in-Select.of.now c.in-Select.pred.now c.args.query.now.tables.now.present c.args.query.now.cols.now is c.node.ensures.typed c.requires.asked,
          (c.requires.key, subst (λ M. AreOfJoin M c.args.query.now.tables.now.present c.args.known.items) (sym is) c.requires.known),
        ),
      ),
    )

pub returns-in-Select-clause-looks : goal.returns-in-Select-clause-looks
returns-in-Select-clause-looks g t c = λ w few.
    let is = c.in-Select.ensures.is in
    subst (λ n. c.near_part.new.looked ≤ c.args.looked.now + n) (selected_size c.args.lens.now c.in-Select.of.now c.in-Select.pred.now w is)
    (c.near_part.ensures.looks w (under_selected c.args.lens.now c.in-Select.of.now c.in-Select.pred.now c.args.query.now.tables.now.present c.args.query.now.cols.now w is c.node.ensures.typed few))

-- ---- a projection

pub near_part-requires-in-Drop : goal.near_part-requires-in-Drop
near_part-requires-in-Drop g t c κs within =
    let is = c.in-Drop.ensures.is in (
      omega (arith, c.decreases, ap nodes_of is),
      (
        within,
        (
          source_of_drop c.args.lens.now c.in-Drop.of.now c.in-Drop.col.now c.in-Drop.by.now c.in-Drop.fill.now c.args.query.now.tables.now.present c.args.query.now.cols.now is c.node.ensures.typed c.requires.asked,
          (c.requires.key, subst (λ M. AreOfJoin M c.args.query.now.tables.now.present c.args.known.items) (sym is) c.requires.known),
        ),
      ),
    )

pub returns-in-Drop-clause-looks : goal.returns-in-Drop-clause-looks
returns-in-Drop-clause-looks g t c = λ w few.
    let is = c.in-Drop.ensures.is in
    subst (λ n. c.near_part-in-Drop.new.looked ≤ c.args.looked.now + n) (dropped_size c.args.lens.now c.in-Drop.of.now c.in-Drop.col.now c.in-Drop.by.now c.in-Drop.fill.now w is)
    (c.near_part-in-Drop.ensures.looks w (under_dropped c.args.lens.now c.in-Drop.of.now c.in-Drop.col.now c.in-Drop.by.now c.in-Drop.fill.now c.args.query.now.tables.now.present c.args.query.now.cols.now w is c.node.ensures.typed few))
