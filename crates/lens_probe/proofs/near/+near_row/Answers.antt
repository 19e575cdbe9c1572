use Rattle.std.proofs.Common.{◌+◌, ◌≤◌, ap, arith, subst, sym}
use Rattle.lens_specs.specs.Common.{nodes_of}
use Rattle.lens_probe.specs.NearRows.{AreOfJoin}
use Rattle.lens_probe.proofs.Contained.{drop_over, select_fits, source_of_drop, source_of_select}
use Rattle.lens_probe.proofs.RenamedViews.{fits_in, lacks_in, looks_in, size_in, source_looks}
use Rattle.lens_probe.proofs.Sizes.{dropped_size, look_under_dropped, look_under_selected, selected_size}
use Rattle.lens_probe.proofs.near.+near_row.Goals as goal

-- ---- a selection

pub near_row-requires : goal.near_row-requires
near_row-requires g t c κs within =
    let is = c.in-Select.ensures.is in (
      omega (arith, c.decreases, ap nodes_of is),
      (
        within,
        (
          source_of_select c.args.lens.now c.in-Select.of.now c.in-Select.pred.now c.args.tables.now.present is c.node.ensures.typed c.requires.may,
          (
            select_fits c.args.lens.now c.in-Select.of.now c.in-Select.pred.now c.args.row.now is c.requires.fits,
            subst (λ M. AreOfJoin M c.args.tables.now.present c.args.known.items) (sym is) c.requires.known,
          ),
        ),
      ),
    )

pub returns-in-Select-clause-looks : goal.returns-in-Select-clause-looks
returns-in-Select-clause-looks g t c = λ w few.
    let is = c.in-Select.ensures.is in
    subst (λ n. c.near_row.new.looked ≤ c.args.looked.now + n) (selected_size c.args.lens.now c.in-Select.of.now c.in-Select.pred.now w is)
    (c.near_row.ensures.looks w (look_under_selected c.args.lens.now c.in-Select.of.now c.in-Select.pred.now c.args.tables.now.present w is c.node.ensures.typed few))

-- ---- a rename

pub rename_row-requires : goal.rename_row-requires
rename_row-requires g t c =
    let is = c.in-Rename.ensures.is in
    record { free = lacks_in c.args.lens.now c.in-Rename.of.now c.in-Rename.col.now c.in-Rename.to.now is c.node.ensures.typed c.args.row.now c.requires.fits }

pub near_row-requires-in-Rename : goal.near_row-requires-in-Rename
near_row-requires-in-Rename g t c κs within =
    let is = c.in-Rename.ensures.is in
    let A = c.in-Rename.col.now in
    let B = c.in-Rename.to.now in
    let S = c.in-Rename.of.now in
    let st = c.args.tables.now.present in (
      omega (arith, c.decreases, ap nodes_of is),
      (
        within,
        (
          source_looks c.args.lens.now S A B is c.node.ensures.typed st c.requires.may,
          (
            fits_in c.args.lens.now S A B is c.node.ensures.typed st c.args.row.now c.in_ok-old_row-in-Rename.old_row c.requires.may c.requires.fits c.in_ok-old_row-in-Rename.ensures,
            subst (λ M. AreOfJoin M c.args.tables.now.present c.args.known.items) (sym is) c.requires.known,
          ),
        ),
      ),
    )

pub returns-in_ok-old_row-in-Rename-clause-looks : goal.returns-in_ok-old_row-in-Rename-clause-looks
returns-in_ok-old_row-in-Rename-clause-looks g t c = λ w few.
    let is = c.in-Rename.ensures.is in
    let A = c.in-Rename.col.now in
    let B = c.in-Rename.to.now in
    let S = c.in-Rename.of.now in
    subst (λ n. c.near_row-in-Rename.new.looked ≤ c.args.looked.now + n) (size_in c.args.lens.now S A B is c.node.ensures.typed w)
    (c.near_row-in-Rename.ensures.looks w (looks_in c.args.lens.now S A B is c.node.ensures.typed c.args.tables.now.present w few))

-- ---- a projection

pub near_part-requires-clause-asked : goal.near_part-requires-clause-asked
near_part-requires-clause-asked g t c =
    let is = c.in-Drop.ensures.is in
    source_of_drop c.args.lens.now c.in-Drop.of.now c.in-Drop.col.now c.in-Drop.by.now c.in-Drop.fill.now c.args.tables.now.present is c.node.ensures.typed c.requires.may

pub near_part-requires-clause-key : goal.near_part-requires-clause-key
near_part-requires-clause-key g t c =
    let is = c.in-Drop.ensures.is in
    drop_over c.args.lens.now c.in-Drop.of.now c.in-Drop.col.now c.in-Drop.by.now c.in-Drop.fill.now c.args.row.now is c.node.ensures.typed c.requires.fits

pub near_part-requires-clause-known : goal.near_part-requires-clause-known
near_part-requires-clause-known g t c =
    let is = c.in-Drop.ensures.is in
    subst (λ M. AreOfJoin M c.args.tables.now.present c.args.known.items) (sym is) c.requires.known

pub returns-in-Drop-clause-looks : goal.returns-in-Drop-clause-looks
returns-in-Drop-clause-looks g t c = λ w few.
    let is = c.in-Drop.ensures.is in
    subst (λ n. c.near_part.new.looked ≤ c.args.looked.now + n) (dropped_size c.args.lens.now c.in-Drop.of.now c.in-Drop.col.now c.in-Drop.by.now c.in-Drop.fill.now w is)
    (c.near_part.ensures.looks w (look_under_dropped c.args.lens.now c.in-Drop.of.now c.in-Drop.col.now c.in-Drop.by.now c.in-Drop.fill.now c.args.tables.now.present w is c.node.ensures.typed few))
