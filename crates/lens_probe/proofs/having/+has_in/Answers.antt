use Rattle.std.proofs.Common.{◌≡◌, ◌∙◌, ◌+◌, ◌≤◌, ap, arith, refl, subst, sym, IfOk}
use Rattle.lens_specs.specs.Common.{get, nodes_of, view_names, has}
use Rattle.lens_probe.specs.NearRows.{AreOfJoin}
use Rattle.lens_probe.proofs.Contained.{drop_has, drop_over, join_has, join_lacks, left_of_join, left_part_fits, refused_has, right_of_join, right_part_fits, select_fits, selected_has, source_of_drop, source_of_select, table_has}
use Rattle.lens_probe.proofs.RenamedViews.{fits_in, has_in_rename, lacks_in, looks_in, size_in, source_looks}
use Rattle.lens_probe.proofs.Sizes.{both_sides, dropped_size, left_alone, look_left, look_right, look_under_dropped, look_under_selected, selected_size, table_look}
use Rattle.lens_probe.proofs.having.+has_in.Goals as goal

pub returns-in-Base-clause-there : goal.returns-in-Base-clause-there
returns-in-Base-clause-there g t c =
    let is = c.in-Base.ensures.is in
    c.has.ensures.there ∙ table_has c.args.lens.now c.in-Base.table.now c.in-Base.sort.now c.args.tables.now.present.relations c.args.row.now is

-- ---- a selection

pub has_in-requires : goal.has_in-requires
has_in-requires g t c κs within =
    let is = c.in-Select.ensures.is in (
      omega (arith, c.decreases, ap nodes_of is),
      (
        within,
        (
          subst (λ M. AreOfJoin M c.args.tables.now.present c.args.near.now) (sym is) c.requires.near,
          (
            source_of_select c.args.lens.now c.in-Select.of.now c.in-Select.pred.now c.args.tables.now.present is c.node.ensures.typed c.requires.may,
            select_fits c.args.lens.now c.in-Select.of.now c.in-Select.pred.now c.args.row.now is c.requires.fits,
          ),
        ),
      ),
    )

pub returns-then-not-holds-clause-there : goal.returns-then-not-holds-clause-there
returns-then-not-holds-clause-there g t c =
    refused_has c.args.lens.now c.in-Select.of.now c.in-Select.pred.now c.args.tables.now.present.relations c.args.row.now (c.in-Select.ensures.is)
    (sym c.holds.ensures ∙ c.if-not-holds.true)

pub returns-else-not-holds-clause-there : goal.returns-else-not-holds-clause-there
returns-else-not-holds-clause-there g t c =
    let is = c.in-Select.ensures.is in
    subst (λ b. IfOk c.has_in.result (λ there. there ≡ b))
    (selected_has c.args.lens.now c.in-Select.of.now c.in-Select.pred.now c.args.tables.now.present.relations c.args.row.now is (sym c.holds.ensures ∙ c.if-not-holds.false)) c.has_in.ensures.there

-- ---- a projection

pub find_in-requires-clause-near : goal.find_in-requires-clause-near
find_in-requires-clause-near g t c =
    let is = c.in-Drop.ensures.is in
    subst (λ M. AreOfJoin M c.args.tables.now.present c.args.near.now) (sym is) c.requires.near

pub find_in-requires-clause-asked : goal.find_in-requires-clause-asked
find_in-requires-clause-asked g t c =
    let is = c.in-Drop.ensures.is in
    source_of_drop c.args.lens.now c.in-Drop.of.now c.in-Drop.col.now c.in-Drop.by.now c.in-Drop.fill.now c.args.tables.now.present is c.node.ensures.typed c.requires.may

pub find_in-requires-clause-key : goal.find_in-requires-clause-key
find_in-requires-clause-key g t c =
    let is = c.in-Drop.ensures.is in
    drop_over c.args.lens.now c.in-Drop.of.now c.in-Drop.col.now c.in-Drop.by.now c.in-Drop.fill.now c.args.row.now is c.node.ensures.typed c.requires.fits

pub returns-in_ok-found-in-Drop-clause-there : goal.returns-in_ok-found-in-Drop-clause-there
returns-in_ok-found-in-Drop-clause-there g t c =
    let is = c.in-Drop.ensures.is in
    c.any_agrees.ensures
    ∙ drop_has c.args.lens.now c.in-Drop.of.now c.in-Drop.col.now c.in-Drop.by.now c.in-Drop.fill.now c.args.tables.now.present.relations c.args.row.now (view_names c.args.lens.now) c.in_ok-found-in-Drop.found c.rows.result.now is
    c.node.ensures.typed c.requires.fits refl c.in_ok-found-in-Drop.ensures.found c.rows.ensures

-- ---- a rename

pub rename_row-requires : goal.rename_row-requires
rename_row-requires g t c =
    let is = c.in-Rename.ensures.is in
    record { free = lacks_in c.args.lens.now c.in-Rename.of.now c.in-Rename.col.now c.in-Rename.to.now is c.node.ensures.typed c.args.row.now c.requires.fits }

pub has_in-requires-in-Rename : goal.has_in-requires-in-Rename
has_in-requires-in-Rename g t c κs within =
    let is = c.in-Rename.ensures.is in
    let A = c.in-Rename.col.now in
    let B = c.in-Rename.to.now in
    let S = c.in-Rename.of.now in
    let st = c.args.tables.now.present in (
      omega (arith, c.decreases, ap nodes_of is),
      (
        within,
        (
          subst (λ M. AreOfJoin M c.args.tables.now.present c.args.near.now) (sym is) c.requires.near,
          (
            source_looks c.args.lens.now S A B is c.node.ensures.typed st c.requires.may,
            fits_in c.args.lens.now S A B is c.node.ensures.typed st c.args.row.now c.in_ok-old_row-in-Rename.old_row c.requires.may c.requires.fits c.in_ok-old_row-in-Rename.ensures,
          ),
        ),
      ),
    )

pub returns-in_ok-old_row-in-Rename-clause-there : goal.returns-in_ok-old_row-in-Rename-clause-there
returns-in_ok-old_row-in-Rename-clause-there g t c =
    let is = c.in-Rename.ensures.is in
    subst (λ b. IfOk c.has_in-in-Rename.result (λ there. there ≡ b))
    (has_in_rename c.args.lens.now c.in-Rename.of.now c.in-Rename.col.now c.in-Rename.to.now is c.node.ensures.typed c.args.tables.now.present c.args.row.now c.in_ok-old_row-in-Rename.old_row c.requires.may c.requires.fits c.in_ok-old_row-in-Rename.ensures)
    c.has_in-in-Rename.ensures.there

-- ---- a join

pub has_in-requires-in-Join : goal.has_in-requires-in-Join
has_in-requires-in-Join g t c κs within =
    let is = c.in-Join.ensures.is in
    let cols = c.names_of.ensures in (
      omega (arith, c.decreases, ap nodes_of is),
      (
        within,
        (
          λ k d low. absurd (omega (arith, low)),
          (
            left_of_join c.in-Join.kind c.args.lens.now c.in-Join.left.now c.in-Join.right.now c.args.tables.now.present is c.node.ensures.typed c.requires.may,
            left_part_fits c.in-Join.kind c.args.lens.now c.in-Join.left.now c.in-Join.right.now c.args.row.now c.in_ok-left_row-in-Join.left_row c.names_of.result.now is c.node.ensures.typed c.requires.fits cols c.in_ok-left_row-in-Join.ensures,
          ),
        ),
      ),
    )

pub has_in-requires-in-Join-2 : goal.has_in-requires-in-Join-2
has_in-requires-in-Join-2 g t c κs within =
    let is = c.in-Join.ensures.is in
    let cols = c.names_of-in-Join.ensures in (
      omega (arith, c.decreases, ap nodes_of is),
      (
        within,
        (
          λ k d low. absurd (omega (arith, low)),
          (
            right_of_join c.in-Join.kind c.args.lens.now c.in-Join.left.now c.in-Join.right.now c.args.tables.now.present is c.node.ensures.typed c.requires.may,
            right_part_fits c.in-Join.kind c.args.lens.now c.in-Join.left.now c.in-Join.right.now c.args.row.now c.in_ok-right_row-in-Join.right_row c.names_of-in-Join.result.now is c.node.ensures.typed c.requires.fits cols
                c.in_ok-right_row-in-Join.ensures,
          ),
        ),
      ),
    )

pub returns-then-not-branch-clause-there : goal.returns-then-not-branch-clause-there
returns-then-not-branch-clause-there g t c =
    let is = c.in-Join.ensures.is in
    let cols = c.names_of.ensures in
    join_lacks c.in-Join.kind c.args.lens.now c.in-Join.left.now c.in-Join.right.now c.args.tables.now.present c.args.row.now c.in_ok-left_row-in-Join.left_row c.names_of.result.now is c.node.ensures.typed c.requires.may
    c.requires.fits cols c.in_ok-left_row-in-Join.ensures (sym c.if-not-branch.true ∙ c.in_ok-has_in-in-Join.ensures.there)

pub returns-in_ok-right_row-in-Join-clause-there : goal.returns-in_ok-right_row-in-Join-clause-there
returns-in_ok-right_row-in-Join-clause-there g t c =
    let A = c.in-Join.left.now in
    let B = c.in-Join.right.now in
    let st = c.args.tables.now.present in
    let is = c.in-Join.ensures.is in
    let left = c.names_of.ensures in
    let right = c.names_of-in-Join.ensures in
    subst (λ b. IfOk c.has_in-in-Join-2.result (λ there. there ≡ b))
    (join_has c.in-Join.kind c.args.lens.now A B st c.args.row.now c.in_ok-left_row-in-Join.left_row c.in_ok-right_row-in-Join.right_row c.names_of.result.now c.names_of-in-Join.result.now
    (has (get B st.relations) c.in_ok-right_row-in-Join.right_row) is c.node.ensures.typed c.requires.may c.requires.fits left right c.in_ok-left_row-in-Join.ensures c.in_ok-right_row-in-Join.ensures
    (sym c.if-not-branch.false ∙ c.in_ok-has_in-in-Join.ensures.there) refl)
    c.has_in-in-Join-2.ensures.there

-- ---- how many looks it takes

pub returns-in-Base-clause-looks : goal.returns-in-Base-clause-looks
returns-in-Base-clause-looks g t c = λ w few.
    let is = c.in-Base.ensures.is in
    table_look c.args.lens.now c.in-Base.table.now c.in-Base.sort.now w c.args.looked.now c.has.new.looked is c.has.ensures.looked

pub returns-else-not-holds-clause-looks : goal.returns-else-not-holds-clause-looks
returns-else-not-holds-clause-looks g t c = λ w few.
    let is = c.in-Select.ensures.is in
    subst (λ n. c.has_in.new.looked ≤ c.args.looked.now + n) (selected_size c.args.lens.now c.in-Select.of.now c.in-Select.pred.now w is)
    (c.has_in.ensures.looks w (look_under_selected c.args.lens.now c.in-Select.of.now c.in-Select.pred.now c.args.tables.now.present w is c.node.ensures.typed few))

pub returns-in_err-found-in-Drop-clause-looks : goal.returns-in_err-found-in-Drop-clause-looks
returns-in_err-found-in-Drop-clause-looks g t c = λ w few.
    let is = c.in-Drop.ensures.is in
    subst (λ n. c.find_in.new.looked ≤ c.args.looked.now + n) (dropped_size c.args.lens.now c.in-Drop.of.now c.in-Drop.col.now c.in-Drop.by.now c.in-Drop.fill.now w is)
    (c.find_in.ensures.looks w (look_under_dropped c.args.lens.now c.in-Drop.of.now c.in-Drop.col.now c.in-Drop.by.now c.in-Drop.fill.now c.args.tables.now.present w is c.node.ensures.typed few))

pub returns-in_ok-found-in-Drop-clause-looks : goal.returns-in_ok-found-in-Drop-clause-looks
returns-in_ok-found-in-Drop-clause-looks g t c = λ w few.
    let is = c.in-Drop.ensures.is in
    subst (λ n. c.find_in.new.looked ≤ c.args.looked.now + n) (dropped_size c.args.lens.now c.in-Drop.of.now c.in-Drop.col.now c.in-Drop.by.now c.in-Drop.fill.now w is)
    (c.find_in.ensures.looks w (look_under_dropped c.args.lens.now c.in-Drop.of.now c.in-Drop.col.now c.in-Drop.by.now c.in-Drop.fill.now c.args.tables.now.present w is c.node.ensures.typed few))

pub returns-in_ok-old_row-in-Rename-clause-looks : goal.returns-in_ok-old_row-in-Rename-clause-looks
returns-in_ok-old_row-in-Rename-clause-looks g t c = λ w few.
    let is = c.in-Rename.ensures.is in
    let A = c.in-Rename.col.now in
    let B = c.in-Rename.to.now in
    let S = c.in-Rename.of.now in
    subst (λ n. c.has_in-in-Rename.new.looked ≤ c.args.looked.now + n) (size_in c.args.lens.now S A B is c.node.ensures.typed w)
    (c.has_in-in-Rename.ensures.looks w (looks_in c.args.lens.now S A B is c.node.ensures.typed c.args.tables.now.present w few))

pub returns-in_err-has_in-in-Join-clause-looks : goal.returns-in_err-has_in-in-Join-clause-looks
returns-in_err-has_in-in-Join-clause-looks g t c = λ w few.
    let is = c.in-Join.ensures.is in
    left_alone c.in-Join.kind c.args.lens.now c.in-Join.left.now c.in-Join.right.now w c.args.looked.now c.has_in-in-Join.new.looked is
    (c.has_in-in-Join.ensures.looks w (look_left c.in-Join.kind c.args.lens.now c.in-Join.left.now c.in-Join.right.now c.args.tables.now.present w is c.node.ensures.typed few))

pub returns-then-not-branch-clause-looks : goal.returns-then-not-branch-clause-looks
returns-then-not-branch-clause-looks g t c = λ w few.
    let is = c.in-Join.ensures.is in
    left_alone c.in-Join.kind c.args.lens.now c.in-Join.left.now c.in-Join.right.now w c.args.looked.now c.has_in-in-Join.new.looked is
    (c.has_in-in-Join.ensures.looks w (look_left c.in-Join.kind c.args.lens.now c.in-Join.left.now c.in-Join.right.now c.args.tables.now.present w is c.node.ensures.typed few))

pub returns-in_err-right_row-in-Join-clause-looks : goal.returns-in_err-right_row-in-Join-clause-looks
returns-in_err-right_row-in-Join-clause-looks g t c = λ w few.
    let is = c.in-Join.ensures.is in
    left_alone c.in-Join.kind c.args.lens.now c.in-Join.left.now c.in-Join.right.now w c.args.looked.now c.has_in-in-Join.new.looked is
    (c.has_in-in-Join.ensures.looks w (look_left c.in-Join.kind c.args.lens.now c.in-Join.left.now c.in-Join.right.now c.args.tables.now.present w is c.node.ensures.typed few))

pub returns-in_ok-right_row-in-Join-clause-looks : goal.returns-in_ok-right_row-in-Join-clause-looks
returns-in_ok-right_row-in-Join-clause-looks g t c = λ w few.
    let A = c.in-Join.left.now in
    let B = c.in-Join.right.now in
    let is = c.in-Join.ensures.is in
    both_sides c.in-Join.kind c.args.lens.now A B w c.args.looked.now c.has_in-in-Join.new.looked c.has_in-in-Join-2.new.looked is
    (c.has_in-in-Join.ensures.looks w (look_left c.in-Join.kind c.args.lens.now A B c.args.tables.now.present w is c.node.ensures.typed few))
    (c.has_in-in-Join-2.ensures.looks w (look_right c.in-Join.kind c.args.lens.now A B c.args.tables.now.present w is c.node.ensures.typed few))
