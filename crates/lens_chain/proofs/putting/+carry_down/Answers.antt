use Rattle.std.proofs.Common.{◌≡◌, ◌∙◌, ap, subst, sym, OnOk}
use Rattle.lens_specs.specs.Common.{base, select, drop, rename, join}
use Rattle.lens_probe.specs.Viewed.{Viewed, both_sides, only_source}
use Rattle.lens_chain.specs.Edits.{over}
use Rattle.lens_laws.proofs.Common.{rows_of}
use Rattle.lens_chain.proofs.Chain.{drop_chain, drop_is, in_table, join_chain, join_is, rename_chain, rename_is, select_chain, select_is}
use Rattle.lens_chain.proofs.EditLooks.{dropped_alone, dropped_finds, dropped_looks, joined_alone, joined_finds, joined_half, joined_looks, renamed_finds, renamed_looks, selected_alone, selected_finds, selected_looks}
use Rattle.lens_chain.proofs.putting.+carry_down.Goals as goal

pub returns-in-Base-clause-changes : goal.returns-in-Base-clause-changes
returns-in-Base-clause-changes g t c =
    let L = c.args.view.now.lens in
    let is : base c.in-Base.table.now c.in-Base.sort.now ≡ L = c.in-Base.ensures.is ∙ c.lens.ensures.lens in
    subst (λ m. OnOk c.add.result (c.add.new.self ≡ m)) (in_table L c.in-Base.table.now c.in-Base.sort.now c.args.delta (over c.args.view.now) c.args.changes.now is) c.add.ensures

-- the handed lens is a source of the view's
pub over-source-requires : goal.over-source-requires
over-source-requires g t c = ap only_source (sym (c.in-Select.ensures.is ∙ c.lens.ensures.lens))

pub over-source-requires-in-Drop : goal.over-source-requires-in-Drop
over-source-requires-in-Drop g t c = ap only_source (sym (c.in-Drop.ensures.is ∙ c.lens.ensures.lens))

pub over-source-requires-in-Rename : goal.over-source-requires-in-Rename
over-source-requires-in-Rename g t c = ap only_source (sym (c.in-Rename.ensures.is ∙ c.lens.ensures.lens))

pub over_sides-left-requires : goal.over_sides-left-requires
over_sides-left-requires g t c =
    ap both_sides (sym (c.in-Join.ensures.is ∙ c.lens.ensures.lens))

pub returns-in_ok-change-in-Select-clause-changes : goal.returns-in_ok-change-in-Select-clause-changes
returns-in_ok-change-in-Select-clause-changes g t c =
    let v = c.args.view.now in
    let is : select c.in-Select.pred.now c.in-Select.of.now ≡ v.lens = c.in-Select.ensures.is ∙ c.lens.ensures.lens in
    let same = select_chain v c.in-Select.pred.now c.in-Select.of.now is c.over-source.result c.over-source.ensures c.args.delta c.in_ok-change-in-Select.change c.args.changes.now c.in_ok-change-in-Select.ensures.change in
    subst (λ m. OnOk c.carry_down.result (c.carry_down.new.changes ≡ m)) same c.carry_down.ensures.changes

pub returns-in_ok-filled-in-Drop-clause-changes : goal.returns-in_ok-filled-in-Drop-clause-changes
returns-in_ok-filled-in-Drop-clause-changes g t c =
    let v = c.args.view.now in
    let is : drop c.in-Drop.col.now c.in-Drop.by.now c.in-Drop.fill.now c.in-Drop.of.now ≡ v.lens = c.in-Drop.ensures.is ∙ c.lens.ensures.lens in
    let same = drop_chain v c.in-Drop.col.now c.in-Drop.by.now c.in-Drop.fill.now c.in-Drop.of.now is c.over-source-in-Drop.result c.over-source-in-Drop.ensures c.args.delta c.in_ok-filled-in-Drop.filled c.args.changes.now c.in_ok-filled-in-Drop.ensures.change in
    subst (λ m. OnOk c.carry_down-in-Drop.result (c.carry_down-in-Drop.new.changes ≡ m)) same c.carry_down-in-Drop.ensures.changes

pub returns-in_ok-renamed-in-Rename-clause-changes : goal.returns-in_ok-renamed-in-Rename-clause-changes
returns-in_ok-renamed-in-Rename-clause-changes g t c =
    let v = c.args.view.now in
    let is : rename c.in-Rename.col.now c.in-Rename.to.now c.in-Rename.of.now ≡ v.lens = c.in-Rename.ensures.is ∙ c.lens.ensures.lens in
    let same = rename_chain v c.in-Rename.col.now c.in-Rename.to.now c.in-Rename.of.now is c.over-source-in-Rename.result c.over-source-in-Rename.ensures c.args.delta c.in_ok-renamed-in-Rename.renamed c.args.changes.now c.in_ok-renamed-in-Rename.ensures.change in
    subst (λ m. OnOk c.carry_down-in-Rename.result (c.carry_down-in-Rename.new.changes ≡ m)) same c.carry_down-in-Rename.ensures.changes

pub returns-in_ok-carry_down-in-Join-clause-changes : goal.returns-in_ok-carry_down-in-Join-clause-changes
returns-in_ok-carry_down-in-Join-clause-changes g t c =
    let v = c.args.view.now in
    let is : join c.in-Join.kind c.in-Join.left.now c.in-Join.right.now ≡ v.lens = c.in-Join.ensures.is ∙ c.lens.ensures.lens in
    let made = c.in_ok-to_left-in-Join in
    let same = join_chain v c.in-Join.kind c.in-Join.left.now c.in-Join.right.now is c.over_sides-left.result c.over_sides-left.ensures c.args.delta made.to_left made.to_right c.args.changes.now c.carry_down-in-Join.new.changes made.ensures.left made.ensures.right c.in_ok-carry_down-in-Join.ensures.changes in
    subst (λ m. OnOk c.carry_down-in-Join-2.result (c.carry_down-in-Join-2.new.changes ≡ m)) same c.carry_down-in-Join-2.ensures.changes

-- ---- how many looks it takes

pub returns-in_err-change-in-Select-clause-looks : goal.returns-in_err-change-in-Select-clause-looks
returns-in_err-change-in-Select-clause-looks g t c = λ w few.
    let v = c.args.view.now in
    let is : select c.in-Select.pred.now c.in-Select.of.now ≡ v.lens = c.in-Select.ensures.is ∙ c.lens.ensures.lens in
    let at = select_is v c.in-Select.pred.now c.in-Select.of.now is c.over-source.result c.over-source.ensures in
    let finds = selected_finds v c.in-Select.pred.now c.in-Select.of.now is c.over-source.result at w few in
    selected_alone v c.in-Select.pred.now c.in-Select.of.now is c.over-source.result at (rows_of c.args.delta) w c.args.looked.now c.under_select.new.looked (c.under_select.ensures.looks w finds)

pub returns-in_ok-change-in-Select-clause-looks : goal.returns-in_ok-change-in-Select-clause-looks
returns-in_ok-change-in-Select-clause-looks g t c = λ w few.
    let v = c.args.view.now in
    let is : select c.in-Select.pred.now c.in-Select.of.now ≡ v.lens = c.in-Select.ensures.is ∙ c.lens.ensures.lens in
    let at = select_is v c.in-Select.pred.now c.in-Select.of.now is c.over-source.result c.over-source.ensures in
    let finds = selected_finds v c.in-Select.pred.now c.in-Select.of.now is c.over-source.result at w few in
    let change = c.in_ok-change-in-Select.change in
    selected_looks v c.in-Select.pred.now c.in-Select.of.now is c.over-source.result at (rows_of c.args.delta) (rows_of change) w c.args.looked.now c.under_select.new.looked c.carry_down.new.looked
    (c.under_select.ensures.looks w finds) (c.in_ok-change-in-Select.ensures.few w finds) (c.carry_down.ensures.looks w finds)

pub returns-in_err-filled-in-Drop-clause-looks : goal.returns-in_err-filled-in-Drop-clause-looks
returns-in_err-filled-in-Drop-clause-looks g t c = λ w few.
    let v = c.args.view.now in
    let A = c.in-Drop.col.now in let X = c.in-Drop.by.now in let a = c.in-Drop.fill.now in let C = c.in-Drop.of.now in
    let is : drop A X a C ≡ v.lens = c.in-Drop.ensures.is ∙ c.lens.ensures.lens in
    let s = c.over-source-in-Drop.result in
    let at = drop_is v A X a C is s c.over-source-in-Drop.ensures in
    let finds = dropped_finds v A X a C is s at w few in
    dropped_alone v A X a C is s at (rows_of c.args.delta) w c.args.looked.now c.under_drop.new.looked (c.under_drop.ensures.looks w finds)

pub returns-in_ok-filled-in-Drop-clause-looks : goal.returns-in_ok-filled-in-Drop-clause-looks
returns-in_ok-filled-in-Drop-clause-looks g t c = λ w few.
    let v = c.args.view.now in
    let A = c.in-Drop.col.now in let X = c.in-Drop.by.now in let a = c.in-Drop.fill.now in let C = c.in-Drop.of.now in
    let is : drop A X a C ≡ v.lens = c.in-Drop.ensures.is ∙ c.lens.ensures.lens in
    let s = c.over-source-in-Drop.result in
    let at = drop_is v A X a C is s c.over-source-in-Drop.ensures in
    let finds = dropped_finds v A X a C is s at w few in
    dropped_looks v A X a C is s at (rows_of c.args.delta) (rows_of c.in_ok-filled-in-Drop.filled) w c.args.looked.now c.under_drop.new.looked c.carry_down-in-Drop.new.looked
    (c.under_drop.ensures.looks w finds) (c.in_ok-filled-in-Drop.ensures.few w finds) (c.carry_down-in-Drop.ensures.looks w finds)

pub returns-in_ok-renamed-in-Rename-clause-looks : goal.returns-in_ok-renamed-in-Rename-clause-looks
returns-in_ok-renamed-in-Rename-clause-looks g t c = λ w few.
    let v = c.args.view.now in
    let A = c.in-Rename.col.now in let B = c.in-Rename.to.now in let C = c.in-Rename.of.now in
    let is : rename A B C ≡ v.lens = c.in-Rename.ensures.is ∙ c.lens.ensures.lens in
    let s = c.over-source-in-Rename.result in
    let at = rename_is v A B C is s c.over-source-in-Rename.ensures in
    let finds = renamed_finds v A B C is s at w few in
    renamed_looks v A B C is s at c.args.delta c.in_ok-renamed-in-Rename.renamed w c.args.looked.now c.carry_down-in-Rename.new.looked c.in_ok-renamed-in-Rename.ensures.change (c.carry_down-in-Rename.ensures.looks w finds)

pub returns-in_err-to_left-in-Join-clause-looks : goal.returns-in_err-to_left-in-Join-clause-looks
returns-in_err-to_left-in-Join-clause-looks g t c = λ w few.
    let v = c.args.view.now in
    let A = c.in-Join.left.now in let B = c.in-Join.right.now in
    let is : join c.in-Join.kind A B ≡ v.lens = c.in-Join.ensures.is ∙ c.lens.ensures.lens in
    let s : Viewed × Viewed = c.over_sides-left.result in
    let at = join_is v c.in-Join.kind A B is s c.over_sides-left.ensures in
    let finds = joined_finds v c.in-Join.kind A B is s at w few in
    let d = rows_of c.args.delta in
    joined_alone v c.in-Join.kind A B is s at d w c.args.looked.now c.under_join.new.looked (c.under_join.ensures.looks w finds.0 finds.1)

pub returns-in_err-carry_down-in-Join-clause-looks : goal.returns-in_err-carry_down-in-Join-clause-looks
returns-in_err-carry_down-in-Join-clause-looks g t c = λ w few.
    let v = c.args.view.now in
    let A = c.in-Join.left.now in let B = c.in-Join.right.now in
    let is : join c.in-Join.kind A B ≡ v.lens = c.in-Join.ensures.is ∙ c.lens.ensures.lens in
    let s : Viewed × Viewed = c.over_sides-left.result in
    let at = join_is v c.in-Join.kind A B is s c.over_sides-left.ensures in
    let finds = joined_finds v c.in-Join.kind A B is s at w few in
    let d = rows_of c.args.delta in
    let made = c.in_ok-to_left-in-Join in
    joined_half v c.in-Join.kind A B is s at d (rows_of made.to_left) w c.args.looked.now c.under_join.new.looked c.carry_down-in-Join.new.looked
    (c.under_join.ensures.looks w finds.0 finds.1) (made.ensures.left_few w finds.0 finds.1) (c.carry_down-in-Join.ensures.looks w finds.0)

pub returns-in_ok-carry_down-in-Join-clause-looks : goal.returns-in_ok-carry_down-in-Join-clause-looks
returns-in_ok-carry_down-in-Join-clause-looks g t c = λ w few.
    let v = c.args.view.now in
    let A = c.in-Join.left.now in let B = c.in-Join.right.now in
    let is : join c.in-Join.kind A B ≡ v.lens = c.in-Join.ensures.is ∙ c.lens.ensures.lens in
    let s : Viewed × Viewed = c.over_sides-left.result in
    let at = join_is v c.in-Join.kind A B is s c.over_sides-left.ensures in
    let finds = joined_finds v c.in-Join.kind A B is s at w few in
    let d = rows_of c.args.delta in
    let made = c.in_ok-to_left-in-Join in
    joined_looks v c.in-Join.kind A B is s at d (rows_of made.to_left) (rows_of made.to_right) w c.args.looked.now c.under_join.new.looked c.carry_down-in-Join.new.looked c.carry_down-in-Join-2.new.looked
    (c.under_join.ensures.looks w finds.0 finds.1) (made.ensures.left_few w finds.0 finds.1) (made.ensures.right_few w finds.0 finds.1)
    (c.carry_down-in-Join.ensures.looks w finds.0) (c.carry_down-in-Join-2.ensures.looks w finds.1)
