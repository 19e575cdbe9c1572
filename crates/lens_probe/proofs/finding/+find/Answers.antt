use Rattle.std.proofs.Common.{◌≡◌, ◌∙◌, ◌+◌, ◌≤◌, ap, arith, length, refl, subst, sym, IfOk, IfSome}
use Rattle.plain_values.proofs.Common.{IfOk-weaker}
use Rattle.plain_values.specs.SortedSet as set
use Rattle.lens_specs.specs.Common.{Within, share, get, nodes_of, rename, view_names, project}
use Rattle.lens_laws.proofs.Common.{find_by, IsTyped, size}
use Rattle.signed_delta.proofs.Counts.{at_end, next, one_more}
use Rattle.signed_delta.proofs.Looks.{find_by-restrict}
use Rattle.lens_probe.specs.NearRows.{AreOfJoin}
use Rattle.lens_probe.specs.Looking.{ArePartners, FindsWithin, MayFind, pairs_of}
use Rattle.lens_probe.proofs.KeyColumns.{has_shared, part_is_key}
use Rattle.lens_probe.proofs.Found.{drop_finds, found_by_whole, left_asked, left_finds, left_matches, next_pairs, partners_again, right_asked, right_finds, right_matches, rows_over, select_finds, shared_in, shown_to, found_whole, source_of_drop, source_of_select, table_finds, whole_part}
use Rattle.view_reading.proofs.RenamedRows.{new_is_free, source_over}
use Rattle.lens_probe.proofs.RenamedViews.{found_there, key_lacks, names_are, old_asked, old_finds, old_over, rename_size, renamed_finds}
use Rattle.lens_probe.proofs.Sizes.{dropped_size, left_first, left_part, left_shared, pairs_looks, part_few, right_first, right_part, right_shared, selected_size, table_looks, under_dropped, under_selected}
use Rattle.lens_probe.proofs.finding.+find.Goals as goal

pub find_in-find_in-requires : goal.find_in-find_in-requires
find_in-find_in-requires g t c κs within =
    let is = c.in-Select.ensures.is in
    (omega (arith, c.decreases, ap nodes_of is), (within, (subst (λ M. AreOfJoin M c.args.query.now.tables.now.present c.args.near.now) (sym is) c.requires.near, (source_of_select c.args.lens.now c.in-Select.of.now c.in-Select.pred.now c.args.query.now.tables.now.present c.args.query.now.cols.now is c.node.ensures.typed c.requires.asked, c.requires.key))))

pub find_in-find_parts-requires : goal.find_in-find_parts-requires
find_in-find_parts-requires g t c κs within =
    let L = c.args.lens.now in
    let st = c.args.query.now.tables.now.present in
    let C = c.args.query.now.cols.now in
    let is = c.in-Drop.ensures.is in (
      omega (arith, c.decreases, ap nodes_of is),
      (
        within,
        (
          subst (λ M. AreOfJoin M c.args.query.now.tables.now.present c.args.near.now) (sym is) c.requires.near,
          (
            subst (Within C) (sym c.names_of.ensures) (shown_to L st C c.node.ensures.typed c.requires.asked),
            (source_of_drop L c.in-Drop.of.now c.in-Drop.col.now c.in-Drop.by.now c.in-Drop.fill.now st C is c.node.ensures.typed c.requires.asked, c.requires.key),
          ),
        ),
      ),
    )

pub find_in-returns-in-Base-clause-found : goal.find_in-returns-in-Base-clause-found
find_in-returns-in-Base-clause-found g t c =
    let is = c.in-Base.ensures.is in
    table_finds c.find.result c.args.lens.now c.in-Base.table.now c.in-Base.sort.now c.args.query.now.tables.now.present.relations c.args.query.now.cols.now c.args.query.now.key.now is c.find.ensures.ok

pub find_in-returns-in_ok-found-in-Select-clause-found : goal.find_in-returns-in_ok-found-in-Select-clause-found
find_in-returns-in_ok-found-in-Select-clause-found g t c =
    let is = c.in-Select.ensures.is in
    select_finds c.selected.result c.args.lens.now c.in-Select.of.now c.in-Select.pred.now c.args.query.now.tables.now.present.relations c.args.query.now.cols.now c.args.query.now.key.now c.in_ok-found-in-Select.found is
    c.in_ok-found-in-Select.ensures.found c.selected.ensures

pub find_in-returns-in-Drop-clause-found : goal.find_in-returns-in-Drop-clause-found
find_in-returns-in-Drop-clause-found g t c =
    let S = c.in-Drop.of.now in
    let st = c.args.query.now.tables.now.present in
    let C = c.args.query.now.cols.now in
    let k = c.args.query.now.key.now in
    let is = c.in-Drop.ensures.is in
    drop_finds c.find_parts.result c.args.lens.now S c.in-Drop.col.now c.in-Drop.by.now c.in-Drop.fill.now st C c.names_of.result.now k (find_by C k (get S st.relations)) is
    c.node.ensures.typed c.requires.asked c.names_of.ensures refl c.find_parts.ensures.found

pub find_in-returns-in_default-clause-found : goal.find_in-returns-in_default-clause-found
find_in-returns-in_default-clause-found g t c =
    let L = c.args.lens.now in
    let st = c.args.query.now.tables.now.present in
    let C = c.args.query.now.cols.now in
    let k = c.args.query.now.key.now in
    let is = c.in-Join.ensures.is in
    IfOk-weaker c.find_joined.result _ _
    (λ found made. made
    ∙ (λ i. project (c.names_of-in-Join.ensures i) (find_by C k (get (is i) st.relations)))
    ∙ found_whole L st C k c.node.ensures.typed c.requires.asked.1.tables)
    c.find_joined.ensures.found

pub find_parts-find_joined-requires : goal.find_parts-find_joined-requires
find_parts-find_joined-requires g t c κs within =
    let is = c.in-Join.ensures.is in (
      omega (arith, c.decreases, ap nodes_of is),
      (
        within,
        (
          subst IsTyped (sym is) c.node.ensures.typed,
          (c.requires.kept, (subst (λ L. MayFind L c.args.query.now.tables.now.present c.args.query.now.cols.now) (sym is) c.requires.asked, c.requires.key)),
        ),
      ),
    )

pub find_parts-returns-in_default-clause-found : goal.find_parts-returns-in_default-clause-found
find_parts-returns-in_default-clause-found g t c =
    let is = c.in-Join.ensures.is in
    IfOk-weaker c.find_joined.result _ _
    (λ found made. made ∙ (λ i. project c.args.kept.now (find_by c.args.query.now.cols.now c.args.query.now.key.now (get (is i) c.args.query.now.tables.now.present.relations))))
    c.find_joined.ensures.found

pub find_parts-returns-in_ok-found-in-Base-clause-found : goal.find_parts-returns-in_ok-found-in-Base-clause-found
find_parts-returns-in_ok-found-in-Base-clause-found g t c =
    IfOk-weaker c.project-in-Base.result _ _ (λ part made. made ∙ ap (project c.args.kept.now) c.in_ok-found-in-Base.ensures.found) c.project-in-Base.ensures

pub find_in-find_joined-requires : goal.find_in-find_joined-requires
find_in-find_joined-requires g t c κs within =
    let L = c.args.lens.now in
    let st = c.args.query.now.tables.now.present in
    let C = c.args.query.now.cols.now in
    let is = c.in-Join.ensures.is in (
      omega (arith, c.decreases, ap nodes_of is),
      (
        within,
        (
          subst IsTyped (sym is) c.node.ensures.typed,
          (
            subst (Within C) (sym c.names_of-in-Join.ensures) (shown_to L st C c.node.ensures.typed c.requires.asked),
            (subst (λ L. MayFind L st C) (sym is) c.requires.asked, c.requires.key),
          ),
        ),
      ),
    )

-- ---- a rename

pub find_in-find_renamed-requires : goal.find_in-find_renamed-requires
find_in-find_renamed-requires g t c κs within =
    let is = c.in-Rename.ensures.is in (
      omega (arith, c.decreases, ap nodes_of is),
      (
        within,
        (
          subst (λ M. AreOfJoin M c.args.query.now.tables.now.present c.args.near.now) (sym is) c.requires.near,
          (
            subst IsTyped (sym is) c.node.ensures.typed,
            (subst (λ L. MayFind L c.args.query.now.tables.now.present c.args.query.now.cols.now) (sym is) c.requires.asked, c.requires.key),
          ),
        ),
      ),
    )

pub find_in-returns-in-Rename-clause-looks : goal.find_in-returns-in-Rename-clause-looks
find_in-returns-in-Rename-clause-looks g t c = λ w few.
    let is = c.in-Rename.ensures.is in
    subst (λ L. c.find_renamed.new.looked ≤ c.args.looked.now + size L w) is (c.find_renamed.ensures.looks w (subst (λ L. FindsWithin L c.args.query.now.tables.now.present c.args.query.now.cols.now w) (sym is) few))

pub find_renamed-rename_row-requires : goal.find_renamed-rename_row-requires
find_renamed-rename_row-requires g t c =
    let C = c.args.query.now.cols.now in
    let over = part_is_key C c.args.query.now.key.now c.in_ok-part.part c.requires.key c.in_ok-part.ensures in
    record { free = key_lacks c.args.col.now c.args.to.now c.args.of.now c.requires.typed c.args.query.now.tables.now.present C c.requires.asked c.in_ok-part.part over }

pub find_renamed-find_in-requires : goal.find_renamed-find_in-requires
find_renamed-find_in-requires g t c κs within =
    let A = c.args.col.now in
    let B = c.args.to.now in
    let S = c.args.of.now in
    let st = c.args.query.now.tables.now.present in
    let C = c.args.query.now.cols.now in
    let cols = names_are B A C c.in_ok-cols.cols c.in_ok-cols.ensures in
    let asked = old_asked A B S c.requires.typed st C c.requires.asked c.in_ok-cols.cols cols in
    let part = part_is_key C c.args.query.now.key.now c.in_ok-part.part c.requires.key c.in_ok-part.ensures in
    let over = old_over A B S c.requires.typed st C c.requires.asked c.in_ok-cols.cols c.in_ok-part.part c.in_ok-key.key part cols c.in_ok-key.ensures in
    (omega (arith, c.decreases), (within, (c.requires.near, (asked, λ name i. over name ∙ i))))

pub find_renamed-rename_set-requires-clause-over : goal.find_renamed-rename_set-requires-clause-over
find_renamed-rename_set-requires-clause-over g t c = λ row i.
    let st = c.args.query.now.tables.now.present in
    let there = found_there c.in_ok-cols.cols c.in_ok-key.key row (get c.args.of.now st.relations) c.in_ok-found.found c.in_ok-found.ensures.found i in
    source_over c.args.col.now c.args.to.now c.args.of.now c.requires.typed st.relations c.names_of.result.now row c.requires.asked.1.tables c.names_of.ensures there

pub find_renamed-rename_set-requires-clause-free : goal.find_renamed-rename_set-requires-clause-free
find_renamed-rename_set-requires-clause-free g t c = new_is_free c.args.col.now c.args.to.now c.args.of.now c.requires.typed c.names_of.result.now c.names_of.ensures

pub find_renamed-returns-clause-found : goal.find_renamed-returns-clause-found
find_renamed-returns-clause-found g t c =
    let C = c.args.query.now.cols.now in
    let cols = names_are c.args.to.now c.args.col.now C c.in_ok-cols.cols c.in_ok-cols.ensures in
    let shown = get (rename c.args.col.now c.args.to.now c.args.of.now) c.args.query.now.tables.now.present.relations in
    let whole : find_by C c.in_ok-part.part shown ≡ find_by C c.args.query.now.key.now shown =
    ap (λ k. find_by C k shown) c.in_ok-part.ensures ∙ find_by-restrict C c.args.query.now.key.now shown in
    subst (λ M. IfOk c.rename_set.result (λ all. all ≡ M)) whole
    (renamed_finds c.args.col.now c.args.to.now c.args.of.now c.requires.typed c.args.query.now.tables.now.present C c.requires.asked c.rename_set.result c.in_ok-cols.cols c.in_ok-part.part c.in_ok-key.key c.in_ok-found.found
    cols c.in_ok-key.ensures c.in_ok-found.ensures.found c.rename_set.ensures)

-- ---- a join

pub find_joined-pairs_from-requires : goal.find_joined-pairs_from-requires
find_joined-pairs_from-requires g t c κs within =
    let k = c.args._kind in let A = c.args.left.now in let B = c.args.right.now in
    let st = c.args.query.now.tables.now.present in
    let C = c.args.query.now.cols.now in
    let S = c.in_ok-shared.shared in
    let meets = sym (c.meets.ensures ∙ ap (share C) c.names_of.ensures) ∙ c.if-meets.true in
    let asked = left_asked k A B st C c.requires.typed c.requires.asked meets in
    let other = right_matches k A B st C c.requires.typed c.requires.asked S c.in_ok-shared.ensures in
    let shared = (shared_in k A B st C c.requires.typed c.requires.asked S c.in_ok-shared.ensures).0 in
    (omega (arith, c.decreases), (within, (c.requires.typed.0, (asked, (other, (shared, c.requires.key))))))

pub find_joined-pairs_from-requires-else-meets : goal.find_joined-pairs_from-requires-else-meets
find_joined-pairs_from-requires-else-meets g t c κs within =
    let k = c.args._kind in let A = c.args.left.now in let B = c.args.right.now in
    let st = c.args.query.now.tables.now.present in
    let C = c.args.query.now.cols.now in
    let S = c.in_ok-shared.shared in
    let apart = sym (c.meets.ensures ∙ ap (share C) c.names_of.ensures) ∙ c.if-meets.false in
    let asked = right_asked k A B st C c.requires.typed c.requires.asked apart in
    let other = left_matches k A B st C c.requires.typed c.requires.asked S c.in_ok-shared.ensures in
    let shared = (shared_in k A B st C c.requires.typed c.requires.asked S c.in_ok-shared.ensures).1 in
    (omega (arith, c.decreases), (within, (c.requires.typed.1, (asked, (other, (shared, c.requires.key))))))

pub find_joined-returns-then-meets-clause-found : goal.find_joined-returns-then-meets-clause-found
find_joined-returns-then-meets-clause-found g t c =
    left_finds c.args._kind c.args.left.now c.args.right.now c.args.query.now.tables.now.present c.args.query.now.cols.now c.requires.typed c.requires.asked c.args.query.now.key.now c.in_ok-shared.shared c.args.kept.now
    c.in_ok-shared.ensures c.requires.kept c.pairs_from.result c.pairs_from.ensures.found

pub find_joined-returns-clause-found : goal.find_joined-returns-clause-found
find_joined-returns-clause-found g t c =
    right_finds c.args._kind c.args.left.now c.args.right.now c.args.query.now.tables.now.present c.args.query.now.cols.now c.requires.typed c.requires.asked c.args.query.now.key.now c.in_ok-shared.shared c.args.kept.now
    c.in_ok-shared.ensures c.requires.kept c.pairs_from-else-meets.result c.pairs_from-else-meets.ensures.found

pub pairs_from-find_by_part-requires : goal.pairs_from-find_by_part-requires
pairs_from-find_by_part-requires g t c κs within = (omega (arith, c.decreases), (within, (c.requires.asked, c.requires.key)))

pub pairs_from-pair_each-requires : goal.pairs_from-pair_each-requires
pairs_from-pair_each-requires g t c κs within =
    let over = rows_over c.args.side.now c.args.query.now.tables.now.present c.args.query.now.cols.now c.args.shared.now c.args.query.now.key.now c.in_ok-found.found c.rows.result.now
    c.requires.typed c.requires.asked.1.tables c.requires.shared c.in_ok-found.ensures.found c.rows.ensures in
    (omega (arith, c.decreases), (within, (c.requires.other, over)))

pub pairs_from-returns-clause-found : goal.pairs_from-returns-clause-found
pairs_from-returns-clause-found g t c =
    let others = get c.args.other.now c.args.query.now.tables.now.present.relations in
    subst (λ l. IfOk c.new.result (λ pairs. pairs ≡ set.from_list l))
    (c.in_ok-pairs.ensures.pairs
    ∙ ap (pairs_of c.args.is_left c.args.shared.now c.args.kept.now c.args.query.now.cols.now c.args.query.now.key.now others) (c.rows.ensures ∙ ap set.items c.in_ok-found.ensures.found))
    c.new.ensures

-- ---- a part of the key

pub find_by_part-find_in-requires : goal.find_by_part-find_in-requires
find_by_part-find_in-requires g t c κs within =
    let whole = whole_part c.args.query.now.cols.now (view_names c.args.side.now) (sym (c.within.ensures ∙ ap (set.is_subset c.args.query.now.cols.now) c.names_of.ensures) ∙ c.if-within.true) in
    (omega (arith, c.decreases), (within, (λ k d low. absurd (omega (arith, low)), (subst (MayFind c.args.side.now c.args.query.now.tables.now.present) whole c.requires.asked, c.requires.key))))

pub find_by_part-returns-then-within-clause-found : goal.find_by_part-returns-then-within-clause-found
find_by_part-returns-then-within-clause-found g t c =
    let C = c.args.query.now.cols.now in
    let U = view_names c.args.side.now in
    let N = get c.args.side.now c.args.query.now.tables.now.present.relations in
    subst (λ M. IfOk c.find_in.result (λ found. found ≡ M)) (found_by_whole C U c.args.query.now.key.now N (whole_part C U (sym (c.within.ensures ∙ ap (set.is_subset c.args.query.now.cols.now) c.names_of.ensures) ∙ c.if-within.true))) c.find_in.ensures.found

pub find_by_part-find_in-requires-2 : goal.find_by_part-find_in-requires-2
find_by_part-find_in-requires-2 g t c κs within =
    let C = c.args.query.now.cols.now in
    let U = view_names c.args.side.now in
    let part = c.in_ok-part.ensures ∙ ap (set.intersection C) c.names_of-2.ensures in
    let key = has_shared C U c.in_ok-part.part c.args.query.now.key.now part c.requires.key in
    (omega (arith, c.decreases), (within, (λ k d low. absurd (omega (arith, low)), (subst (MayFind c.args.side.now c.args.query.now.tables.now.present) (sym part) c.requires.asked, key))))

pub find_by_part-returns-clause-found : goal.find_by_part-returns-clause-found
find_by_part-returns-clause-found g t c =
    let C = c.args.query.now.cols.now in
    let k = c.args.query.now.key.now in
    let N = get c.args.side.now c.args.query.now.tables.now.present.relations in
    let part = c.in_ok-part.ensures ∙ ap (set.intersection C) c.names_of-2.ensures in
    let U = view_names c.args.side.now in
    subst (λ M. IfOk c.find_in-2.result (λ found. found ≡ M)) (ap (λ P. find_by P k N) part ∙ sym (find_by-restrict (set.intersection C U) k N)) c.find_in-2.ensures.found

-- ---- the rows of the other side

pub pair_each-partners_of-requires : goal.pair_each-partners_of-requires
pair_each-partners_of-requires g t c κs within =
    (omega (arith, c.decreases), (within, (c.requires.asked, (c.requires.have c.row-item.result (c.loop-row.row-index, c.loop-row-test.true, sym c.row-item.is), c.loop-row.invariant.1))))

pub pair_each-loop-row-preserved : goal.pair_each-loop-row-preserved
pair_each-loop-row-preserved g t c = (
  next_pairs c.args.are_left c.args.shared.now c.args.kept.now c.args.query.now.cols.now c.args.query.now.key.now (get c.args.other.now c.args.query.now.tables.now.present.relations) c.args.rows.now c.loop-row.row-index c.row-item.result
      c.in_ok-partners.partners.rows c.rows.result.now c.loop-row.pairs.items c.add_pairs.new.pairs.items c.loop-row-test.true c.row-item.is c.in_ok-partners.ensures.rows c.rows.ensures c.loop-row.invariant.0 c.in_ok-add_pairs.ensures,
  c.in_ok-partners.ensures.partners,
  λ w few. next (size c.args.other.now w) c.loop-row.row-index c.args.looked.now c.loop-row.looked c.partners_of.new.looked (c.loop-row.invariant.2 w few) (c.partners_of.ensures.looks w few),
)

-- ---- the partners of a row

pub partners_of-find_in-requires : goal.partners_of-find_in-requires
partners_of-find_in-requires g t c κs within = (omega (arith, c.decreases), (within, (λ k d low. absurd (omega (arith, low)), (c.requires.asked, c.requires.have))))

pub partners_of-returns-then-agree_on-clause-rows : goal.partners_of-returns-then-agree_on-clause-rows
partners_of-returns-then-agree_on-clause-rows g t c =
    let S = c.args.shared.now in
    let N = get c.args.other.now c.args.query.now.tables.now.present.relations in
    let k = c.in-Some.last.key in
    let found : c.in-Some.last.rows ≡ find_by S k N = subst (λ o. IfSome o (ArePartners S N)) c.in-Some.is c.requires.last in
    partners_again S N c.args.row.now k c.in-Some.last.rows found (sym c.agree_on.ensures ∙ c.if-agree_on.true)

pub partners_of-returns-clause-partners : goal.partners_of-returns-clause-partners
partners_of-returns-clause-partners g t c =
    let N = get c.args.other.now c.args.query.now.tables.now.present.relations in
    c.in_ok-rows.ensures.found ∙ ap (λ k. find_by c.args.shared.now k N) (sym c.in_ok-key.ensures)

pub partners_of-returns-clause-rows : goal.partners_of-returns-clause-rows
partners_of-returns-clause-rows g t c =
    let S = c.args.shared.now in
    let N = get c.args.other.now c.args.query.now.tables.now.present.relations in
    c.in_ok-rows.ensures.found ∙ sym (find_by-restrict S c.args.row.now N)

-- ---- how many looks it takes

pub find_in-returns-in-Base-clause-looks : goal.find_in-returns-in-Base-clause-looks
find_in-returns-in-Base-clause-looks g t c = λ w few.
    let is = c.in-Base.ensures.is in
    table_looks c.find.result c.args.lens.now c.in-Base.table.now c.in-Base.sort.now c.args.query.now.tables.now.present c.args.query.now.cols.now c.args.query.now.key.now w c.args.looked.now c.find.new.looked is few c.find.ensures.ok c.find.ensures.looked c.find.ensures.looked_in_vain

pub find_in-returns-in_ok-found-in-Select-clause-looks : goal.find_in-returns-in_ok-found-in-Select-clause-looks
find_in-returns-in_ok-found-in-Select-clause-looks g t c = λ w few.
    let is = c.in-Select.ensures.is in
    subst (λ n. c.find_in.new.looked ≤ c.args.looked.now + n) (selected_size c.args.lens.now c.in-Select.of.now c.in-Select.pred.now w is)
    (c.find_in.ensures.looks w (under_selected c.args.lens.now c.in-Select.of.now c.in-Select.pred.now c.args.query.now.tables.now.present c.args.query.now.cols.now w is c.node.ensures.typed few))

pub find_in-returns-in_err-found-in-Select-clause-looks : goal.find_in-returns-in_err-found-in-Select-clause-looks
find_in-returns-in_err-found-in-Select-clause-looks g t c = λ w few.
    let is = c.in-Select.ensures.is in
    subst (λ n. c.find_in.new.looked ≤ c.args.looked.now + n) (selected_size c.args.lens.now c.in-Select.of.now c.in-Select.pred.now w is)
    (c.find_in.ensures.looks w (under_selected c.args.lens.now c.in-Select.of.now c.in-Select.pred.now c.args.query.now.tables.now.present c.args.query.now.cols.now w is c.node.ensures.typed few))

pub find_in-returns-in-Drop-clause-looks : goal.find_in-returns-in-Drop-clause-looks
find_in-returns-in-Drop-clause-looks g t c = λ w few.
    let is = c.in-Drop.ensures.is in
    subst (λ n. c.find_parts.new.looked ≤ c.args.looked.now + n) (dropped_size c.args.lens.now c.in-Drop.of.now c.in-Drop.col.now c.in-Drop.by.now c.in-Drop.fill.now w is)
    (c.find_parts.ensures.looks w (under_dropped c.args.lens.now c.in-Drop.of.now c.in-Drop.col.now c.in-Drop.by.now c.in-Drop.fill.now c.args.query.now.tables.now.present c.args.query.now.cols.now w is c.node.ensures.typed few))

pub find_parts-returns-in_default-clause-looks : goal.find_parts-returns-in_default-clause-looks
find_parts-returns-in_default-clause-looks g t c = λ w few.
    let is = c.in-Join.ensures.is in
    subst (λ L. c.find_joined.new.looked ≤ c.args.looked.now + size L w) is (c.find_joined.ensures.looks w (subst (λ L. FindsWithin L c.args.query.now.tables.now.present c.args.query.now.cols.now w) (sym is) few))

pub find_in-returns-in_default-clause-looks : goal.find_in-returns-in_default-clause-looks
find_in-returns-in_default-clause-looks g t c = λ w few.
    let is = c.in-Join.ensures.is in
    subst (λ L. c.find_joined.new.looked ≤ c.args.looked.now + size L w) is (c.find_joined.ensures.looks w (subst (λ L. FindsWithin L c.args.query.now.tables.now.present c.args.query.now.cols.now w) (sym is) few))

pub find_renamed-returns-in_err-found-clause-looks : goal.find_renamed-returns-in_err-found-clause-looks
find_renamed-returns-in_err-found-clause-looks g t c = λ w few.
    let A = c.args.col.now in
    let B = c.args.to.now in
    let S = c.args.of.now in
    let C = c.args.query.now.cols.now in
    let cols = names_are B A C c.in_ok-cols.cols c.in_ok-cols.ensures in
    subst (λ n. c.find_in.new.looked ≤ c.args.looked.now + n) (rename_size A B S c.requires.typed w)
    (c.find_in.ensures.looks w (old_finds A B S c.requires.typed c.args.query.now.tables.now.present C c.in_ok-cols.cols w cols few))

pub find_renamed-returns-clause-looks : goal.find_renamed-returns-clause-looks
find_renamed-returns-clause-looks g t c = λ w few.
    let A = c.args.col.now in
    let B = c.args.to.now in
    let S = c.args.of.now in
    let C = c.args.query.now.cols.now in
    let cols = names_are B A C c.in_ok-cols.cols c.in_ok-cols.ensures in
    subst (λ n. c.find_in.new.looked ≤ c.args.looked.now + n) (rename_size A B S c.requires.typed w)
    (c.find_in.ensures.looks w (old_finds A B S c.requires.typed c.args.query.now.tables.now.present C c.in_ok-cols.cols w cols few))

pub find_joined-returns-then-meets-clause-looks : goal.find_joined-returns-then-meets-clause-looks
find_joined-returns-then-meets-clause-looks g t c = λ w few.
    let k = c.args._kind in let A = c.args.left.now in let B = c.args.right.now in
    let st = c.args.query.now.tables.now.present in
    let C = c.args.query.now.cols.now in
    let meets = sym (c.meets.ensures ∙ ap (share C) c.names_of.ensures) ∙ c.if-meets.true in
    left_first k A B w c.args.looked.now c.pairs_from.new.looked
    (c.pairs_from.ensures.looks w (left_part k A B st C w c.requires.typed few meets) (right_shared k A B st C w c.requires.typed few c.in_ok-shared.shared c.in_ok-shared.ensures))

pub find_joined-returns-clause-looks : goal.find_joined-returns-clause-looks
find_joined-returns-clause-looks g t c = λ w few.
    let k = c.args._kind in let A = c.args.left.now in let B = c.args.right.now in
    let st = c.args.query.now.tables.now.present in
    let C = c.args.query.now.cols.now in
    let apart = sym (c.meets.ensures ∙ ap (share C) c.names_of.ensures) ∙ c.if-meets.false in
    right_first k A B w c.args.looked.now c.pairs_from-else-meets.new.looked
    (c.pairs_from-else-meets.ensures.looks w (right_part k A B st C w c.requires.typed few apart) (left_shared k A B st C w c.requires.typed few c.in_ok-shared.shared c.in_ok-shared.ensures))

pub pairs_from-returns-in_err-found-clause-looks : goal.pairs_from-returns-in_err-found-clause-looks
pairs_from-returns-in_err-found-clause-looks g t c = λ w few _. let looks = c.find_by_part.ensures.looks w few in omega (arith, looks)

pub pairs_from-returns-in_err-pairs-clause-looks : goal.pairs_from-returns-in_err-pairs-clause-looks
pairs_from-returns-in_err-pairs-clause-looks g t c = λ w few matches.
    let A = c.args.side.now in
    let rows = c.rows.result.now in
    let here = part_few A c.args.query.now.tables.now.present c.args.query.now.cols.now c.args.query.now.key.now w c.in_ok-found.found rows c.requires.typed few c.in_ok-found.ensures.found c.rows.ensures in
    pairs_looks (size A w) (size c.args.other.now w) (length rows) c.args.looked.now c.find_by_part.new.looked c.pair_each.new.looked here (c.find_by_part.ensures.looks w few) (c.pair_each.ensures.looks w matches)

pub pairs_from-returns-clause-looks : goal.pairs_from-returns-clause-looks
pairs_from-returns-clause-looks g t c = λ w few matches.
    let A = c.args.side.now in
    let rows = c.rows.result.now in
    let here = part_few A c.args.query.now.tables.now.present c.args.query.now.cols.now c.args.query.now.key.now w c.in_ok-found.found rows c.requires.typed few c.in_ok-found.ensures.found c.rows.ensures in
    pairs_looks (size A w) (size c.args.other.now w) (length rows) c.args.looked.now c.find_by_part.new.looked c.pair_each.new.looked here (c.find_by_part.ensures.looks w few) (c.pair_each.ensures.looks w matches)

pub find_by_part-returns-then-within-clause-looks : goal.find_by_part-returns-then-within-clause-looks
find_by_part-returns-then-within-clause-looks g t c = λ w few.
    let whole = whole_part c.args.query.now.cols.now (view_names c.args.side.now) (sym (c.within.ensures ∙ ap (set.is_subset c.args.query.now.cols.now) c.names_of.ensures) ∙ c.if-within.true) in
    c.find_in.ensures.looks w (subst (λ P. FindsWithin c.args.side.now c.args.query.now.tables.now.present P w) whole few)

pub find_by_part-returns-clause-looks : goal.find_by_part-returns-clause-looks
find_by_part-returns-clause-looks g t c = λ w few.
    let part = c.in_ok-part.ensures ∙ ap (set.intersection c.args.query.now.cols.now) c.names_of-2.ensures in
    c.find_in-2.ensures.looks w (subst (λ P. FindsWithin c.args.side.now c.args.query.now.tables.now.present P w) (sym part) few)

pub pair_each-returns-in_err-partners-clause-looks : goal.pair_each-returns-in_err-partners-clause-looks
pair_each-returns-in_err-partners-clause-looks g t c = λ w few.
    one_more (size c.args.other.now w) c.loop-row.row-index (length c.args.rows.now) c.args.looked.now c.loop-row.looked c.partners_of.new.looked c.loop-row-test.true (c.loop-row.invariant.2 w few) (c.partners_of.ensures.looks w few)

pub pair_each-returns-in_err-add_pairs-clause-looks : goal.pair_each-returns-in_err-add_pairs-clause-looks
pair_each-returns-in_err-add_pairs-clause-looks g t c = λ w few.
    one_more (size c.args.other.now w) c.loop-row.row-index (length c.args.rows.now) c.args.looked.now c.loop-row.looked c.partners_of.new.looked c.loop-row-test.true (c.loop-row.invariant.2 w few) (c.partners_of.ensures.looks w few)

pub pair_each-returns-clause-looks : goal.pair_each-returns-clause-looks
pair_each-returns-clause-looks g t c = λ w few.
    at_end (size c.args.other.now w) c.loop-row.row-index (length c.args.rows.now) c.args.looked.now c.loop-row.looked c.loop-row.auto.row-index-end (c.loop-row.invariant.2 w few)
