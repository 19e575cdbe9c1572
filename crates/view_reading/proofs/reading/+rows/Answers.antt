use Rattle.std.proofs.Common.{◌≡◌, ◌∙◌, ap, arith, map, subst, sym, true, Contains, IfOk}
use Rattle.plain_values.proofs.Common.{IfOk-weaker}
use Rattle.plain_values.specs.SortedSet as set
use Rattle.lens_specs.specs.Common.{base, drop, get, nodes_of, rename, select, view_names, holds, mentioned, project, those, renamed_row, join}
use Rattle.fd_laws.proofs.Common.{row_exact, row_total}
use Rattle.lens_laws.proofs.Common.{AreOf, PredWithin}
use Rattle.row_sets.specs.Joins.{pairs_on}
use Rattle.view_reading.specs.Reading.{rows_for}
use Rattle.view_reading.proofs.Bases.{rows_shown}
use Rattle.view_reading.proofs.Listed.{dropped_shown, joined_shown, joined_whole, mentions_shown, pairs_shown, parts, passed_parts, rows_for_shown, selected_listed, selected_pairs, selected_shown, selected_whole, shown_before, tested_parts}
use Rattle.view_reading.proofs.NamedRows.{needed_named, shown_named}
use Rattle.view_reading.proofs.RenamedRows.{free_in, listed_over, renamed_listed}
use Rattle.view_reading.proofs.reading.+rows.Goals as goal

-- ---- a table

pub row_set_in-returns-in-Base-clause-value : goal.row_set_in-returns-in-Base-clause-value
row_set_in-returns-in-Base-clause-value g t c =
    let L = c.args.lens.now in
    let is : base c.in-Base.table.now c.in-Base.sort.now ≡ L = c.in-Base.ensures.is in
    subst (λ M. IfOk c.walk.result (λ rows. rows ≡ M)) (rows_shown L c.in-Base.table.now c.in-Base.sort.now c.args.tables.now.present.relations is) c.walk.ensures.ok

pub rows_in-returns-in_ok-walk-in-Base-clause-value : goal.rows_in-returns-in_ok-walk-in-Base-clause-value
rows_in-returns-in_ok-walk-in-Base-clause-value g t c =
    let L = c.args.lens.now in
    let is : base c.in-Base.table.now c.in-Base.sort.now ≡ L = c.in-Base.ensures.is in
    ap set.from_list c.into_rows.ensures ∙ set.from_list-items row_total row_exact c.in_ok-walk-in-Base.field-0
    ∙ c.in_ok-walk-in-Base.ensures.ok ∙ rows_shown L c.in-Base.table.now c.in-Base.sort.now c.args.tables.now.present.relations is

-- ---- a projection

pub rows_in-returns-in-Drop-clause-value : goal.rows_in-returns-in-Drop-clause-value
rows_in-returns-in-Drop-clause-value g t c =
    let L = c.args.lens.now in
    let db = c.args.tables.now.present.relations in
    let C = c.in-Drop.of.now in
    let is : drop c.in-Drop.col.now c.in-Drop.by.now c.in-Drop.fill.now C ≡ L = c.in-Drop.ensures.is in
    IfOk-weaker c.parts_in.result _ _
    (λ parts made. made ∙ ap (λ D. project D (get C db)) c.names_of.ensures ∙ dropped_shown L C c.in-Drop.col.now c.in-Drop.by.now c.in-Drop.fill.now db is)
    c.parts_in.ensures.value

pub parts_in-returns-in_ok-rows-in-Base-clause-value : goal.parts_in-returns-in_ok-rows-in-Base-clause-value
parts_in-returns-in_ok-rows-in-Base-clause-value g t c =
    IfOk-weaker c.parts.result _ _
    (λ made of. ap set.from_list of ∙ parts c.args.kept.now c.in_ok-rows-in-Base.rows.items _ c.in_ok-rows-in-Base.ensures.value) c.parts.ensures

-- ---- a rename

pub rows_in-rename_rows-requires-clause-over : goal.rows_in-rename_rows-requires-clause-over
rows_in-rename_rows-requires-clause-over g t c =
    let L = c.args.lens.now in
    let db = c.args.tables.now.present.relations in
    let S = c.in-Rename.of.now in
    let is : rename c.in-Rename.col.now c.in-Rename.to.now S ≡ L = c.in-Rename.ensures.is in
    let source = c.in_ok-rows-in-Rename.ensures.value in
    λ row i. listed_over L S c.in-Rename.col.now c.in-Rename.to.now is c.node.ensures.typed db c.names_of-in-Rename.result.now c.in_ok-rows-in-Rename.rows.items c.requires
    (c.names_of-in-Rename.ensures) source row (subst (λ rows. Contains rows row) c.deref.ensures.value i)

pub rows_in-rename_rows-requires-clause-free : goal.rows_in-rename_rows-requires-clause-free
rows_in-rename_rows-requires-clause-free g t c =
    let is = c.in-Rename.ensures.is in
    free_in c.args.lens.now c.in-Rename.of.now c.in-Rename.col.now c.in-Rename.to.now is c.node.ensures.typed c.names_of-in-Rename.result.now (c.names_of-in-Rename.ensures)

pub rows_in-returns-in_ok-rows-in-Rename-clause-value : goal.rows_in-returns-in_ok-rows-in-Rename-clause-value
rows_in-returns-in_ok-rows-in-Rename-clause-value g t c =
    let L = c.args.lens.now in
    let db = c.args.tables.now.present.relations in
    let S = c.in-Rename.of.now in
    let is : rename c.in-Rename.col.now c.in-Rename.to.now S ≡ L = c.in-Rename.ensures.is in
    let source = c.in_ok-rows-in-Rename.ensures.value in
    IfOk-weaker c.rename_rows.result _ _
    (λ rows made. ap set.from_list (made ∙ ap (map (renamed_row c.in-Rename.col.now c.in-Rename.to.now)) c.deref.ensures.value)
    ∙ renamed_listed L S c.in-Rename.col.now c.in-Rename.to.now db c.in_ok-rows-in-Rename.rows.items is source)
    c.rename_rows.ensures

-- ---- a join

pub rows_in-returns-in-Join-clause-value : goal.rows_in-returns-in-Join-clause-value
rows_in-returns-in-Join-clause-value g t c =
    let L = c.args.lens.now in
    let db = c.args.tables.now.present.relations in
    let A = c.in-Join.left.now in
    let B = c.in-Join.right.now in
    let is : join c.in-Join.kind A B ≡ L = c.in-Join.ensures.is in
    IfOk-weaker c.pair_parts_in.result _ _
    (λ parts made. made ∙ ap (λ D. project D (pairs_shown A B (get A db) (get B db))) c.names_of-in-Join.ensures ∙ joined_whole c.in-Join.kind L A B db is c.node.ensures.typed c.requires)
    c.pair_parts_in.ensures.value

pub parts_in-returns-in-Join-clause-value : goal.parts_in-returns-in-Join-clause-value
parts_in-returns-in-Join-clause-value g t c =
    let L = c.args.lens.now in
    let db = c.args.tables.now.present.relations in
    let A = c.in-Join.left.now in
    let B = c.in-Join.right.now in
    let is : join c.in-Join.kind A B ≡ L = c.in-Join.ensures.is in
    IfOk-weaker c.pair_parts_in.result _ _
    (λ parts made. made ∙ ap (project c.args.kept.now) (joined_shown c.in-Join.kind L A B db is c.node.ensures.typed c.requires))
    c.pair_parts_in.ensures.value

-- ---- a selection

pub selected_in-selected_parts_in-requires : goal.selected_in-selected_parts_in-requires
selected_in-selected_parts_in-requires g t c κs within =
    let P = c.args.pred.now in
    let L = c.args.of.now in
    let C = c.in-Drop.source.now in
    let is : drop c.in-Drop.col.now c.in-Drop.by.now c.in-Drop.fill.now C ≡ L = c.in-Drop.ensures.is in
    let kept = subst (PredWithin P) (sym c.names_of.ensures) c.requires.columns in
    let shown = shown_before P L C c.in-Drop.col.now c.in-Drop.by.now c.in-Drop.fill.now is c.requires.columns in
    (omega (arith, c.decreases, ap nodes_of is), (within, (kept, (shown, subst (λ K. AreOf K c.args.tables.now.present.relations) (sym is) c.requires.tables))))

pub selected_in-returns-in-Drop-clause-value : goal.selected_in-returns-in-Drop-clause-value
selected_in-returns-in-Drop-clause-value g t c =
    let P = c.args.pred.now in
    let L = c.args.of.now in
    let db = c.args.tables.now.present.relations in
    let C = c.in-Drop.source.now in
    let is : drop c.in-Drop.col.now c.in-Drop.by.now c.in-Drop.fill.now C ≡ L = c.in-Drop.ensures.is in
    IfOk-weaker c.selected_parts_in.result _ _
    (λ parts made. made ∙ ap (λ D. project D (get (select P C) db)) c.names_of.ensures ∙ selected_shown P L C c.in-Drop.col.now c.in-Drop.by.now c.in-Drop.fill.now db is c.requires.columns)
    c.selected_parts_in.ensures.value

pub selected_in-selected_pairs_in-requires : goal.selected_in-selected_pairs_in-requires
selected_in-selected_pairs_in-requires g t c κs within =
    let L = c.args.of.now in
    let db = c.args.tables.now.present.relations in
    let A = c.in-Join.left.now in
    let B = c.in-Join.right.now in
    let is : join c.in-Join.kind A B ≡ L = c.in-Join.ensures.is in
    let kept = subst (PredWithin c.args.pred.now) (sym c.names_of-in-Join.ensures) c.requires.columns in
    let there : AreOf (join c.in-Join.kind A B) db = subst (λ K. AreOf K db) (sym is) c.requires.tables in
    (omega (arith, c.decreases, ap nodes_of is), (within, (kept, (there.0, there.1))))

pub selected_in-returns-in-Join-clause-value : goal.selected_in-returns-in-Join-clause-value
selected_in-returns-in-Join-clause-value g t c =
    let P = c.args.pred.now in
    let L = c.args.of.now in
    let db = c.args.tables.now.present.relations in
    let A = c.in-Join.left.now in
    let B = c.in-Join.right.now in
    let is : join c.in-Join.kind A B ≡ L = c.in-Join.ensures.is in
    IfOk-weaker c.selected_pairs_in.result _ _
    (λ parts made. made ∙ ap (λ D. those (holds P) (project D (pairs_shown A B (rows_for P A db) (rows_for P B db)))) c.names_of-in-Join.ensures
    ∙ selected_whole c.in-Join.kind P L A B db is c.node.ensures.typed c.requires.tables c.requires.columns)
    c.selected_pairs_in.ensures.value

pub selected_in-returns-in_ok-rows_in-in-Base-clause-value : goal.selected_in-returns-in_ok-rows_in-in-Base-clause-value
selected_in-returns-in_ok-rows_in-in-Base-clause-value g t c =
    ap set.from_list c.selected.ensures
    ∙ selected_listed c.args.pred.now c.args.of.now c.args.tables.now.present.relations c.in_ok-rows_in-in-Base.field-0.items c.in_ok-rows_in-in-Base.ensures.value

-- ---- the parts of a selection

pub selected_parts_in-returns-in-Join-clause-value : goal.selected_parts_in-returns-in-Join-clause-value
selected_parts_in-returns-in-Join-clause-value g t c =
    let P = c.args.pred.now in
    let L = c.args.lens.now in
    let db = c.args.tables.now.present.relations in
    let A = c.in-Join.left.now in
    let B = c.in-Join.right.now in
    let is : join c.in-Join.kind A B ≡ L = c.in-Join.ensures.is in
    IfOk-weaker c.selected_pairs_in.result _ _
    (λ parts made. made ∙ selected_pairs c.in-Join.kind P c.args.kept.now L A B db is c.node.ensures.typed c.requires.tables c.requires.kept)
    c.selected_pairs_in.ensures.value

pub selected_parts_in-returns-in_ok-rows-in-Base-clause-value : goal.selected_parts_in-returns-in_ok-rows-in-Base-clause-value
selected_parts_in-returns-in_ok-rows-in-Base-clause-value g t c =
    IfOk-weaker c.parts.result _ _
    (λ made of. ap set.from_list of ∙ parts c.args.kept.now c.in_ok-rows-in-Base.rows.items _ c.in_ok-rows-in-Base.ensures.value) c.parts.ensures

pub selected_pairs_in-joined_parts-requires-clause-left : goal.selected_pairs_in-joined_parts-requires-clause-left
selected_pairs_in-joined_parts-requires-clause-left g t c =
    needed_named c.args.pred.now c.args.left.now c.args.tables.now.present.relations _ _ c.side-left_side.ensures.typed c.requires.left c.side-left_side.ensures.cols (c.side-left_side.ensures.rows ∙ c.in_ok-left_rows.ensures.value)

pub selected_pairs_in-joined_parts-requires-clause-right : goal.selected_pairs_in-joined_parts-requires-clause-right
selected_pairs_in-joined_parts-requires-clause-right g t c =
    needed_named c.args.pred.now c.args.right.now c.args.tables.now.present.relations _ _ c.side-right_side.ensures.typed c.requires.right c.side-right_side.ensures.cols (c.side-right_side.ensures.rows ∙ c.in_ok-right_rows.ensures.value)

pub selected_pairs_in-returns-then-branch-clause-value : goal.selected_pairs_in-returns-then-branch-clause-value
selected_pairs_in-returns-then-branch-clause-value g t c =
    let left = c.side-left_side.ensures.rows ∙ c.in_ok-left_rows.ensures.value in
    let right = c.side-right_side.ensures.rows ∙ c.in_ok-right_rows.ensures.value in
    c.in_ok-parts.ensures
    ∙ (λ i. project c.args.kept.now (pairs_on (set.intersection (c.side-left_side.ensures.cols i) (c.side-right_side.ensures.cols i)) (left i) (right i)))
    ∙ tested_parts c.args.pred.now c.args.kept.now c.args.left.now c.args.right.now c.args.tables.now.present.relations c.side-right_side.ensures.typed c.requires.right c.requires.kept
    (sym c.in_ok-is_tested.ensures ∙ c.if-branch.true)

pub selected_pairs_in-returns-clause-value : goal.selected_pairs_in-returns-clause-value
selected_pairs_in-returns-clause-value g t c =
    let left = c.side-left_side.ensures.rows ∙ c.in_ok-left_rows.ensures.value in
    let right = c.side-right_side.ensures.rows ∙ c.in_ok-right_rows.ensures.value in
    let paired = c.in_ok-parts.ensures
    ∙ (λ i. project c.args.kept.now (pairs_on (set.intersection (c.side-left_side.ensures.cols i) (c.side-right_side.ensures.cols i)) (left i) (right i))) in
    ap set.from_list c.selected.ensures ∙ passed_parts c.args.pred.now c.in_ok-parts.parts.items _ paired

pub pair_parts_in-joined_parts-requires-clause-left : goal.pair_parts_in-joined_parts-requires-clause-left
pair_parts_in-joined_parts-requires-clause-left g t c =
    shown_named c.args.left.now c.args.tables.now.present.relations _ _ c.side-left_side.ensures.typed c.requires.left c.side-left_side.ensures.cols (c.side-left_side.ensures.rows ∙ c.in_ok-left_rows.ensures.value)

pub pair_parts_in-joined_parts-requires-clause-right : goal.pair_parts_in-joined_parts-requires-clause-right
pair_parts_in-joined_parts-requires-clause-right g t c =
    shown_named c.args.right.now c.args.tables.now.present.relations _ _ c.side-right_side.ensures.typed c.requires.right c.side-right_side.ensures.cols (c.side-right_side.ensures.rows ∙ c.in_ok-right_rows.ensures.value)

pub pair_parts_in-returns-clause-value : goal.pair_parts_in-returns-clause-value
pair_parts_in-returns-clause-value g t c =
    let left = c.side-left_side.ensures.rows ∙ c.in_ok-left_rows.ensures.value in
    let right = c.side-right_side.ensures.rows ∙ c.in_ok-right_rows.ensures.value in
    IfOk-weaker c.joined_parts.result _ _
    (λ parts made. made
    ∙ (λ i. project c.args.kept.now (pairs_on (set.intersection (c.side-left_side.ensures.cols i) (c.side-right_side.ensures.cols i)) (left i) (right i))))
    c.joined_parts.ensures

-- ---- a side of a join

pub side_in-selected_in-requires : goal.side_in-selected_in-requires
side_in-selected_in-requires g t c κs within =
    let P = c.args.pred.now in
    let L = c.args.side.now in
    let all : set.is_subset (mentioned P) (view_names L) ≡ true =
    (λ i. set.is_subset (sym c.in_ok-mentioned.ensures i) (sym c.names_of.ensures i)) ∙ sym c.within.ensures ∙ c.if-within.true in
    (omega (arith, c.decreases), (within, (mentions_shown P L all, c.requires)))

pub side_in-returns-then-within-clause-value : goal.side_in-returns-then-within-clause-value
side_in-returns-then-within-clause-value g t c =
    let P = c.args.pred.now in
    let L = c.args.side.now in
    let all : set.is_subset (mentioned P) (view_names L) ≡ true =
    (λ i. set.is_subset (sym c.in_ok-mentioned.ensures i) (sym c.names_of.ensures i)) ∙ sym c.within.ensures ∙ c.if-within.true in
    IfOk-weaker c.new.result _ _ (λ rows made. made ∙ c.in_ok-selected_in.ensures.value ∙ rows_for_shown P L c.args.tables.now.present.relations all) c.new.ensures
