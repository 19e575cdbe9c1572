use Rattle.std.proofs.Common.{◌≡◌, ℕ, subst, sym, rules, OnOk}
use Rattle.lens_specs.specs.Common.{base, select, drop, rename, put, view, join}
use Rattle.lens_laws.proofs.Common.{AreOf, IsTyped}
use Rattle.whole_put.specs.Sources.{AreShown}
use Rattle.whole_put.proofs.JoinedLenses.{put_joined, right_sources, right_tables}
use Rattle.lens_laws.proofs.Lenses.{view_is_of_sort}
use Rattle.whole_put.proofs.Lenses.{put_dropped, put_renamed, put_selected, put_table}
use Rattle.whole_put.proofs.Shown.{left_shown, only_shown, right_shown, right_under}
use Rattle.whole_put.proofs.putting.+write.Goals as goal
use Rattle.whole_put.proofs.putting.+write.Goals.{After-only, After-only-in-Drop, After-only-in-Rename, After-both, In_ok-write-in-Join}

pub returns-in-Base : goal.returns-in-Base
returns-in-Base t c =
    let L = c.args.lens.now in
    let is : base c.in-Base.table.now c.in-Base.sort.now ≡ L = c.in-Base.ensures.is in
    let same = put_table L c.in-Base.table.now c.in-Base.sort.now c.args.db.now c.args.view is c.requires.view in
    subst (λ u. OnOk c.set.result (c.set.new.self ≡ u)) same c.set.ensures.ok

-- ---- a selection

is_select : (t : ℕ) (c : After-only t) → select c.in-Select.pred.now c.in-Select.of.now ≡ c.args.lens.now
is_select t c = c.in-Select.ensures.is

-- the source shows what it is to show
selected : (t : ℕ) (c : After-only t) → c.only.result.0.now ≡ view c.in-Select.of.now c.args.db.now
selected t c =
    let S = c.args.under.now in
    let under = subst (λ K. AreShown K c.args.db.now S) (sym (is_select t c)) c.requires.under in
    only_shown c.in-Select.of.now c.args.db.now S c.only.result.1.now c.only.result.0.now under c.only.ensures

pub under_select-requires-clause-source : goal.under_select-requires-clause-source
under_select-requires-clause-source t c =
    let d = (goal.at.under_select-requires-clause-source t c).After-only in
    let M = c.only.result.0.now in
    let typed = subst IsTyped (sym (is_select t d)) c.node.ensures.typed in
    let are = subst (λ K. AreOf K c.args.db.now) (sym (is_select t d)) c.requires.tables in
    view_is_of_sort c.in-Select.of.now c.args.db.now M typed.0 are (selected t d)

pub returns-in_ok-source-in-Select : goal.returns-in_ok-source-in-Select
returns-in_ok-source-in-Select t c =
    let d = (goal.at.returns-in_ok-source-in-Select t c).After-only in
    let same = put_selected c.args.lens.now c.in-Select.of.now c.in-Select.pred.now c.args.db.now c.args.view.rows c.in_ok-source-in-Select.source.rows
    c.only.result.0.now (is_select t d) (selected t d) c.in_ok-source-in-Select.ensures.rows in
    subst (λ u. OnOk c.write.result (c.write.new.db ≡ u)) same c.write.ensures

-- ---- a drop

is_drop : (t : ℕ) (c : After-only-in-Drop t) → drop c.in-Drop.col.now c.in-Drop.by.now c.in-Drop.fill.now c.in-Drop.of.now ≡ c.args.lens.now
is_drop t c = c.in-Drop.ensures.is

-- the source shows what it is to show
dropped : (t : ℕ) (c : After-only-in-Drop t) → c.only-in-Drop.result.0.now ≡ view c.in-Drop.of.now c.args.db.now
dropped t c =
    let S = c.args.under.now in
    let under = subst (λ K. AreShown K c.args.db.now S) (sym (is_drop t c)) c.requires.under in
    only_shown c.in-Drop.of.now c.args.db.now S c.only-in-Drop.result.1.now c.only-in-Drop.result.0.now under c.only-in-Drop.ensures

pub under_drop-requires-clause-source : goal.under_drop-requires-clause-source
under_drop-requires-clause-source t c =
    let d = (goal.at.under_drop-requires-clause-source t c).After-only-in-Drop in
    let M = c.only-in-Drop.result.0.now in
    let typed = subst IsTyped (sym (is_drop t d)) c.node.ensures.typed in
    let are = subst (λ K. AreOf K c.args.db.now) (sym (is_drop t d)) c.requires.tables in
    view_is_of_sort c.in-Drop.of.now c.args.db.now M typed.0 are (dropped t d)

pub returns-in_ok-source-in-Drop : goal.returns-in_ok-source-in-Drop
returns-in_ok-source-in-Drop t c =
    let d = (goal.at.returns-in_ok-source-in-Drop t c).After-only-in-Drop in
    let same = put_dropped c.args.lens.now c.in-Drop.of.now c.in-Drop.col.now c.in-Drop.by.now c.in-Drop.fill.now c.args.db.now c.args.view.rows
    c.in_ok-source-in-Drop.source.rows c.only-in-Drop.result.0.now (is_drop t d) (dropped t d) c.in_ok-source-in-Drop.ensures.rows in
    subst (λ u. OnOk c.write-in-Drop.result (c.write-in-Drop.new.db ≡ u)) same c.write-in-Drop.ensures

-- ---- a rename

is_rename : (t : ℕ) (c : After-only-in-Rename t) → rename c.in-Rename.col.now c.in-Rename.to.now c.in-Rename.of.now ≡ c.args.lens.now
is_rename t c = c.in-Rename.ensures.is

-- the source shows what it is to show
renamed : (t : ℕ) (c : After-only-in-Rename t) → c.only-in-Rename.result.0.now ≡ view c.in-Rename.of.now c.args.db.now
renamed t c =
    let S = c.args.under.now in
    let under = subst (λ K. AreShown K c.args.db.now S) (sym (is_rename t c)) c.requires.under in
    only_shown c.in-Rename.of.now c.args.db.now S c.only-in-Rename.result.1.now c.only-in-Rename.result.0.now under c.only-in-Rename.ensures

pub under_rename-requires-clause-source : goal.under_rename-requires-clause-source
under_rename-requires-clause-source t c =
    let d = (goal.at.under_rename-requires-clause-source t c).After-only-in-Rename in
    let M = c.only-in-Rename.result.0.now in
    let typed = subst IsTyped (sym (is_rename t d)) c.node.ensures.typed in
    let are = subst (λ K. AreOf K c.args.db.now) (sym (is_rename t d)) c.requires.tables in
    view_is_of_sort c.in-Rename.of.now c.args.db.now M typed.0 are (renamed t d)

pub returns-in_ok-source-in-Rename : goal.returns-in_ok-source-in-Rename
returns-in_ok-source-in-Rename t c =
    let d = (goal.at.returns-in_ok-source-in-Rename t c).After-only-in-Rename in
    let same = put_renamed c.args.lens.now c.in-Rename.of.now c.in-Rename.col.now c.in-Rename.to.now c.args.db.now c.args.view.rows
    c.in_ok-source-in-Rename.source.rows (is_rename t d) c.in_ok-source-in-Rename.ensures.rows in
    subst (λ u. OnOk c.write-in-Rename.result (c.write-in-Rename.new.db ≡ u)) same c.write-in-Rename.ensures

-- ---- a join

is_join : (t : ℕ) (c : After-both t) → join c.in-Join.kind c.in-Join.left.now c.in-Join.right.now ≡ c.args.lens.now
is_join t c = c.in-Join.ensures.is

under : (t : ℕ) (c : After-both t) → AreShown (join c.in-Join.kind c.in-Join.left.now c.in-Join.right.now) c.args.db.now c.args.under.now
under t c = subst (λ K. AreShown K c.args.db.now c.args.under.now) (sym (is_join t c)) c.requires.under

typed : (t : ℕ) (c : After-both t) → IsTyped (join c.in-Join.kind c.in-Join.left.now c.in-Join.right.now)
typed t c = subst IsTyped (sym (is_join t c)) c.node.ensures.typed

are : (t : ℕ) (c : After-both t) → AreOf (join c.in-Join.kind c.in-Join.left.now c.in-Join.right.now) c.args.db.now
are t c = subst (λ K. AreOf K c.args.db.now) (sym (is_join t c)) c.requires.tables

-- the sources show what they are to show
left_is : (t : ℕ) (c : After-both t) → c.both.result.0.0.now ≡ view c.in-Join.left.now c.args.db.now
left_is t c =
    left_shown c.in-Join.left.now c.in-Join.right.now c.args.db.now c.args.under.now c.both.result.0.1.now c.both.result.1.1.now c.both.result.0.0.now c.both.result.1.0.now (under t c) c.both.ensures

right_is : (t : ℕ) (c : After-both t) → c.both.result.1.0.now ≡ view c.in-Join.right.now c.args.db.now
right_is t c =
    right_shown c.in-Join.left.now c.in-Join.right.now c.args.db.now c.args.under.now c.both.result.0.1.now c.both.result.1.1.now c.both.result.0.0.now c.both.result.1.0.now (under t c) c.both.ensures

pub under_join-requires-clause-left : goal.under_join-requires-clause-left
under_join-requires-clause-left t c =
    let d = (goal.at.under_join-requires-clause-left t c).After-both in
    let M = c.both.result.0.0.now in
    view_is_of_sort c.in-Join.left.now c.args.db.now M (typed t d).0 (are t d).0 (left_is t d)

pub under_join-requires-clause-right : goal.under_join-requires-clause-right
under_join-requires-clause-right t c =
    let d = (goal.at.under_join-requires-clause-right t c).After-both in
    let N = c.both.result.1.0.now in
    view_is_of_sort c.in-Join.right.now c.args.db.now N (typed t d).1 (are t d).1 (right_is t d)

-- the tables after the put to the left side
left_put : (t : ℕ) (c : In_ok-write-in-Join t) → c.write-in-Join.new.db ≡ put c.in-Join.left.now c.in_ok-sources-in-Join.sources.0.rows c.args.db.now
left_put t c = c.in_ok-write-in-Join.ensures

pub write-requires-in-Join-2 : goal.write-requires-in-Join-2
write-requires-in-Join-2 t c =
    let d = (goal.at.write-requires-in-Join-2 t c).After-both in
    let e = (goal.at.write-requires-in-Join-2 t c).In_ok-write-in-Join in
    let A = c.in-Join.left.now in
    let B = c.in-Join.right.now in
    let db = c.args.db.now in
    let S = c.in_ok-sources-in-Join.sources.0.rows in
    let M = c.both.result.0.0.now in
    let N = c.both.result.1.0.now in
    let rest = right_under A B db c.args.under.now c.both.result.0.1.now c.both.result.1.1.now M N (under t d) c.both.ensures in
    let tables = right_tables c.in-Join.kind A B (typed t d) db c.write-in-Join.new.db S (left_put t e) (are t d).1 in
    let shown = right_sources c.in-Join.kind A B (typed t d) db c.write-in-Join.new.db S c.both.result.1.1.now (left_put t e) rest in
    let sort = c.in_ok-sources-in-Join.ensures.right_sort in (
      search rules,
      (
        tables,
        (shown, sort),
      ),
    )

-- a put to a join is the puts to its sides
pub returns-in_ok-write-in-Join : goal.returns-in_ok-write-in-Join
returns-in_ok-write-in-Join t c =
    let d = (goal.at.returns-in_ok-write-in-Join t c).After-both in
    let e = (goal.at.returns-in_ok-write-in-Join t c).In_ok-write-in-Join in
    let sources = c.in_ok-sources-in-Join.sources in
    let same = put_joined c.in-Join.kind c.args.lens.now c.in-Join.left.now c.in-Join.right.now c.args.db.now c.write-in-Join.new.db c.args.view.rows
    sources.0.rows sources.1.rows c.both.result.0.0.now c.both.result.1.0.now (is_join t d) (left_is t d) (right_is t d)
    c.in_ok-sources-in-Join.ensures.left_rows c.in_ok-sources-in-Join.ensures.right_rows (left_put t e) in
    subst (λ u. OnOk c.write-in-Join-2.result (c.write-in-Join-2.new.db ≡ u)) same c.write-in-Join-2.ensures
