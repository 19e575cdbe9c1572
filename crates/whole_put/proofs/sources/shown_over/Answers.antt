use Rattle.std.proofs.Common.{◌≡◌, ◌∙◌, ap, subst, sym, IfOk}
use Rattle.lens_specs.specs.Common.{base, select, drop, rename, view, names, Relation, join}
use Rattle.plain_values.specs.SortedSet as set
use Rattle.lens_laws.proofs.Common.{IsTyped}
use Rattle.whole_put.specs.Sources.{AreShown}
use Rattle.whole_put.proofs.JoinedLenses.{shown_alike, shown_joined}
use Rattle.whole_put.proofs.Lenses.{shown_dropped, shown_renamed, shown_selected, shown_table}
use Rattle.whole_put.proofs.Shown.{left_shown, only_shown, right_shown}
use Rattle.whole_put.proofs.sources.shown_over.Goals as goal
use Rattle.whole_put.proofs.sources.shown_over.Goals.{After-both, After-only-in-Rename}

pub returns-in-Base : goal.returns-in-Base
returns-in-Base c =
    let L = c.args.lens.now in
    let is : base c.in-Base.table.now c.in-Base.sort.now ≡ L = c.in-Base.ensures.is in
    let same = shown_table L c.in-Base.table.now c.in-Base.sort.now c.args.db.now c.at.result.now is c.at.ensures c.requires.tables in
    subst (λ u. IfOk c.copy.result (λ shown. shown ≡ u)) same c.copy.ensures

pub returns-in-Select : goal.returns-in-Select
returns-in-Select c =
    let L = c.args.lens.now in
    let C = c.in-Select.of.now in
    let db = c.args.db.now in
    let S = c.args.under.now in
    let M = c.only.result.0.now in
    let is : select c.in-Select.pred.now C ≡ L = c.in-Select.ensures.is in
    let under = subst (λ K. AreShown K db S) (sym is) c.requires.under in
    let source = only_shown C db S c.only.result.1.now M under c.only.ensures in
    subst (λ u. IfOk c.get_select.result (λ shown. shown ≡ u)) (shown_selected L C c.in-Select.pred.now db M is source) c.get_select.ensures

pub returns-in-Drop : goal.returns-in-Drop
returns-in-Drop c =
    let L = c.args.lens.now in
    let C = c.in-Drop.of.now in
    let db = c.args.db.now in
    let S = c.args.under.now in
    let M = c.only-in-Drop.result.0.now in
    let is : drop c.in-Drop.col.now c.in-Drop.by.now c.in-Drop.fill.now C ≡ L = c.in-Drop.ensures.is in
    let under = subst (λ K. AreShown K db S) (sym is) c.requires.under in
    let source = only_shown C db S c.only-in-Drop.result.1.now M under c.only-in-Drop.ensures in
    subst (λ u. IfOk c.get_drop.result (λ shown. shown ≡ u)) (shown_dropped L C c.in-Drop.col.now c.in-Drop.by.now c.in-Drop.fill.now db M is source) c.get_drop.ensures

-- ---- a rename

renamed_source : (c : After-only-in-Rename) → c.only-in-Rename.result.0.now ≡ view c.in-Rename.of.now c.args.db.now
renamed_source c =
    let C = c.in-Rename.of.now in
    let is : rename c.in-Rename.col.now c.in-Rename.to.now C ≡ c.args.lens.now = c.in-Rename.ensures.is in
    only_shown C c.args.db.now c.args.under.now c.only-in-Rename.result.1.now c.only-in-Rename.result.0.now (subst (λ K. AreShown K c.args.db.now c.args.under.now) (sym is) c.requires.under) c.only-in-Rename.ensures

pub get_rename-requires : goal.get_rename-requires
get_rename-requires c =
    let is : rename c.in-Rename.col.now c.in-Rename.to.now c.in-Rename.of.now ≡ c.args.lens.now = c.in-Rename.ensures.is in
    let typed = subst IsTyped (sym is) c.node.ensures.typed in
    ap (λ (M : Relation). set.contains (names M.columns) c.in-Rename.to.now) (renamed_source (goal.at.get_rename-requires c).After-only-in-Rename) ∙ typed.1.free

pub returns-in-Rename : goal.returns-in-Rename
returns-in-Rename c =
    let is : rename c.in-Rename.col.now c.in-Rename.to.now c.in-Rename.of.now ≡ c.args.lens.now = c.in-Rename.ensures.is in
    subst (λ u. IfOk c.get_rename.result (λ shown. shown ≡ u))
    (shown_renamed c.args.lens.now c.in-Rename.of.now c.in-Rename.col.now c.in-Rename.to.now c.args.db.now c.only-in-Rename.result.0.now is (renamed_source (goal.at.returns-in-Rename c).After-only-in-Rename)) c.get_rename.ensures

-- ---- a join

is_join : (c : After-both) → join c.in-Join.kind c.in-Join.left.now c.in-Join.right.now ≡ c.args.lens.now
is_join c = c.in-Join.ensures.is

under_join : (c : After-both) → AreShown (join c.in-Join.kind c.in-Join.left.now c.in-Join.right.now) c.args.db.now c.args.under.now
under_join c = subst (λ K. AreShown K c.args.db.now c.args.under.now) (sym (is_join c)) c.requires.under

left_is : (c : After-both) → c.both.result.0.0.now ≡ view c.in-Join.left.now c.args.db.now
left_is c =
    left_shown c.in-Join.left.now c.in-Join.right.now c.args.db.now c.args.under.now c.both.result.0.1.now c.both.result.1.1.now c.both.result.0.0.now c.both.result.1.0.now (under_join c) c.both.ensures

right_is : (c : After-both) → c.both.result.1.0.now ≡ view c.in-Join.right.now c.args.db.now
right_is c =
    right_shown c.in-Join.left.now c.in-Join.right.now c.args.db.now c.args.under.now c.both.result.0.1.now c.both.result.1.1.now c.both.result.0.0.now c.both.result.1.0.now (under_join c) c.both.ensures

pub get_join-requires : goal.get_join-requires
get_join-requires c =
    let d = (goal.at.get_join-requires c).After-both in
    let typed = subst IsTyped (sym (is_join d)) c.node.ensures.typed in
    shown_alike c.in-Join.kind c.in-Join.left.now c.in-Join.right.now typed c.args.db.now c.both.result.0.0.now c.both.result.1.0.now (left_is d) (right_is d)

pub returns-in-Join : goal.returns-in-Join
returns-in-Join c =
    let d = (goal.at.returns-in-Join c).After-both in
    let same = shown_joined c.in-Join.kind c.args.lens.now c.in-Join.left.now c.in-Join.right.now c.args.db.now c.both.result.0.0.now c.both.result.1.0.now (is_join d) (left_is d) (right_is d) in
    subst (λ u. IfOk c.get_join.result (λ shown. shown ≡ u)) same c.get_join.ensures
