use Rattle.std.proofs.Common.{◌≡◌, ◌∙◌, ◌+◌, ◌≤◌, ℕ, List, subst, sym}
use Rattle.plain_values.proofs.Common.{IfOk-weaker, Contains}
use Rattle.plain_values.specs.SortedSet as set
use Rattle.plain_values.specs.declared.join_kind.JoinKind.{JoinKind}
use Rattle.lens_specs.specs.Common.{Applies, Delta, diff, new_view, AllEdges, Edge, MeetsTree, closure, get, sort_of, view_names, Within, join_get, join_left_after, join_right_after, join}
use Rattle.fd_laws.proofs.Common.{EdgesWithin}
use Rattle.lens_laws.proofs.Common.{left_delta, right_delta, AreOf, node_work, rows_down, rows_of, size}
use Rattle.lens_laws.proofs.Asked.{shared_keyed}
use Rattle.lens_probe.specs.Viewed.{FindsAtMost, IsWithin, Viewed, asked_by, shown}
use Rattle.join_delta.specs.Joined.{AreJoined, IsJoinChange}
use Rattle.lens_chain.specs.Edits.{IsEdit, edited, over}
use Rattle.lens_chain.proofs.EditLooks.{edges_few, join_size, within_size}
use Rattle.lens_chain.proofs.Premises.{edges_asked, edges_within, join_applies, join_carried_left, join_carried_right, join_fit, join_meets, meets_tree, tree_is}
use Rattle.lens_chain.proofs.nodes.under_join.Goals as goal

-- what the edit changes in both sides
abbrev Changed : Viewed → Viewed → JoinKind → List Edge → List Edge → Delta → Delta × Delta → Type 0
Changed v w k F G d = IsJoinChange k (IsWithin v) (IsWithin w) (shown v) (shown w) F G d

pub join_change-requires : goal.join_change-requires
join_change-requires g c =
    let v = c.args.left.now in
    let w = c.args.right.now in
    let d = c.args.delta.now in
    let typed = c.requires.typed in
    let left = tree_is v.lens c.lens.result.now c.sort.result.now c.tree.result.now typed.0 c.lens.ensures.lens c.sort.ensures.given c.tree.ensures.value in
    let right = tree_is w.lens c.lens-2.result.now c.sort-2.result.now c.tree-2.result.now typed.1 c.lens-2.ensures.lens c.sort-2.ensures.given c.tree-2.ensures.value in
    let are : AreOf v.lens (over v) × AreOf w.lens (over v) = (c.lens.ensures.viewed.1.tables, subst (AreOf w.lens) c.requires.same c.lens-2.ensures.viewed.1.tables) in
    let meets = join_meets c.args.kind v.lens w.lens typed (over v) d are c.requires.edit in
    record {
      can = record {
        within_left = subst (EdgesWithin (view_names v.lens)) (sym left) (edges_within v.lens typed.0);
        within_right = subst (EdgesWithin (view_names w.lens)) (sym right) (edges_within w.lens typed.1);
        kinds = typed.2.kinds;
        shared = shared_keyed c.args.kind v.lens w.lens typed (c.lens.ensures.viewed.1.keys, c.lens-2.ensures.viewed.1.keys);
        decides = subst (λ T. Within (view_names w.lens) (closure (set.intersection (view_names v.lens) (view_names w.lens)) T)) (sym right) typed.2.decides;
      };
      left_asked = subst (AllEdges (λ e. Contains (asked_by v) e.left)) (sym left) (edges_asked v.lens v.sets);
      left_shared = c.requires.left_asked;
      right_asked = subst (AllEdges (λ e. Contains (asked_by w) e.left)) (sym right) (edges_asked w.lens w.sets);
      right_shared = c.requires.right_asked;
      left_meets = subst (MeetsTree (get v.lens (over v))) (sym left) (meets_tree v.lens (over v) typed.0 c.lens.ensures.viewed.1.tables);
      right_meets = subst (MeetsTree (get w.lens (over w))) (sym right) (meets_tree w.lens (over w) typed.1 c.lens-2.ensures.viewed.1.tables);
      applies = subst (λ db. Applies d (join_get (view_names v.lens) (view_names w.lens) (get v.lens (over v)) (get w.lens db))) (sym c.requires.same)
          (join_applies c.args.kind v.lens w.lens typed (over v) d are c.requires.edit);
      view = subst (λ db. AreJoined (sort_of v.lens).columns (sort_of w.lens).columns c.tree.result.now c.tree-2.result.now (new_view (join_get (view_names v.lens) (view_names w.lens) (get v.lens (over v)) (get w.lens db)) d)) (sym c.requires.same)
          (record {
            columns = join_fit c.args.kind v.lens w.lens typed (over v) d are c.requires.edit;
            left = subst (MeetsTree _) (sym left) meets.0;
            right = subst (MeetsTree _) (sym right) meets.1;
          });
    }

pub returns-clause-left : goal.returns-clause-left
returns-clause-left g c =
    let v = c.args.left.now in
    let w = c.args.right.now in
    let db = over v in
    let d = c.args.delta.now in
    let U = view_names v.lens in
    let V = view_names w.lens in
    let F = c.tree.result.now in
    let G = c.tree-2.result.now in
    let left = tree_is v.lens c.lens.result.now c.sort.result.now c.tree.result.now c.requires.typed.0 c.lens.ensures.lens c.sort.ensures.given c.tree.ensures.value in
    let right = tree_is w.lens c.lens-2.result.now c.sort-2.result.now c.tree-2.result.now c.requires.typed.1 c.lens-2.ensures.lens c.sort-2.ensures.given c.tree-2.ensures.value in
    let are : AreOf v.lens (over v) × AreOf w.lens (over v) = (c.lens.ensures.viewed.1.tables, subst (AreOf w.lens) c.requires.same c.lens-2.ensures.viewed.1.tables) in
    IfOk-weaker c.join_change.result (Changed v w c.args.kind F G d) (λ changes. changes.0 ≡ left_delta c.args.kind U V (sort_of v.lens).tree (sort_of w.lens).tree (get v.lens db) (get w.lens db) (edited (join c.args.kind v.lens w.lens) db d) d)
    (λ changes is. (join_carried_left c.args.kind v.lens w.lens c.requires.typed db d are c.requires.edit changes.0 (is.left ∙ (λ i. diff (get v.lens db) (join_left_after c.args.kind U V (left i) (right i) (new_view (join_get U V (get v.lens db) (get w.lens (c.requires.same i))) d) (get v.lens db) (get w.lens (c.requires.same i)))))).0)
    c.join_change.ensures.changes

pub returns-clause-right : goal.returns-clause-right
returns-clause-right g c =
    let v = c.args.left.now in
    let w = c.args.right.now in
    let db = over v in
    let d = c.args.delta.now in
    let U = view_names v.lens in
    let V = view_names w.lens in
    let F = c.tree.result.now in
    let G = c.tree-2.result.now in
    let left = tree_is v.lens c.lens.result.now c.sort.result.now c.tree.result.now c.requires.typed.0 c.lens.ensures.lens c.sort.ensures.given c.tree.ensures.value in
    let right = tree_is w.lens c.lens-2.result.now c.sort-2.result.now c.tree-2.result.now c.requires.typed.1 c.lens-2.ensures.lens c.sort-2.ensures.given c.tree-2.ensures.value in
    let are : AreOf v.lens (over v) × AreOf w.lens (over v) = (c.lens.ensures.viewed.1.tables, subst (AreOf w.lens) c.requires.same c.lens-2.ensures.viewed.1.tables) in
    IfOk-weaker c.join_change.result (Changed v w c.args.kind F G d) (λ changes. changes.1 ≡ right_delta c.args.kind U V (sort_of v.lens).tree (sort_of w.lens).tree (get v.lens db) (get w.lens db) (edited (join c.args.kind v.lens w.lens) db d) d)
    (λ changes is. (join_carried_right c.args.kind v.lens w.lens c.requires.typed db d are c.requires.edit changes.1 (is.right ∙ (λ i. diff (get w.lens (c.requires.same i)) (join_right_after c.args.kind U V (left i) (right i) (new_view (join_get U V (get v.lens db) (get w.lens (c.requires.same i))) d) (get v.lens db) (get w.lens (c.requires.same i)))))).0)
    c.join_change.ensures.changes

pub returns-clause-left_edit : goal.returns-clause-left_edit
returns-clause-left_edit g c =
    let v = c.args.left.now in
    let w = c.args.right.now in
    let db = over v in
    let d = c.args.delta.now in
    let U = view_names v.lens in
    let V = view_names w.lens in
    let F = c.tree.result.now in
    let G = c.tree-2.result.now in
    let left = tree_is v.lens c.lens.result.now c.sort.result.now c.tree.result.now c.requires.typed.0 c.lens.ensures.lens c.sort.ensures.given c.tree.ensures.value in
    let right = tree_is w.lens c.lens-2.result.now c.sort-2.result.now c.tree-2.result.now c.requires.typed.1 c.lens-2.ensures.lens c.sort-2.ensures.given c.tree-2.ensures.value in
    let are : AreOf v.lens (over v) × AreOf w.lens (over v) = (c.lens.ensures.viewed.1.tables, subst (AreOf w.lens) c.requires.same c.lens-2.ensures.viewed.1.tables) in
    IfOk-weaker c.join_change.result (Changed v w c.args.kind F G d) (λ changes. IsEdit v.lens db changes.0)
    (λ changes is. (join_carried_left c.args.kind v.lens w.lens c.requires.typed db d are c.requires.edit changes.0 (is.left ∙ (λ i. diff (get v.lens db) (join_left_after c.args.kind U V (left i) (right i) (new_view (join_get U V (get v.lens db) (get w.lens (c.requires.same i))) d) (get v.lens db) (get w.lens (c.requires.same i)))))).1)
    c.join_change.ensures.changes

pub returns-clause-right_edit : goal.returns-clause-right_edit
returns-clause-right_edit g c =
    let v = c.args.left.now in
    let w = c.args.right.now in
    let db = over v in
    let d = c.args.delta.now in
    let U = view_names v.lens in
    let V = view_names w.lens in
    let F = c.tree.result.now in
    let G = c.tree-2.result.now in
    let left = tree_is v.lens c.lens.result.now c.sort.result.now c.tree.result.now c.requires.typed.0 c.lens.ensures.lens c.sort.ensures.given c.tree.ensures.value in
    let right = tree_is w.lens c.lens-2.result.now c.sort-2.result.now c.tree-2.result.now c.requires.typed.1 c.lens-2.ensures.lens c.sort-2.ensures.given c.tree-2.ensures.value in
    let are : AreOf v.lens (over v) × AreOf w.lens (over v) = (c.lens.ensures.viewed.1.tables, subst (AreOf w.lens) c.requires.same c.lens-2.ensures.viewed.1.tables) in
    IfOk-weaker c.join_change.result (Changed v w c.args.kind F G d) (λ changes. IsEdit w.lens db changes.1)
    (λ changes is. (join_carried_right c.args.kind v.lens w.lens c.requires.typed db d are c.requires.edit changes.1 (is.right ∙ (λ i. diff (get w.lens (c.requires.same i)) (join_right_after c.args.kind U V (left i) (right i) (new_view (join_get U V (get v.lens db) (get w.lens (c.requires.same i))) d) (get v.lens db) (get w.lens (c.requires.same i)))))).1)
    c.join_change.ensures.changes

pub returns-clause-looks : goal.returns-clause-looks
returns-clause-looks g c = λ n few more.
    let v = c.args.left.now in
    let w = c.args.right.now in
    let left = edges_few v.lens c.lens.result.now c.sort.result.now c.tree.result.now c.requires.typed.0 c.lens.ensures.viewed.1.keys c.lens.ensures.lens c.sort.ensures.given c.tree.ensures.value c.tree.ensures.small in
    let right = edges_few w.lens c.lens-2.result.now c.sort-2.result.now c.tree-2.result.now c.requires.typed.1 c.lens-2.ensures.viewed.1.keys c.lens-2.ensures.lens c.sort-2.ensures.given c.tree-2.ensures.value c.tree-2.ensures.small in
    subst (λ k. c.join_change.new.looked ≤ c.args.looked.now + node_work (rows_of c.args.delta.now) k) (join_size c.args.kind v.lens w.lens n)
    (c.join_change.ensures.looks (size v.lens n) (size w.lens n) (within_size v n few) (within_size w n more) left right)

pub returns-clause-left_few : goal.returns-clause-left_few
returns-clause-left_few g c =
    let v = c.args.left.now in
    let w = c.args.right.now in
    let left = edges_few v.lens c.lens.result.now c.sort.result.now c.tree.result.now c.requires.typed.0 c.lens.ensures.viewed.1.keys c.lens.ensures.lens c.sort.ensures.given c.tree.ensures.value c.tree.ensures.small in
    let right = edges_few w.lens c.lens-2.result.now c.sort-2.result.now c.tree-2.result.now c.requires.typed.1 c.lens-2.ensures.viewed.1.keys c.lens-2.ensures.lens c.sort-2.ensures.given c.tree-2.ensures.value c.tree-2.ensures.small in
    IfOk-weaker c.join_change.result
    (Changed v w c.args.kind c.tree.result.now c.tree-2.result.now c.args.delta.now)
    (λ changes. (n : ℕ) → FindsAtMost v n → FindsAtMost w n → rows_of changes.0 ≤ rows_down (rows_of c.args.delta.now) (size (join c.args.kind v.lens w.lens) n))
    (λ changes all n few more.
    subst (λ k. rows_of changes.0 ≤ rows_down (rows_of c.args.delta.now) k) (join_size c.args.kind v.lens w.lens n)
    (all.left_few (size v.lens n) (size w.lens n) (within_size v n few) (within_size w n more) left right))
    c.join_change.ensures.changes

pub returns-clause-right_few : goal.returns-clause-right_few
returns-clause-right_few g c =
    let v = c.args.left.now in
    let w = c.args.right.now in
    let left = edges_few v.lens c.lens.result.now c.sort.result.now c.tree.result.now c.requires.typed.0 c.lens.ensures.viewed.1.keys c.lens.ensures.lens c.sort.ensures.given c.tree.ensures.value c.tree.ensures.small in
    let right = edges_few w.lens c.lens-2.result.now c.sort-2.result.now c.tree-2.result.now c.requires.typed.1 c.lens-2.ensures.viewed.1.keys c.lens-2.ensures.lens c.sort-2.ensures.given c.tree-2.ensures.value c.tree-2.ensures.small in
    IfOk-weaker c.join_change.result
    (Changed v w c.args.kind c.tree.result.now c.tree-2.result.now c.args.delta.now)
    (λ changes. (n : ℕ) → FindsAtMost v n → FindsAtMost w n → rows_of changes.1 ≤ rows_down (rows_of c.args.delta.now) (size (join c.args.kind v.lens w.lens) n))
    (λ changes all n few more.
    subst (λ k. rows_of changes.1 ≤ rows_down (rows_of c.args.delta.now) k) (join_size c.args.kind v.lens w.lens n)
    (all.right_few (size v.lens n) (size w.lens n) (within_size v n few) (within_size w n more) left right))
    c.join_change.ensures.changes
