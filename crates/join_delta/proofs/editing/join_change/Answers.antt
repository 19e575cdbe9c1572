use Rattle.std.proofs.Common.{◌≡◌, ◌≢◌, ◌∙◌, ◌+◌, ◌*◌, ◌≤◌, ap, arith, length, refl, subst, sym, true}
use Rattle.plain_values.proofs.Common.{Contains}
use Rattle.plain_values.specs.SortedSet as set
use Rattle.lens_specs.specs.Common.{names, Delta, diff, join_over, Rows, has, minus, project}
use Rattle.lens_laws.proofs.Common.{node_work, rows_down, rows_of}
use Rattle.signed_delta.proofs.Gives.{gives_by_edges}
use Rattle.join_delta.specs.Joined.{AtSizes, edited, left_after, right_after, shared_names}
use Rattle.join_delta.proofs.CarriedJoin.{diff_apart, join_edit, merged_left, merged_right}
use Rattle.join_delta.proofs.JoinLooks.{gives_with, in_work}
use Rattle.join_delta.proofs.NearPairs.{shared_right}
use Rattle.join_delta.specs.Deleted.{free_of, left_deleted, right_deleted}
use Rattle.join_delta.proofs.Freed.{free_made, parts_stand}
use Rattle.join_delta.proofs.JoinBounds.{after_asking}
use Rattle.join_delta.proofs.CarriedBySide.{freed, left_beside, left_few, left_there, left_without, none_added, over_there, right_few, right_there, right_without}
use Rattle.join_delta.proofs.editing.join_change.Given.{Over}
use Rattle.join_delta.proofs.editing.join_change.Goals.{After-right_parts}
use Rattle.join_delta.proofs.editing.join_change.Goals as goal

pub right_parts-requires : goal.right_parts-requires
right_parts-requires g c =
    let R = g.A.Look.relation c.args.left.now.look.now in
    let Q = g.B.Look.relation c.args.right.now.look.now in
    let s = c.in_ok-merged.ensures in
    let m = c.in_ok-merged.merged in
    let q = join_edit c.requires s.left.fit s.right.fit s.left.tree s.right.tree in
    record {
      some = subst (λ C. length (set.items C) ≢ 0) (sym s.merged.sides.shared) c.requires.can.shared;
      asked = subst (Contains (g.A.Look.asked c.args.left.now.look.now)) (sym s.merged.sides.shared) c.requires.left_shared;
      have = λ row there old k i.
          let part : has (project (names Q.columns) m.over) row ≡ true = ap (λ C. has (project C m.over) row) (sym s.merged.sides.right) ∙ there in
          let stands = parts_stand (names Q.columns) Q.rows m.over m.right (over_there q m.right m.over s.merged.right s.merged.over) row part old in
          shared_right R.columns Q.columns row (s.right.fit row stands) k (ap (λ C. set.contains C k) (sym s.merged.sides.shared) ∙ i);
    }

pub without-requires : goal.without-requires
without-requires g c =
    let s = c.in_ok-merged.ensures in
    let q = join_edit c.requires s.left.fit s.right.fit s.left.tree s.right.tree in
    diff_apart (g.A.Look.relation c.args.left.now.look.now).rows (merged_left q) c.in_ok-merged.merged.left s.merged.left

pub without-requires-2 : goal.without-requires-2
without-requires-2 g c =
    let s = c.in_ok-merged.ensures in
    let q = join_edit c.requires s.left.fit s.right.fit s.left.tree s.right.tree in
    diff_apart (g.B.Look.relation c.args.right.now.look.now).rows (merged_right q) c.in_ok-merged.merged.right s.merged.right

-- ---- looks
after_merging : (g : Over) (c : After-right_parts g) → AtSizes (g.A.Look.within c.args.left.now.look.now) (g.B.Look.within c.args.right.now.look.now) c.args.left.now.tree.now c.args.right.now.tree.now (λ n.
    c.right_parts.new.looked ≤ c.args.looked.now + node_work (rows_of c.args.delta.now) n)
after_merging g c a b v w edges more =
    let s = c.in_ok-merged.ensures in
    in_work a b (rows_of c.args.delta.now) 711 c.args.looked.now c.right_parts.new.looked (omega arith)
    (after_asking a b (s.left.some a v) (s.right.some b w) (rows_of c.args.delta.now) (length (set.items c.in_ok-merged.merged.over)) c.args.looked.now c.merge_sources.new.looked c.right_parts.new.looked
    (c.merge_sources.ensures.looks a b v w edges more) (s.few a b v w edges more) (c.right_parts.ensures.looks a v))

pub returns : goal.returns
returns g c =
    let R = g.A.Look.relation c.args.left.now.look.now in
    let Q = g.B.Look.relation c.args.right.now.look.now in
    let F = c.args.left.now.tree.now in
    let G = c.args.right.now.tree.now in
    let d = c.args.delta.now in
    let k = c.args.kind in
    let p = c.requires in
    let s = c.in_ok-merged.ensures in
    let m = c.in_ok-merged.merged in
    let q = join_edit p s.left.fit s.right.fit s.left.tree s.right.tree in
    let U = names R.columns in
    let V = names Q.columns in
    let O = edited R Q d in
    let is = s.merged in
    let parts : project m.sides.right m.over ≡ project V m.over = ap (λ C. project C m.over) is.sides.right in
    let others : minus (project m.sides.right m.over) m.parts ≡ minus (project m.sides.right m.over) (project V d.add) = ap (minus (project m.sides.right m.over)) is.parts in
    let free : free_of m R.rows d.remove ≡ minus (project V m.over) (project V O) =
    free_made R.columns Q.columns R.rows Q.rows d (project V m.over) m.right.add s.left.fit s.right.fit (none_added q m.right is.right)
    (parts_stand V Q.rows m.over m.right (over_there q m.right m.over is.right is.over))
    m.sides.shared _ _ _ _ is.sides.shared parts others refl refl in
    let from_right : c.in_ok-from_right.from_right ≡ right_deleted k (freed q) =
    c.in_ok-from_right.ensures.parts ∙ ap (right_deleted k) (ap (free_of m R.rows) c.remove.ensures ∙ free ∙ ap (λ (over : Rows). minus (project V over) (project V O)) is.over) in
    let from_left : c.in_ok-from_left.from_left ≡ left_deleted k U V (join_over U V F G O R.rows Q.rows) (freed q) =
    c.in_ok-from_left.ensures ∙ (λ i. left_deleted k (is.sides.left i) (is.sides.right i) (is.over i) (from_right i)) ∙ left_beside k U V (join_over U V F G O R.rows Q.rows) (freed q) in
    let left : c.in_ok-left_change.left_change ≡ diff R.rows (left_after k R F Q G d) =
    c.in_ok-left_change.ensures R.rows (merged_left q) is.left (left_there q k c.in_ok-from_left.from_left from_left)
    ∙ ap (λ (M : Rows). diff R.rows M) (left_without q k c.in_ok-from_left.from_left from_left) in
    let right : c.in_ok-right_change.right_change ≡ diff Q.rows (right_after k R F Q G d) =
    c.in_ok-right_change.ensures Q.rows (merged_right q) is.right (right_there q k c.in_ok-from_right.from_right from_right)
    ∙ ap (λ (M : Rows). diff Q.rows M) (right_without q k c.in_ok-from_right.from_right from_right) in
    let K = g.A.Look.asked c.args.left.now.look.now in
    let L = g.B.Look.asked c.args.right.now.look.now in
    let S = shared_names R.columns Q.columns in
    let e = goal.at.returns g c in
    record {
      changes = record {
        left = left;
        right = right;
        left_few = λ a b v w edges more.
            subst (λ (x : Delta). rows_of x ≤ rows_down (rows_of d) (2 * a * b)) (sym left)
            (left_few q a b edges more (s.left.some a v) (s.right.some b w)
            (gives_with K S F R.rows a (s.left.gives a v) p.left_shared p.left_asked) (gives_with L S G Q.rows b (s.right.gives b w) p.right_shared p.right_asked)
            (gives_by_edges K F R.rows a (s.left.gives a v) p.left_asked) (gives_by_edges L G Q.rows b (s.right.gives b w) p.right_asked) k);
        right_few = λ a b v w edges more.
            subst (λ (x : Delta). rows_of x ≤ rows_down (rows_of d) (2 * a * b)) (sym right)
            (right_few q a b edges more (s.left.some a v) (s.right.some b w)
            (gives_with K S F R.rows a (s.left.gives a v) p.left_shared p.left_asked) (gives_with L S G Q.rows b (s.right.gives b w) p.right_shared p.right_asked)
            (gives_by_edges K F R.rows a (s.left.gives a v) p.left_asked) (gives_by_edges L G Q.rows b (s.right.gives b w) p.right_asked) k);
      };
      looks = after_merging g e.After-right_parts;
    }

pub returns-in_err-merged-clause-looks : goal.returns-in_err-merged-clause-looks
returns-in_err-merged-clause-looks g c = λ a b v w edges more.
    in_work a b (rows_of c.args.delta.now) 582 c.args.looked.now c.merge_sources.new.looked (omega arith) (c.merge_sources.ensures.looks a b v w edges more)

pub returns-in_err-from_right-clause-looks : goal.returns-in_err-from_right-clause-looks
returns-in_err-from_right-clause-looks g c = let e = goal.at.returns-in_err-from_right-clause-looks g c in after_merging g e.After-right_parts

pub returns-in_err-from_left-clause-looks : goal.returns-in_err-from_left-clause-looks
returns-in_err-from_left-clause-looks g c = let e = goal.at.returns-in_err-from_left-clause-looks g c in after_merging g e.After-right_parts

pub returns-in_err-left_change-clause-looks : goal.returns-in_err-left_change-clause-looks
returns-in_err-left_change-clause-looks g c = let e = goal.at.returns-in_err-left_change-clause-looks g c in after_merging g e.After-right_parts

pub returns-in_err-right_change-clause-looks : goal.returns-in_err-right_change-clause-looks
returns-in_err-right_change-clause-looks g c = let e = goal.at.returns-in_err-right_change-clause-looks g c in after_merging g e.After-right_parts
