use Rattle.std.proofs.Common.{◌≡◌, ◌*◌, ◌<◌, ◌≤◌, ◌∙◌, ℕ, [], ap, drop, get_or, length, sym, arith, not}
use Rattle.plain_values.proofs.Common.{drop_all, mul-le-mul_left}
use Rattle.plain_values.specs.SortedSet as set
use Rattle.lens_specs.specs.Common.{names, Within, Edge, Rows, has}
use Rattle.lens_laws.proofs.Common.{found_each}
use Rattle.fd_laws.proofs.Common.{from_those}
use Rattle.signed_delta.proofs.Counts.{all_rows, at_end, listed_len, more_rows, next, one_more, those_len, union_len}
use Rattle.revision.specs.Near.{is_like_first, near_through, unlike}
use Rattle.revision.proofs.ByEdges.{through_all, through_enough, through_more}
use Rattle.revision.proofs.Changed.{edge_at, side_there}
use Rattle.revision.proofs.nearing.near_by_edges.Goals as goal

pub loop-edge-init : goal.loop-edge-init
loop-edge-init g c = (
  ap (near_through c.args.tree.now (g.K.Look.relation c.args.look.now).rows c.args.plus.now) c.empty-near.ensures,
  λ n w. omega arith,
  λ n w.
      let is = ap (λ s. length (set.items s)) c.empty-near.ensures in
      let none = listed_len [] in
      omega (arith, is, none),
)

-- no more rows ask than there are new ones
fewer : (n : ℕ) (e : Edge) (N L some : Rows) → some ≡ unlike e N L → n * length (set.items some) ≤ n * length (set.items L)
fewer n e N L some is =
    let few = those_len (λ p. not (is_like_first e N p)) L in
    mul-le-mul_left n (omega (arith, few, ap (λ s. length (set.items s)) is))

pub find_each-requires-clause-have : goal.find_each-requires-clause-have
find_each-requires-clause-have g c = λ row there k in_left.
    let T = c.args.tree.now in
    let U = (g.K.Look.relation c.args.look.now).columns in
    let i = c.loop-edge.edge-index in
    let e = c.edge-item.result in
    let below : i < length T = omega (arith, c.loop-edge-test.true, ap length c.edges-edge-items.ensures.edges) in
    let here : e ≡ get_or T i e = c.edge-item.is ∙ ap (λ es. get_or es i e) c.edges-edge-items.ensures.edges in
    let within : Within e.left (names U) = edge_at (λ k. Within k.left (names U)) T i e c.requires.columns below here in
    let new = (from_those (λ p. not (is_like_first e c.loop-edge.near p)) c.args.plus.now row (ap (λ N. has N row) (sym c.in_ok-unlike.ensures) ∙ there)).0 in
    side_there U e.left row within (c.requires.fit row new) k (ap (λ x. set.contains x.left k) (sym c.edge.view_is) ∙ in_left)

pub loop-edge-preserved : goal.loop-edge-preserved
loop-edge-preserved g c =
    let T = c.args.tree.now in
    let M = (g.K.Look.relation c.args.look.now).rows in
    let L = c.args.plus.now in
    let i = c.loop-edge.edge-index in
    let e = c.edge-item.result in
    let N = c.loop-edge.near in
    let unlike_now = c.in_ok-unlike.unlike in
    let below : i < length T = omega (arith, c.loop-edge-test.true, ap length c.edges-edge-items.ensures.edges) in
    let here : e ≡ get_or T i e = c.edge-item.is ∙ ap (λ es. get_or es i e) c.edges-edge-items.ensures.edges in
    let some : c.in_ok-some.some ≡ found_each e.left M (set.items (unlike e N L)) =
    c.in_ok-some.ensures.found ∙ ap (λ x. found_each x.left M (set.items unlike_now)) c.edge.view_is ∙ ap (λ R. found_each e.left M (set.items R)) c.in_ok-unlike.ensures in
    let P = length (set.items L) in (
      through_more T i e M L N c.in_ok-some.some c.in_ok-near.near below here some c.in_ok-near.ensures ∙ c.loop-edge.invariant.0,
      λ n w.
          let few = fewer n e N L unlike_now c.in_ok-unlike.ensures in
          let now = c.find_each.ensures.looks n w in
          next (n * P) i c.args.looked.now c.loop-edge.looked c.find_each.new.looked (c.loop-edge.invariant.1 n w) (omega (arith, few, now)),
      λ n w.
          let is = ap (λ s. length (set.items s)) c.in_ok-near.ensures in
          let both = union_len N c.in_ok-some.some in
          let before = c.loop-edge.invariant.2 n w in
          let few = fewer n e N L unlike_now c.in_ok-unlike.ensures in
          let now = c.in_ok-some.ensures.few n w in
          more_rows (n * P) i (length (set.items N)) (length (set.items c.in_ok-near.near)) before (omega (arith, is, both, few, now)),
    )

pub returns-in_err-unlike-clause-looks : goal.returns-in_err-unlike-clause-looks
returns-in_err-unlike-clause-looks g c = λ n w.
    let T = c.args.tree.now in
    let edges = ap length c.edges-edge-items.ensures.edges in
    let end : c.loop-edge.edge-index ≤ length T = omega (arith, c.loop-edge.auto.edge-index-end, edges) in
    at_end (n * length (set.items c.args.plus.now)) c.loop-edge.edge-index (length T) c.args.looked.now c.loop-edge.looked end (c.loop-edge.invariant.1 n w)

pub returns-in_err-some-clause-looks : goal.returns-in_err-some-clause-looks
returns-in_err-some-clause-looks g c = λ n w.
    let T = c.args.tree.now in
    let edges = ap length c.edges-edge-items.ensures.edges in
    let few = fewer n c.edge-item.result c.loop-edge.near c.args.plus.now c.in_ok-unlike.unlike c.in_ok-unlike.ensures in
    let now = c.find_each.ensures.looks n w in
    one_more (n * length (set.items c.args.plus.now)) c.loop-edge.edge-index (length T) c.args.looked.now c.loop-edge.looked c.find_each.new.looked (omega (arith, c.loop-edge-test.true, edges))
    (c.loop-edge.invariant.1 n w) (omega (arith, few, now))

pub returns-in_err-near-clause-looks : goal.returns-in_err-near-clause-looks
returns-in_err-near-clause-looks g c = λ n w.
    let T = c.args.tree.now in
    let edges = ap length c.edges-edge-items.ensures.edges in
    let few = fewer n c.edge-item.result c.loop-edge.near c.args.plus.now c.in_ok-unlike.unlike c.in_ok-unlike.ensures in
    let now = c.find_each.ensures.looks n w in
    one_more (n * length (set.items c.args.plus.now)) c.loop-edge.edge-index (length T) c.args.looked.now c.loop-edge.looked c.find_each.new.looked (omega (arith, c.loop-edge-test.true, edges))
    (c.loop-edge.invariant.1 n w) (omega (arith, few, now))

pub returns : goal.returns
returns g c =
    let T = c.args.tree.now in
    let M = (g.K.Look.relation c.args.look.now).rows in
    let i = c.loop-edge.edge-index in
    let P = length (set.items c.args.plus.now) in
    let edges = ap length c.edges-edge-items.ensures.edges in
    let past : length T ≤ i = omega (arith, c.loop-edge-test.false, edges) in
    let end : i ≤ length T = omega (arith, c.loop-edge.auto.edge-index-end, edges) in
    record {
      near = through_enough T M c.args.plus.now c.loop-edge.near c.requires.meets
          (through_all (drop i T) M c.args.plus.now c.loop-edge.near (drop_all i T past) ∙ c.loop-edge.invariant.0);
      looks = λ n w. at_end (n * P) i (length T) c.args.looked.now c.loop-edge.looked end (c.loop-edge.invariant.1 n w);
      few = λ n w. all_rows (n * P) i (length T) (length (set.items c.loop-edge.near)) end (c.loop-edge.invariant.2 n w);
    }
