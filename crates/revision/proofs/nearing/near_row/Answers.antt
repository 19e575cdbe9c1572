use Rattle.std.proofs.Common.{◌≡◌, ◌+◌, ◌<◌, ◌≤◌, ◌∙◌, ap, drop, get_or, length, arith}
use Rattle.plain_values.proofs.Common.{drop_all}
use Rattle.lens_specs.specs.Common.{names, Within}
use Rattle.signed_delta.proofs.Counts.{all_rows, at_end, more_rows, next, one_more}
use Rattle.revision.specs.Near.{near_from}
use Rattle.revision.proofs.Changed.{edge_at, side_there}
use Rattle.revision.proofs.Near.{near_done, near_more}
use Rattle.revision.proofs.nearing.near_row.Goals as goal

pub with_near-requires-clause-have : goal.with_near-requires-clause-have
with_near-requires-clause-have g c =
    let T = c.args.tree.now in
    let U = (g.K.Look.relation c.args.look.now).columns in
    let i = c.loop-edge.edge-index in
    let e = c.edge-item.result in
    let below : i < length T = omega (arith, c.loop-edge-test.true, ap length c.edges-edge-items.ensures.edges) in
    let here : e ≡ get_or T i e = c.edge-item.is ∙ ap (λ es. get_or es i e) c.edges-edge-items.ensures.edges in
    let within : Within e.left (names U) = edge_at (λ k. Within k.left (names U)) T i e c.requires.columns below here in
    side_there U e.left c.args.row.now within c.requires.fit

pub loop-edge-preserved : goal.loop-edge-preserved
loop-edge-preserved g c =
    let T = c.args.tree.now in
    let M = (g.K.Look.relation c.args.look.now).rows in
    let p = c.args.row.now in
    let i = c.loop-edge.edge-index in
    let e = c.edge-item.result in
    let below : i < length T = omega (arith, c.loop-edge-test.true, ap length c.edges-edge-items.ensures.edges) in
    let here : e ≡ get_or T i e = c.edge-item.is ∙ ap (λ es. get_or es i e) c.edges-edge-items.ensures.edges in (
      ap (near_from (drop (i + 1) T) M p) c.in_ok-near.ensures.near
          ∙ near_more T i e M p c.loop-edge.near.items below here ∙ c.loop-edge.invariant.0,
      λ n w. next n i c.args.looked.now c.loop-edge.looked c.with_near.new.looked (c.loop-edge.invariant.1 n w) (c.with_near.ensures.looks n w),
      λ n w. more_rows n i (length c.loop-edge.near.items) (length c.in_ok-near.near.items) (c.loop-edge.invariant.2 n w) (c.in_ok-near.ensures.few n w),
    )

pub returns-in_err-near-clause-looks : goal.returns-in_err-near-clause-looks
returns-in_err-near-clause-looks g c = λ n w.
    let T = c.args.tree.now in
    let edges = ap length c.edges-edge-items.ensures.edges in
    one_more n c.loop-edge.edge-index (length T) c.args.looked.now c.loop-edge.looked c.with_near.new.looked (omega (arith, c.loop-edge-test.true, edges))
    (c.loop-edge.invariant.1 n w) (c.with_near.ensures.looks n w)

pub returns : goal.returns
returns g c =
    let T = c.args.tree.now in
    let i = c.loop-edge.edge-index in
    let edges = ap length c.edges-edge-items.ensures.edges in
    let past : length T ≤ i = omega (arith, c.loop-edge-test.false, edges) in
    let end : i ≤ length T = omega (arith, c.loop-edge.auto.edge-index-end, edges) in
    record {
      near = near_done (drop i T) (g.K.Look.relation c.args.look.now).rows c.args.row.now c.loop-edge.near.items (drop_all i T past) ∙ c.loop-edge.invariant.0;
      looks = λ n w. at_end n i (length T) c.args.looked.now c.loop-edge.looked end (c.loop-edge.invariant.1 n w);
      few = λ n w. all_rows n i (length T) (length c.loop-edge.near.items) end (c.loop-edge.invariant.2 n w);
    }
