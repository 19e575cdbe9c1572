use Rattle.std.proofs.Common.{◌≡◌, ◌≤◌, ◌∙◌, ℕ, IfOk, ap, arith, length, subst, sym}
use Rattle.plain_values.proofs.Common.{IfOk-weaker, eqb-true}
use Rattle.lens_specs.specs.Common.{Delta, Rows, has, holds}
use Rattle.lens_laws.proofs.Common.{select_delta, rows_down, rows_of}
use Rattle.lens_laws.proofs.DeltaCounts.{select_delta_small}
use Rattle.signed_delta.proofs.Gives.{gives_by_edges}
use Rattle.revision.specs.Near.{HasChanged}
use Rattle.revision.specs.Touching.{all_touched}
use Rattle.select_delta.specs.Selected.{edited_source, with_touched}
use Rattle.select_delta.proofs.CarriedSelection.{added_fit, apart, carried, carried_alone, is_difference}
use Rattle.select_delta.proofs.SelectionLooks.{looks_are}
use Rattle.select_delta.proofs.editing.select_delta.Given.{Over}
use Rattle.select_delta.proofs.editing.select_delta.Goals.{In_ok-touched}
use Rattle.select_delta.proofs.editing.select_delta.Goals as goal

pub near_rows-requires : goal.near_rows-requires
near_rows-requires g c =
    let R = g.S.Look.relation c.args.source.now in
    let q = c.requires in
    record {
      asked = q.asked;
      columns = q.columns;
      meets = q.meets;
      fit = λ row there.
          added_fit R.columns c.args.tree.now c.args.pred.now R.rows c.args.delta q.view row
          (ap (λ N. has N row) (sym c.add.ensures) ∙ there);
    }

pub returns-in_err-near-clause-looks : goal.returns-in_err-near-clause-looks
returns-in_err-near-clause-looks g c = λ n w edges.
    looks_are c.args.delta c.add.result.now (length c.args.tree.now) n c.args.looked.now c.near_rows.new.looked c.add.ensures (c.near_rows.ensures.looks n w) edges (c.columns-columns.ensures.some n w)

pub returns-in_err-touched-clause-looks : goal.returns-in_err-touched-clause-looks
returns-in_err-touched-clause-looks g c = λ n w edges.
    looks_are c.args.delta c.add.result.now (length c.args.tree.now) n c.args.looked.now c.near_rows.new.looked c.add.ensures (c.near_rows.ensures.looks n w) edges (c.columns-columns.ensures.some n w)

pub returns-then-is_empty : goal.returns-then-is_empty
returns-then-is_empty g c =
    let R = g.S.Look.relation c.args.source.now in
    let M = R.rows in
    let F = c.args.tree.now in
    let P = c.args.pred.now in
    let d = c.args.delta in
    let q = c.requires in
    let hidden = c.refused-hidden.result in
    let changes = c.in_ok-touched.touched.items in
    let enough = subst (λ L. HasChanged F M L c.in_ok-near.near) c.add.ensures c.in_ok-near.ensures.near in
    let all = subst (λ L. (N : Rows) → HasChanged F N L hidden → changes ≡ all_touched F N L) c.add-2.ensures c.in_ok-touched.ensures.touched in
    let zero = eqb-true _ _ (sym c.is_empty.ensures ∙ c.if-is_empty.true) in
    let none : length changes ≡ 0 = omega (arith, zero, c.in_ok-touched.touched.ok) in
    let made : d ≡ select_delta F (holds P) M d = carried_alone F M P d c.in_ok-near.near hidden changes enough c.refused-hidden.ensures all none in
    record {
      delta = made ∙ is_difference R.columns F P M d c.touched_among.ensures.tree c.columns-columns.ensures.fit q.meets q.applies q.view;
      looks = λ n w edges. looks_are d c.add.result.now (length F) n c.args.looked.now c.near_rows.new.looked c.add.ensures (c.near_rows.ensures.looks n w) edges (c.columns-columns.ensures.some n w);
      few = λ n w edges.
          subst (λ (x : Delta). rows_of x ≤ rows_down (rows_of d) n) (sym made)
          (select_delta_small F (holds P) M d n edges (c.columns-columns.ensures.some n w)
          (gives_by_edges (g.S.Look.asked c.args.source.now) F M n (c.columns-columns.ensures.gives n w) q.asked));
    }

-- with rows that change
made : (g : Over) (c : In_ok-touched g) → let M = (g.S.Look.relation c.args.source.now).rows in
    with_touched c.args.pred.now c.in_ok-touched.touched.items c.args.delta ≡ select_delta c.args.tree.now (holds c.args.pred.now) M c.args.delta
made g c =
    let M = (g.S.Look.relation c.args.source.now).rows in
    let F = c.args.tree.now in
    let d = c.args.delta in
    let hidden = c.refused-hidden.result in
    let changes = c.in_ok-touched.touched.items in
    let enough = subst (λ L. HasChanged F M L c.in_ok-near.near) c.add.ensures c.in_ok-near.ensures.near in
    let all = subst (λ L. (N : Rows) → HasChanged F N L hidden → changes ≡ all_touched F N L) c.add-2.ensures c.in_ok-touched.ensures.touched in
    carried F M c.args.pred.now d c.in_ok-near.near hidden changes enough c.refused-hidden.ensures all

pub with_touched-requires : goal.with_touched-requires
with_touched-requires g c =
    let R = g.S.Look.relation c.args.source.now in
    let F = c.args.tree.now in
    let P = c.args.pred.now in
    let d = c.args.delta in
    let q = c.requires in
    let change = with_touched P c.in_ok-touched.touched.items d in
    let is = made g (goal.at.with_touched-requires g c).In_ok-touched ∙ is_difference R.columns F P R.rows d c.touched_among.ensures.tree c.columns-columns.ensures.fit q.meets q.applies q.view in
    apart R.rows (edited_source F P R.rows d) change.remove change.add is

pub returns : goal.returns
returns g c =
    let R = g.S.Look.relation c.args.source.now in
    let M = R.rows in
    let F = c.args.tree.now in
    let P = c.args.pred.now in
    let d = c.args.delta in
    let q = c.requires in
    let change = with_touched P c.in_ok-touched.touched.items d in
    let is = made g (goal.at.returns g c).In_ok-touched in
    record {
      delta = subst (λ (x : Delta). IfOk c.with_touched.result (λ made. made ≡ x))
          (is ∙ is_difference R.columns F P M d c.touched_among.ensures.tree c.columns-columns.ensures.fit q.meets q.applies q.view) c.with_touched.ensures;
      looks = λ n w edges. looks_are d c.add.result.now (length F) n c.args.looked.now c.near_rows.new.looked c.add.ensures (c.near_rows.ensures.looks n w) edges (c.columns-columns.ensures.some n w);
      few = IfOk-weaker c.with_touched.result (λ made. made ≡ change) (λ made. (n : ℕ) → g.S.Look.within c.args.source.now n → length F ≤ 64 → rows_of made ≤ rows_down (rows_of d) n)
          (λ made same n w edges.
          subst (λ (x : Delta). rows_of x ≤ rows_down (rows_of d) n) (sym (same ∙ is))
          (select_delta_small F (holds P) M d n edges (c.columns-columns.ensures.some n w)
          (gives_by_edges (g.S.Look.asked c.args.source.now) F M n (c.columns-columns.ensures.gives n w) q.asked))) c.with_touched.ensures;
    }
