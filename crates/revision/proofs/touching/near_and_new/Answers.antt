use Rattle.std.proofs.Common.{◌≡◌, ◌≢◌, ◌+◌, ◌*◌, ◌≤◌, ◌∙◌, ℕ, List, [], ◌∷◌, ap, arith, length, refl, sym}
use Rattle.plain_values.proofs.Common.{eqb-false, eqb-true}
use Rattle.plain_values.specs.SortedSet as set
use Rattle.lens_specs.specs.Common.{Edge}
use Rattle.revision.specs.Near.{near_through}
use Rattle.revision.proofs.ByEdges.{through_all, through_enough}
use Rattle.revision.proofs.Near.{new_among}
use Rattle.revision.proofs.touching.near_and_new.Goals as goal

no_edge : (T : List Edge) → length T ≡ 0 → T ≡ []
no_edge [] none = refl
no_edge (e ∷ es) none = absurd (omega arith)

-- the questions of one kind or of the other are within those of both
by_edges : (n p e old now : ℕ) → now ≤ old + n * p * e → now ≤ old + n * p * (e + 1)
by_edges n p e old now h =
    let s : n * p * (e + 1) ≡ n * p + n * p * e = grind arith in
    omega arith

one_each : (n p e old now : ℕ) → now ≤ old + n * p → now ≤ old + n * p * (e + 1)
one_each n p e old now h =
    let s : n * p * (e + 1) ≡ n * p + n * p * e = grind arith in
    omega arith

pub returns-then-is_empty : goal.returns-then-is_empty
returns-then-is_empty g c =
    let T = c.args.tree.now in
    let M = (g.K.Look.relation c.args.look.now).rows in
    let none : length T ≡ 0 = ap length (sym c.edges.ensures.edges) ∙ eqb-true _ _ (sym c.is_empty.ensures ∙ c.if-is_empty.true) in
    record {
      rows = through_enough T M c.args.plus.now c.empty-rows.result c.requires.meets
          (through_all T M c.args.plus.now c.empty-rows.result (no_edge T none) ∙ ap (near_through T M c.args.plus.now) c.empty-rows.ensures);
      new = c.in_ok-new.ensures.rows;
      looks = λ n w. one_each n (length (set.items c.args.plus.now)) (length T) c.args.looked.now c.absent.new.looked (c.absent.ensures.looks n w);
    }

pub returns-in_err-new-clause-looks : goal.returns-in_err-new-clause-looks
returns-in_err-new-clause-looks g c = λ n w.
    one_each n (length (set.items c.args.plus.now)) (length c.args.tree.now) c.args.looked.now c.absent.new.looked (c.absent.ensures.looks n w)

pub returns-in_err-rows-clause-looks : goal.returns-in_err-rows-clause-looks
returns-in_err-rows-clause-looks g c = λ n w.
    by_edges n (length (set.items c.args.plus.now)) (length c.args.tree.now) c.args.looked.now c.near_rows.new.looked (c.near_rows.ensures.looks n w)

pub returns : goal.returns
returns g c =
    let T = c.args.tree.now in
    let some : length T ≢ 0 = λ none. eqb-false _ _ (sym c.is_empty.ensures ∙ c.if-is_empty.false) (ap length c.edges.ensures.edges ∙ none) in
    record {
      rows = c.in_ok-rows.ensures.near;
      new = c.in_ok-new-2.ensures ∙ new_among T (g.K.Look.relation c.args.look.now).rows c.args.plus.now c.in_ok-rows.rows c.in_ok-rows.ensures.near some;
      looks = λ n w. by_edges n (length (set.items c.args.plus.now)) (length T) c.args.looked.now c.near_rows.new.looked (c.near_rows.ensures.looks n w);
    }
