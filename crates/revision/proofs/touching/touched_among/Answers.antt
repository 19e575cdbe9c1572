use Rattle.std.proofs.Common.{◌∙◌, ap, arith, length, map}
use Rattle.lens_specs.specs.Common.{revise_row}
use Rattle.revision.proofs.Changed.{all_are}
use Rattle.revision.proofs.touching.touched_among.Goals as goal

pub returns-clause-touched : goal.returns-clause-touched
returns-clause-touched c = λ M enough.
    c.in_ok-touched.ensures.differing
    ∙ all_are c.args.tree.now M c.args.plus.now c.args.near.now c.rows-2.result.now c.rows.result.now c.deref.result.now
    enough c.rows-2.ensures c.rows.ensures
    (c.deref.ensures.value ∙ c.in_ok-revised.ensures ∙ ap (λ es. map (λ m. revise_row es m c.args.plus.now) c.rows.result.now) c.edges.ensures.edges)

pub returns-clause-few : goal.returns-clause-few
returns-clause-few c =
    let listed = ap length c.rows-2.ensures in
    let fewer = c.in_ok-touched.ensures.few in
    omega (arith, listed, fewer)
