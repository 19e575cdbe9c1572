use Rattle.std.proofs.Common.{◌≡◌, ◌∙◌, sym, ap, arith, true, bytes_eq}
use Rattle.plain_values.proofs.Common.{bytes_eq-Decides}
use Rattle.plain_values.specs.declared.value.Kind.{Kind}
use Rattle.lens_specs.specs.Relation.{Name}
use Rattle.request_reading.proofs.Beside.{beside_more}
use Rattle.request_reading.proofs.rows.are_beside.Goals as goal

pub loop-place-preserved : goal.loop-place-preserved
loop-place-preserved c =
    let here = c.index-members-place.result in
    let column = c.index-columns-place.result in
    let name = c.as_str.result.now in
    let equal : bytes_eq here.0.now name ≡ true = grind arith in
    let named : here.0.now ≡ column.0 = (bytes_eq-Decides here.0.now name).0 equal ∙ c.as_str.ensures ∙ ap (λ (x : Name × Kind). x.0) (sym c.index-columns-place.is) in
    beside_more c.args.columns.now c.args.members.now c.loop-place.place column here c.loop-place-test.true c.index-columns-place.is (omega arith) c.index-members-place.is named c.loop-place.invariant
