use Rattle.std.proofs.Common.{◌∙◌, ◌∷◌, [], Some, ap, length, sym, arith}
use Rattle.plain_values.proofs.Common.{length-append}
use Rattle.csv.specs.Records.{fields_of}
use Rattle.plain_values.specs.declared.value.Kind.TheVariants as kind
use Rattle.view_csv.proofs.PlaceLemmas.{values_more, values_none}
use Rattle.view_csv.proofs.places.values_of.Goals as goal

pub returns-in-None-clause-values : goal.returns-in-None-clause-values
returns-in-None-clause-values c =
    values_none c.args.places.now c.loop-place.place-index (0, kind.Int) (fields_of c.args.fields.now) (omega arith) (sym c.in-None.is ∙ c.in_ok-value.ensures)

pub loop-place-preserved : goal.loop-place-preserved
loop-place-preserved c = (
  values_more c.args.places.now c.loop-place.place-index (0, kind.Int) (fields_of c.args.fields.now) c.loop-place.values.items c.in-Some.value (omega arith) c.loop-place.invariant.0
      (sym c.in-Some.is ∙ c.in_ok-value.ensures) ∙ ap Some (sym c.in_ok-push-in-Some.ensures.items),
  ap length c.in_ok-push-in-Some.ensures.items ∙ length-append c.loop-place.values.items (c.in-Some.value ∷ []) ∙ omega (arith, c.loop-place.invariant.1),
)
