use Rattle.std.proofs.Common.{sym, ◌∙◌}
use Rattle.csv.specs.Records.{fields_of}
use Rattle.view_csv.proofs.PlaceLemmas.{name_there, none_yet, place_found}
use Rattle.view_csv.proofs.places.place_of.Goals as goal

pub returns-then-has_at-clause-is : goal.returns-then-has_at-clause-is
returns-then-has_at-clause-is c = sym (name_there c.args.name.now (fields_of c.args.header.now) c.loop-place.place (sym c.has_at.ensures ∙ c.if-has_at.true))

pub returns-then-has_at-clause-place : goal.returns-then-has_at-clause-place
returns-then-has_at-clause-place c = place_found c.args.name.now (fields_of c.args.header.now) c.loop-place.place c.loop-place.invariant (sym c.has_at.ensures ∙ c.if-has_at.true)

pub loop-place-preserved : goal.loop-place-preserved
loop-place-preserved c = none_yet c.args.name.now (fields_of c.args.header.now) c.loop-place.place c.loop-place.invariant (sym c.has_at.ensures ∙ c.if-has_at.false)
