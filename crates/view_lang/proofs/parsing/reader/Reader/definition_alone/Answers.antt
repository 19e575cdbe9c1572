use Rattle.std.proofs.Common.{refl}
use Rattle.view_lang.specs.Outcomes.{reader_view, IsDefinition}
use Rattle.view_lang.proofs.Turns.{given_ok, stops, more_follow, none_follow}
use Rattle.view_lang.proofs.parsing.reader.Reader.definition_alone.Goals as goal

pub returns-in_err-definition : goal.returns-in_err-definition
returns-in_err-definition c = (
  stops IsDefinition IsDefinition _ _ _ _ _ c.in_err-definition.ensures.0 c.from_residual.ensures.1,
  c.definition.ensures.1,
)

pub returns-in-Some : goal.returns-in-Some
returns-in-Some c =
    let one = given_ok IsDefinition _ c.in_ok-definition.definition _ c.in_ok-definition.ensures.0 in (
      rw (one.1, more_follow one.0 (reader_view c.definition.new.self) _ c.in-Some.ensures) refl,
      c.definition.ensures.1,
    )

pub returns-in-None : goal.returns-in-None
returns-in-None c =
    let one = given_ok IsDefinition _ c.in_ok-definition.definition _ c.in_ok-definition.ensures.0 in (
      rw (one.1, none_follow one.0 (reader_view c.definition.new.self) c.in-None.ensures) (one.2, refl),
      c.definition.ensures.1,
    )
