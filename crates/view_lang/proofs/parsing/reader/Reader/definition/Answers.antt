use Rattle.std.proofs.Common.{Bool, length, refl, ap, arith}
use Rattle.plain_values.proofs.Common.{then_some}
use Rattle.view_lang.specs.Outcomes.{reader_view}
use Rattle.view_lang.proofs.Turns.{fewer_passed}
use Rattle.view_lang.proofs.parsing.reader.Reader.definition.Goals as goal

pub returns-then-take_word : goal.returns-then-take_word
returns-then-take_word c = (
  rw (← c.take_word.ensures.0, c.if-take_word.true) c.table.ensures.0,
  omega (arith, fewer_passed _ _ _ c.if-take_word.true c.take_word.ensures.2, c.table.ensures.1),
)

pub returns : goal.returns
returns c =
    let same = ap reader_view (c.take_word.ensures.1 (ap (λ (b : Bool). then_some b (tt {0})) c.if-take_word.false)) in (
      rw (← c.take_word.ensures.0, c.if-take_word.false, ← same, ← c.in_ok-need_word.ensures.0.0) c.view.ensures.0,
      omega (arith, ap length same, c.in_ok-need_word.ensures.0.2 refl, c.view.ensures.1),
    )
