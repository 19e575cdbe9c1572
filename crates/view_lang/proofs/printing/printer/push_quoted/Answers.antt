use Rattle.std.proofs.Common.{◌∙◌, ◌++◌, ap, string_bytes}
use lib.Utf8.{encode}
use Rattle.view_lang.proofs.Quotes.{quote_more, char_more}
use Rattle.view_lang.proofs.printing.printer.push_quoted.Goals as goal
use Rattle.view_lang.proofs.printing.printer.push_quoted.Goals.{then-c-eq39+in_ok-push-2, else-c-eq39}

pub loop-c-preserved : goal.loop-c-preserved
loop-c-preserved c =
    elim c.if-c-eq39.branch [
      | then-c-eq39+in_ok-push-2 w ↦
          quote_more _ _ _ _ _ c.in-Some.c w.if-c-eq39.true w.in_ok-push-2.ensures.bytes
          (c.in_ok-push-3.ensures.bytes ∙ ap (λ text. string_bytes text ++ encode c.in-Some.c) w.text-is) c.in-Some.ensures.steps.0
          ∙ c.loop-c.invariant
      | else-c-eq39 w ↦
          char_more _ _ _ _ c.in-Some.c w.if-c-eq39.false
          (c.in_ok-push-3.ensures.bytes ∙ ap (λ text. string_bytes text ++ encode c.in-Some.c) w.text-is) c.in-Some.ensures.steps.0
          ∙ c.loop-c.invariant
    ]
