use Rattle.std.proofs.Common.{ap, ◌∙◌, sym, subst, Err}
use Rattle.grammar_specs.specs.Common.{syntax_at}
use Rattle.grammar_laws.specs.Reading.{next_offset}
use Rattle.view_lang.specs.Outcomes.{placed_view, reader_view}
use Rattle.view_lang.specs.Reads.{Reads}
use Rattle.view_lang.proofs.Outcomes.{wrong_read, whole_read, stopped_read, deep_read}
use Rattle.view_lang.proofs.parsing.read.Goals as goal

pub returns-in-Some : goal.returns-in-Some
returns-in-Some c =
    wrong_read 32 c.args.text.now (placed_view c.in_ok-tokens.tokens.items) (reader_view c.definition_alone.new.self) c.in_ok-tokens.wrong c.in-Some.at c.in-Ok.definition c.in_ok-tokens.ensures c.in-Some.is c.in-Ok.ensures.0

pub returns-in-Ok : goal.returns-in-Ok
returns-in-Ok c =
    let whole = whole_read 32 c.args.text.now (placed_view c.in_ok-tokens.tokens.items) (reader_view c.definition_alone.new.self) c.in_ok-tokens.wrong c.in-Ok.definition c.in_ok-tokens.ensures c.in-None.is c.in-Ok.ensures.0 in
    subst (Reads c.limited.result) (sym whole) c.limited.ensures

pub returns-in-Err-Stopped : goal.returns-in-Err-Stopped
returns-in-Err-Stopped c =
    let left = reader_view c.definition_alone.new.self in
    let stopped = stopped_read 32 c.args.text.now (placed_view c.in_ok-tokens.tokens.items) left c.in_ok-tokens.wrong c.in-Err-Stopped.field-0 c.in_ok-tokens.ensures c.in-Err-Stopped.field-0-is c.in-Err-Stopped.ensures.0 in
    stopped ∙ ap (λ at. Err (syntax_at at)) (ap (next_offset left) (sym c.unwrap_or.ensures) ∙ sym c.offset_or-at.ensures)

pub returns-in-Err-TooDeep : goal.returns-in-Err-TooDeep
returns-in-Err-TooDeep c =
    deep_read 32 c.args.text.now (placed_view c.in_ok-tokens.tokens.items) (reader_view c.definition_alone.new.self) c.in_ok-tokens.wrong c.in-Err-TooDeep.field-0 c.in_ok-tokens.ensures c.in-Err-TooDeep.field-0-is c.in-Err-TooDeep.ensures.0
