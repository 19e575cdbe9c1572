use Rattle.grammar_laws.proofs.Reading.{reading_answers, answers_are_read}
use Rattle.grammar_laws.proofs.reading_is_the_grammar.Goals as goal

pub returns : goal.returns
returns c = record { answers = reading_answers; only = answers_are_read }
