-- What is proved of reading.
use Rattle.std.specs.Prelude.{◌≡◌, ℕ, ◌<◌, ◌^◌, List, length, Result}
use Rattle.grammar_specs.specs.Meaning.{Definition}
use Rattle.grammar_specs.specs.Faults.{Fault, Answers}
use Rattle.grammar_laws.specs.Reading.{reading}

-- Reading a text gives the text's answer.
abbrev pub ReadingAnswers : Type 0
ReadingAnswers = (text : List ℕ) → length text < 2 ^ 64 → Answers text (reading text)

-- A text has no other answer.
abbrev pub AnswersAreRead : Type 0
AnswersAreRead = (text : List ℕ) (answer : Result Definition Fault) → length text < 2 ^ 64 → Answers text answer → answer ≡ reading text
