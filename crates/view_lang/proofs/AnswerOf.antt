-- What is read is the answer of the text.
use Rattle.std.proofs.Common.{ℕ, ◌<◌, ◌^◌, List, length, subst, Result, Ok, Err}
use Rattle.grammar_specs.specs.Meaning as meaning
use Rattle.grammar_specs.specs.Common.{Fault, Answers}
use Rattle.grammar_laws.specs.Reading.{reading}
use Rattle.grammar_laws.proofs.Reading.{reading_answers}
use Rattle.view_lang.specs.declared.definition.Definition as code
use Rattle.view_lang.specs.declared.definition.LangFault.{LangFault}
use Rattle.view_lang.specs.declared.definition.LangFault.TheVariants.{Syntax, TooLarge, NoMemory}
use Rattle.view_limits.specs.declared.limit.Limit.TheVariants.{Columns, Lens, Predicate, Nesting, Tables, Views}
use Rattle.view_lang.specs.Reads.{Reads, IsAnswerOf}

as_answer : (text : List ℕ) (answer : Result meaning.Definition Fault) (r : Result code.Definition LangFault) → Answers text answer → Reads r answer → IsAnswerOf text r
as_answer text answer (Ok d) is reads = subst (Answers text) reads is
as_answer text answer (Err (Syntax at)) is reads = subst (Answers text) reads is
as_answer text answer (Err (TooLarge Columns)) is reads = subst (Answers text) reads is
as_answer text answer (Err (TooLarge Lens)) is reads = reads
as_answer text answer (Err (TooLarge Predicate)) is reads = subst (Answers text) reads is
as_answer text answer (Err (TooLarge Nesting)) is reads = subst (Answers text) reads is
as_answer text answer (Err (TooLarge Tables)) is reads = reads
as_answer text answer (Err (TooLarge Views)) is reads = reads
as_answer text answer (Err NoMemory) is reads = tt

-- what is read is the answer that the grammar has for the text
pub answer_of : (text : List ℕ) (r : Result code.Definition LangFault) → length text < 2 ^ 64 → Reads r (reading text) → IsAnswerOf text r
answer_of text r h reads = as_answer text (reading text) r (reading_answers text h) reads
