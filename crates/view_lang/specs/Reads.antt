-- When an answer of the code is the answer of a text.
use Rattle.std.specs.Prelude.{◌≡◌, ℕ, List, Result, Ok, Err}
use Rattle.grammar_specs.specs.Meaning as meaning
use Rattle.grammar_specs.specs.Faults.{Fault, Answers, syntax_at, too_large, columns, predicate, nested}
use Rattle.view_lang.specs.declared.definition.Definition as code
use Rattle.view_lang.specs.declared.definition.LangFault.{LangFault}
use Rattle.view_lang.specs.declared.definition.LangFault.TheVariants.{Syntax, TooLarge, NoMemory}
use Rattle.view_limits.specs.declared.limit.Limit.TheVariants.{Columns, Lens, Predicate, Nesting, Tables, Views}
use Rattle.view_lang.specs.DefViews.{definition_view}

-- the code's answer is this one, or memory ran out
abbrev pub Reads : Result code.Definition LangFault → Result meaning.Definition Fault → Type 0
Reads (Ok d) answer = answer ≡ Ok (definition_view d)
Reads (Err (Syntax at)) answer = answer ≡ Err (syntax_at at)
Reads (Err (TooLarge Columns)) answer = answer ≡ Err (too_large columns)
Reads (Err (TooLarge Lens)) answer = ⊥
Reads (Err (TooLarge Predicate)) answer = answer ≡ Err (too_large predicate)
Reads (Err (TooLarge Nesting)) answer = answer ≡ Err (too_large nested)
Reads (Err (TooLarge Tables)) answer = ⊥
Reads (Err (TooLarge Views)) answer = ⊥
Reads (Err NoMemory) answer = Unit {0}

-- the code's answer is the one that the grammar has for the text, or memory ran out
abbrev pub IsAnswerOf : List ℕ → Result code.Definition LangFault → Type 0
IsAnswerOf text (Ok d) = Answers text (Ok (definition_view d))
IsAnswerOf text (Err (Syntax at)) = Answers text (Err (syntax_at at))
IsAnswerOf text (Err (TooLarge Columns)) = Answers text (Err (too_large columns))
IsAnswerOf text (Err (TooLarge Lens)) = ⊥
IsAnswerOf text (Err (TooLarge Predicate)) = Answers text (Err (too_large predicate))
IsAnswerOf text (Err (TooLarge Nesting)) = Answers text (Err (too_large nested))
IsAnswerOf text (Err (TooLarge Tables)) = ⊥
IsAnswerOf text (Err (TooLarge Views)) = ⊥
IsAnswerOf text (Err NoMemory) = Unit {0}
