use Rattle.std.proofs.Common.{arith, Some, Result, Ok, Err}
use Rattle.grammar_specs.specs.Common.{Placed, Pred}
use Rattle.lens_specs.specs.Common.{Predicate}
use Rattle.grammar_laws.specs.Steps.{Outcome, read, stopped, too_deep, and_then}
use Rattle.view_lang.specs.declared.parsing.reader.Halt.{Halt}
use Rattle.view_lang.specs.declared.parsing.reader.Halt.TheVariants.{Stopped, TooDeep, NoMemory}
use Rattle.view_lang.specs.Outcomes.{Gives, IsPredicate, IsCondition}
use Rattle.view_lang.proofs.Turns.{fewer_passed}
use Rattle.view_lang.proofs.parsing.reader.Reader.condition.Goals as goal

-- the predicate behind "where" is the condition
behind_where : (o : Outcome Pred) (r : Result Predicate Halt) (left : Placed) → Gives IsPredicate o r left → Gives IsCondition (and_then o (λ p. read (Some p))) r left
behind_where (read p rest) (Ok q) left h = h
behind_where (read p rest) (Err Stopped) left h = h
behind_where (read p rest) (Err TooDeep) left h = h
behind_where (read p rest) (Err NoMemory) left h = h
behind_where (stopped rest) (Ok q) left h = h
behind_where (stopped rest) (Err Stopped) left h = h
behind_where (stopped rest) (Err TooDeep) left h = h
behind_where (stopped rest) (Err NoMemory) left h = h
behind_where too_deep (Ok q) left h = h
behind_where too_deep (Err Stopped) left h = h
behind_where too_deep (Err TooDeep) left h = h
behind_where too_deep (Err NoMemory) left h = h

pub returns-then-take_word : goal.returns-then-take_word
returns-then-take_word c = (
  rw (← c.take_word.ensures.0, c.if-take_word.true) (behind_where _ _ _ c.predicate.ensures.0),
  omega (arith, fewer_passed _ _ _ c.if-take_word.true c.take_word.ensures.2, c.predicate.ensures.1),
)
