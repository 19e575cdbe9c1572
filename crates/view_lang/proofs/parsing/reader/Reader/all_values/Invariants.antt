use Rattle.std.proofs.Common.{◌≡◌, ◌≤◌, length}
use Rattle.grammar_laws.specs.PredRules as pred
use Rattle.view_lang.specs.Outcomes.{reader_view}
use Rattle.view_lang.proofs.parsing.reader.Reader.all_values.Given as goal

abbrev pub invariant-loop-values : goal.invariant-loop-values
invariant-loop-values l = (pred.all_values (reader_view l.fn.self) ≡ pred.more_values l.values.items (reader_view l.self)) × (length (reader_view l.self) ≤ length (reader_view l.fn.self))

abbrev pub decreases-loop-values : goal.decreases-loop-values
decreases-loop-values l = length (reader_view l.self)
