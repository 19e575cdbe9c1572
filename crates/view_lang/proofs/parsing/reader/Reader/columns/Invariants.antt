use Rattle.std.proofs.Common.{◌≡◌, ◌≤◌, length}
use Rattle.grammar_laws.specs.DefRules as rules
use Rattle.view_lang.specs.Outcomes.{reader_view}
use Rattle.view_lang.proofs.parsing.reader.Reader.columns.Given as goal

abbrev pub invariant-loop-self : goal.invariant-loop-self
invariant-loop-self l = (rules.all_columns (reader_view l.fn.self) ≡ rules.more_columns l.columns (reader_view l.self)) × (length (reader_view l.self) ≤ length (reader_view l.fn.self))

abbrev pub decreases-loop-self : goal.decreases-loop-self
decreases-loop-self l = length (reader_view l.self)
