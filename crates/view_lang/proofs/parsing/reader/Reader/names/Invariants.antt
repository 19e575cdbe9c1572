use Rattle.std.proofs.Common.{◌≡◌, ◌≤◌, length, true}
use Rattle.grammar_specs.specs.Common.{is_some_list}
use Rattle.grammar_laws.specs.ExprRules as rules
use Rattle.view_lang.specs.Outcomes.{reader_view}
use Rattle.view_lang.proofs.parsing.reader.Reader.names.Given as goal

abbrev pub invariant-loop-name : goal.invariant-loop-name
invariant-loop-name l =
    (rules.all_names (reader_view l.fn.self) ≡ rules.more_names l.names.items (reader_view l.self)) × (length (reader_view l.self) ≤ length (reader_view l.fn.self))
    × (is_some_list l.names.items ≡ true)

abbrev pub decreases-loop-name : goal.decreases-loop-name
decreases-loop-name l = length (reader_view l.self)
