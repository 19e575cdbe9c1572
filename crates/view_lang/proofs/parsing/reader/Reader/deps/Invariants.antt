use Rattle.std.proofs.Common.{◌≡◌, ◌≤◌, List, length, map}
use Rattle.grammar_specs.specs.Common.{Dep, dep_meaning}
use Rattle.grammar_laws.specs.DefRules as rules
use Rattle.view_lang.specs.Outcomes.{reader_view}
use Rattle.view_lang.proofs.parsing.reader.Reader.deps.Given as goal

abbrev pub invariant-loop-alloc : goal.invariant-loop-alloc
invariant-loop-alloc l =
    (ds : List Dep) × (l.deps.items ≡ map dep_meaning ds) × (rules.all_deps (reader_view l.fn.self) ≡ rules.more_deps ds (reader_view l.self))
    × (length (reader_view l.self) ≤ length (reader_view l.fn.self))

abbrev pub decreases-loop-alloc : goal.decreases-loop-alloc
decreases-loop-alloc l = length (reader_view l.self)
