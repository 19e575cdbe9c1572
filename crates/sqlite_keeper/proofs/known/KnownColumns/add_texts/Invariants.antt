use Rattle.sqlite_keeper.specs.Knowing.{Extends, known_in}
use Rattle.sqlite_keeper.proofs.known.KnownColumns.add_texts.Given as goal

-- what was known at first stays
abbrev pub invariant-loop-text : goal.invariant-loop-text
invariant-loop-text l = Extends (known_in l.fn.self) (known_in l.self)
