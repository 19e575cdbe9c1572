use Rattle.std.proofs.Common.{◌∷◌, take, codes}
use Rattle.grammar_specs.specs.Common.{dep_written, word, comma, dep_tokens}
use Rattle.view_lang.specs.PrintAdds.{Adds}
use Rattle.view_lang.proofs.Joined.{between}
use Rattle.view_lang.proofs.printing.print_deps.Given as goal

-- the dependencies so far are added
abbrev pub invariant-loop-index : goal.invariant-loop-index
invariant-loop-index l = Adds l.fn.out l.out (word (codes "with") ∷ between comma (λ d. dep_tokens (dep_written d)) (take l.index l.deps))
