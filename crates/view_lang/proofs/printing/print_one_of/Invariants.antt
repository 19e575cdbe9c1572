use Rattle.std.proofs.Common.{◌∷◌, [], take, codes}
use Rattle.grammar_specs.specs.Common.{word, open_paren, comma, literal}
use Rattle.view_lang.specs.PrintAdds.{Adds}
use Rattle.view_lang.proofs.Joined.{between}
use Rattle.view_lang.proofs.printing.print_one_of.Given as goal

-- the column and the values so far are added
abbrev pub invariant-loop-index : goal.invariant-loop-index
invariant-loop-index l = Adds l.fn.out l.out (word l.col ∷ word (codes "in") ∷ open_paren ∷ between comma (λ v. literal v ∷ []) (take l.index l.value-items))
