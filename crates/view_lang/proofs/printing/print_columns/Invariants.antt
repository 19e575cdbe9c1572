use Rattle.std.proofs.Common.{◌∷◌, take}
use Rattle.grammar_specs.specs.Common.{open_paren, comma, column_tokens}
use Rattle.view_lang.specs.PrintAdds.{Adds}
use Rattle.view_lang.proofs.Joined.{between}
use Rattle.view_lang.proofs.printing.print_columns.Given as goal

-- the columns so far are added
abbrev pub invariant-loop-index : goal.invariant-loop-index
invariant-loop-index l = Adds l.fn.out l.out (open_paren ∷ between comma column_tokens (take l.index l.columns))
