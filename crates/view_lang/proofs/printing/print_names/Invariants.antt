use Rattle.std.proofs.Common.{map, take}
use Rattle.grammar_specs.specs.Common.{word}
use Rattle.view_lang.specs.PrintAdds.{Adds}
use Rattle.view_lang.proofs.printing.print_names.Given as goal

-- the names so far are added
abbrev pub invariant-loop-name : goal.invariant-loop-name
invariant-loop-name l = Adds l.fn.out l.out (map word (take l.name-index l.names))
