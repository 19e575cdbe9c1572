use Rattle.std.proofs.Common.{take, ◌+◌, ◌*◌, codes}
use Rattle.grammar_specs.specs.Common.{part_of, all_of_formula, word, part_tokens, all_tokens}
use Rattle.lens_pred.specs.View.{formula_view}
use Rattle.view_lang.specs.PrintAdds.{Adds}
use Rattle.view_lang.proofs.Joined.{between}
use Rattle.view_lang.proofs.printing.+print_formulas.Given as goal

-- the parts so far are added
abbrev pub invariant-print_all-loop-index : goal.invariant-print_all-loop-index
invariant-print_all-loop-index l = Adds l.fn.out l.out (between (word (codes "and")) (λ f. part_tokens (part_of (formula_view f))) (take l.index l.members))

-- the members so far are added
abbrev pub invariant-print_any-loop-index : goal.invariant-print_any-loop-index
invariant-print_any-loop-index l = Adds l.fn.out l.out (between (word (codes "or")) (λ f. all_tokens (all_of_formula (formula_view f))) (take l.index l.members))

-- the depth, and then the order in which the functions call one another
abbrev pub decreases-print_part : goal.decreases-print_part
decreases-print_part l = 4 * goal.size-print_part l

abbrev pub decreases-print_all : goal.decreases-print_all
decreases-print_all l = 4 * goal.size-print_all l + 1

abbrev pub decreases-print_disjunct : goal.decreases-print_disjunct
decreases-print_disjunct l = 4 * goal.size-print_disjunct l + 2

abbrev pub decreases-print_any : goal.decreases-print_any
decreases-print_any l = 4 * goal.size-print_any l + 3
