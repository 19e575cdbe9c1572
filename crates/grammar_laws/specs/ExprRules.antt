-- The rules of expressions, within the parentheses and "not"s that may still be opened.
use Rattle.std.specs.Prelude.{ℕ, zero, suc, List, [], ◌∷◌, ◌++◌, codes}
use Rattle.plain_values.specs.declared.join_kind.JoinKind.{JoinKind}
use Rattle.lens_specs.specs.Common.{Name}
use Rattle.grammar_specs.specs.Texts.{Placed}
use Rattle.grammar_specs.specs.Written.{Operand, bare, enclosed, Expr, named, select, drop, rename, join}
use Rattle.grammar_laws.specs.Tests.{is_keyword, free_in, fill_in, join_kind_in, is_open, is_close, is_comma}
use Rattle.grammar_laws.specs.Steps.{Outcome, read, too_deep, and_then, choose, need, passing, repeat}
use Rattle.grammar_laws.specs.PredRules.{pred}

-- { NAME }
abbrev pub more_names : List Name → Placed → Outcome (List Name)
more_names = repeat free_in (λ names n. read (names ++ n ∷ []))

-- NAME { NAME }
abbrev pub all_names : Placed → Outcome (List Name)
all_names = need free_in (λ n. more_names (n ∷ []))

-- NAME | "(" expr ")", with what reads the expression in parentheses
abbrev pub operand_of : (Placed → Outcome Expr) → Placed → Outcome Operand
operand_of within = choose free_in (λ c. read (bare c)) (need (passing is_open) (λ _ ps. and_then (within ps) (λ e. need (passing is_close) (λ _. read (enclosed e)))))

-- the rules of one level, with what reads an operand
abbrev pub select_of : ℕ → (Placed → Outcome Operand) → Placed → Outcome Expr
select_of n operand =
    need (passing (is_keyword (codes "from"))) (λ _ ps. and_then (operand ps) (λ o.
    need (passing (is_keyword (codes "where"))) (λ _ qs. and_then (pred n qs) (λ p. read (select o p)))))

abbrev pub drop_from : (Placed → Outcome Operand) → Name → List Name → Placed → Outcome Expr
drop_from operand c by =
    need (passing is_comma) (λ _. need fill_in (λ v. need (passing is_close) (λ _. need (passing (is_keyword (codes "from"))) (λ _ ps. and_then (operand ps) (λ o. read (drop c by v o))))))

abbrev pub drop_of : (Placed → Outcome Operand) → Placed → Outcome Expr
drop_of operand =
    need free_in (λ c. need (passing (is_keyword (codes "determined"))) (λ _. need (passing (is_keyword (codes "by"))) (λ _.
    need (passing is_open) (λ _ ps. and_then (all_names ps) (drop_from operand c)))))

abbrev pub rename_of : (Placed → Outcome Operand) → Placed → Outcome Expr
rename_of operand =
    need free_in (λ c. need (passing (is_keyword (codes "to"))) (λ _. need free_in (λ d.
    need (passing (is_keyword (codes "from"))) (λ _ ps. and_then (operand ps) (λ o. read (rename c d o))))))

abbrev pub join_of : (Placed → Outcome Operand) → JoinKind → Placed → Outcome Expr
join_of operand k ps = and_then (operand ps) (λ o. need (passing (is_keyword (codes "with"))) (λ _ qs. and_then (operand qs) (λ q. read (join k o q))))

abbrev pub expr_of : ℕ → (Placed → Outcome Operand) → Placed → Outcome Expr
expr_of n operand =
    choose free_in (λ c. read (named c))
    (choose (passing (is_keyword (codes "select"))) (λ _. select_of n operand)
    (choose (passing (is_keyword (codes "drop"))) (λ _. drop_of operand)
    (choose (passing (is_keyword (codes "rename"))) (λ _. rename_of operand)
    (need join_kind_in (join_of operand)))))

-- an expression in parentheses, where so many may be opened, those included
abbrev pub within : ℕ → Placed → Outcome Expr
within zero = λ _. too_deep
within (suc n) = expr_of n (operand_of (within n))

-- an operand within which so many more may be opened
abbrev pub operand : ℕ → Placed → Outcome Operand
operand n = operand_of (within n)

-- an expression
abbrev pub expr : ℕ → Placed → Outcome Expr
expr n = within (suc n)
