-- The rules of predicates, within the parentheses and "not"s that may still be opened.
use Rattle.std.specs.Prelude.{ℕ, zero, suc, List, [], ◌∷◌, ◌++◌, codes}
use Rattle.plain_values.specs.declared.value.Value.{Value}
use Rattle.lens_specs.specs.Common.{Name, Op}
use Rattle.grammar_specs.specs.Texts.{Placed}
use Rattle.grammar_specs.specs.Written.{Part, literally, compares, compares_columns, is_in, tests_null, negated, grouped, All, only, joined, Pred, alone, either}
use Rattle.grammar_laws.specs.Tests.{is_keyword, free_in, op_in, flag_in, literal_in, is_open, is_close, is_comma}
use Rattle.grammar_laws.specs.Steps.{Outcome, read, too_deep, and_then, choose, need, passing, repeat}

-- a name or a literal
abbrev pub comparison : Name → Op → Placed → Outcome Part
comparison c op = choose free_in (λ d. read (compares_columns c op d)) (need literal_in (λ v. read (compares c op v)))

-- ")"
abbrev pub closed : {A : Type 0} → A → Placed → Outcome A
closed a = need (passing is_close) (λ _. read a)

-- { "," literal }
abbrev pub more_values : List Value → Placed → Outcome (List Value)
more_values = repeat (passing is_comma) (λ vs _. need literal_in (λ v. read (vs ++ v ∷ [])))

-- literal { "," literal }
abbrev pub all_values : Placed → Outcome (List Value)
all_values = need literal_in (λ v. more_values (v ∷ []))

-- "(" literal { "," literal } ")"
abbrev pub values : Name → Placed → Outcome Part
values c = need (passing is_open) (λ _ ps. and_then (all_values ps) (λ vs. closed (is_in c vs)))

-- an operator and its right side, "in" and values, or "is" "null"
abbrev pub behind_name : Name → Placed → Outcome Part
behind_name c =
    choose op_in (comparison c)
    (choose (passing (is_keyword (codes "in"))) (λ _. values c)
    (need (passing (is_keyword (codes "is"))) (λ _. need (passing (is_keyword (codes "null"))) (λ _. read (tests_null c)))))

-- a part, with what reads the part behind a "not" and the predicate in parentheses
abbrev pub part_of : (Placed → Outcome Part) → (Placed → Outcome Pred) → Placed → Outcome Part
part_of inner within =
    choose free_in behind_name
    (choose flag_in (λ b. read (literally b))
    (choose (passing (is_keyword (codes "not"))) (λ _ ps. and_then (inner ps) (λ p. read (negated p)))
    (need (passing is_open) (λ _ ps. and_then (within ps) (λ o. closed (grouped o))))))

-- { "and" part }
abbrev pub more_parts : (Placed → Outcome Part) → All → Placed → Outcome All
more_parts part = repeat (passing (is_keyword (codes "and"))) (λ a _ ps. and_then (part ps) (λ p. read (joined a p)))

-- part { "and" part }
abbrev pub all_of : (Placed → Outcome Part) → Placed → Outcome All
all_of part ps = and_then (part ps) (λ p. more_parts part (only p))

-- { "or" all }
abbrev pub more_alls : (Placed → Outcome Part) → Pred → Placed → Outcome Pred
more_alls part = repeat (passing (is_keyword (codes "or"))) (λ o _ ps. and_then (all_of part ps) (λ a. read (either o a)))

-- all { "or" all }
abbrev pub pred_of : (Placed → Outcome Part) → Placed → Outcome Pred
pred_of part ps = and_then (all_of part ps) (λ a. more_alls part (alone a))

-- a part behind a "not" or in parentheses, where so many may be opened, that one included
abbrev pub within : ℕ → Placed → Outcome Part
within zero = λ _. too_deep
within (suc n) = part_of (within n) (pred_of (within n))

-- a part within which so many more may be opened
abbrev pub part : ℕ → Placed → Outcome Part
part n = within (suc n)

-- a predicate
abbrev pub pred : ℕ → Placed → Outcome Pred
pred n = pred_of (part n)
