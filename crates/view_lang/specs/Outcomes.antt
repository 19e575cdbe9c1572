-- When what the code reads is what a rule of the grammar reads.
use Rattle.std.specs.Prelude.{◌≡◌, ◌<◌, ◌≤◌, ℕ, map, length, List, Vec, Option, None, option_map, IsSome, Result, Ok, Err, IfErr}
use Rattle.std.specs.Result.{result_ok}
use Rattle.std.specs.declared.alloc.Global.{Global}
use Rattle.grammar_specs.specs.Tokens.{Token}
use Rattle.grammar_specs.specs.Texts.{Placed}
use Rattle.grammar_laws.specs.Steps.{Outcome, read, stopped, too_deep, taken}
use Rattle.view_lang.specs.declared.parsing.reader.Reader as code
use Rattle.view_lang.specs.declared.parsing.token.Token as code_token
use Rattle.view_lang.specs.declared.parsing.reader.Halt.{Halt}
use Rattle.view_lang.specs.declared.parsing.reader.Halt.TheVariants.{Stopped, TooDeep, NoMemory}
use Rattle.view_lang.specs.TokenViews.{token_view}
use Rattle.lens_specs.specs.Predicate.{Predicate}
use Rattle.lens_pred.specs.declared.formula.Formula.{Formula}
use Rattle.lens_pred.specs.View.{formula_view, predicate_view}
use Rattle.grammar_specs.specs.Written as written
use Rattle.grammar_specs.specs.Written.{Part, All, Pred, Written}
use Rattle.grammar_specs.specs.Meaning.{part_meaning, all_conjuncts, pred_meaning, predicate_of, expr_meaning, operand_meaning, dep_meaning, condition_meaning, meaning}
use Rattle.std.specs.FinMap.{from_entries}
use Rattle.lens_specs.specs.Common.{Edge, Columns}
use Rattle.view_lang.specs.declared.expr.Expr.{Expr}
use Rattle.view_lang.specs.declared.definition.Definition.{Definition}
use Rattle.view_lang.specs.ExprViews.{expr_view}
use Rattle.view_lang.specs.DefViews.{definition_view}
use Rattle.grammar_laws.specs.DefRules as rules

-- the tokens with their offsets
abbrev pub placed_view : List (ℕ × code_token.Token) → Placed
placed_view ps = map (λ p. (p.0, token_view p.1)) ps

-- the tokens that are still to be read
abbrev pub reader_view : code.Reader → Placed
reader_view r = placed_view r.tokens.items

-- What was taken is what the test finds in the next token, which is then no longer there; or nothing was taken.
abbrev pub Takes : {A : Type 0} → (Token → Option A) → code.Reader → code.Reader → Option A → Type 0
Takes f old new found =
    (option_map (λ a. (a, reader_view new)) found ≡ taken f (reader_view old)) × (found ≡ None → new ≡ old)
    × (IsSome found → length (reader_view new) < length (reader_view old))

-- What was taken is what the test finds in the next token; or the rule stops before this token.
abbrev pub Needs : {A : Type 0} → (Token → Option A) → code.Reader → code.Reader → Result A Halt → Type 0
Needs f old new result = Takes f old new (result_ok result) × IfErr result (λ why. why ≡ Stopped)

-- this was read, and these tokens are left
abbrev pub Reads : {A B : Type 0} → (A → B → Type 0) → Outcome A → B → Placed → Type 0
Reads Is (read a rest) b left = Is a b × (left ≡ rest)
Reads Is (stopped rest) b left = ⊥
Reads Is too_deep b left = ⊥

-- the rule stops before these tokens
abbrev pub StopsAt : {A : Type 0} → Outcome A → Placed → Type 0
StopsAt (read a rest) left = ⊥
StopsAt (stopped rest) left = left ≡ rest
StopsAt too_deep left = ⊥

-- more would be open than may be
abbrev pub IsTooDeep : {A : Type 0} → Outcome A → Type 0
IsTooDeep (read a rest) = ⊥
IsTooDeep (stopped rest) = ⊥
IsTooDeep too_deep = Unit {0}

-- The result is what the rule reads, and these tokens are left; or it stops as the rule does, before these; or memory ran out.
abbrev pub Gives : {A B : Type 0} → (A → B → Type 0) → Outcome A → Result B Halt → Placed → Type 0
Gives Is o (Err NoMemory) left = Unit {0}
Gives Is o (Err TooDeep) left = IsTooDeep o
Gives Is o (Err Stopped) left = StopsAt o left
Gives Is o (Ok b) left = Reads Is o b left

-- what the code reads is what the rule reads, and no more tokens are left than there were
abbrev pub Follows : {A B : Type 0} → (A → B → Type 0) → (Placed → Outcome A) → code.Reader → code.Reader → Result B Halt → Type 0
Follows Is rule old new result = Gives Is (rule (reader_view old)) result (reader_view new) × (length (reader_view new) ≤ length (reader_view old))

-- ---- what is read, as the language has it

-- the formula of a part
abbrev pub IsPart : Part → Formula → Type 0
IsPart p f = formula_view f ≡ part_meaning p

-- the conjuncts of parts joined by "and"
abbrev pub IsAll : All → Vec Formula Global → Type 0
IsAll a fs = predicate_view fs.items ≡ all_conjuncts a

-- the formula of a predicate
abbrev pub IsPred : Pred → Formula → Type 0
IsPred o f = formula_view f ≡ pred_meaning o

-- the predicate
abbrev pub IsPredicate : Pred → Predicate → Type 0
IsPredicate o p = p ≡ predicate_of o

-- the values or names
abbrev pub AreItems : {A : Type 0} → List A → Vec A Global → Type 0
AreItems xs ys = ys.items ≡ xs

-- the expression
abbrev pub IsExpr : written.Expr → Expr → Type 0
IsExpr w e = expr_view e ≡ expr_meaning w

-- the expression of an operand
abbrev pub IsOperand : written.Operand → Expr → Type 0
IsOperand o e = expr_view e ≡ operand_meaning o

-- the columns
abbrev pub AreColumns : rules.Columns → Columns → Type 0
AreColumns cs U = U ≡ from_entries cs

-- the dependency
abbrev pub IsDep : written.Dep → Edge → Type 0
IsDep d e = e ≡ dep_meaning d

-- the dependencies
abbrev pub AreDeps : List written.Dep → List Edge → Type 0
AreDeps ds es = es ≡ map dep_meaning ds

-- the predicate of what may follow a "where"
abbrev pub IsCondition : Option Pred → Predicate → Type 0
IsCondition o p = p ≡ condition_meaning o

-- the definition
abbrev pub IsDefinition : Written → Definition → Type 0
IsDefinition w d = definition_view d ≡ meaning w

-- the columns while they are read
abbrev pub AreRead : rules.Columns → rules.Columns → Type 0
AreRead cs columns = columns ≡ cs
