-- The answer of a text, by the rules of definitions: its tokens are cut, and then read alone.
use Rattle.std.specs.Prelude.{ℕ, suc, zero, ◌-◌, List, [], ◌∷◌, length, Option, Some, None, unwrap_or, Result, Ok, Err, if◌then◌else◌}
use Rattle.grammar_specs.specs.Tokens.{Token, is_blank}
use Rattle.grammar_specs.specs.Texts.{Placed}
use Rattle.grammar_specs.specs.Written.{Written}
use Rattle.grammar_specs.specs.Meaning.{Definition, meaning}
use Rattle.grammar_specs.specs.Nesting.{max_nesting}
use Rattle.grammar_specs.specs.Faults.{Fault, syntax_at, too_large, columns, predicate, nested, has_few_columns, has_few_nodes}
use Rattle.grammar_laws.specs.Front.{drop_while, token_at}
use Rattle.grammar_laws.specs.Steps.{Outcome, read, stopped, too_deep}
use Rattle.grammar_laws.specs.DefRules.{alone}

-- the tokens up to the end, or up to something at this offset that is no token
abbrev pub Cut : Type 0
Cut = Placed × Option ℕ

abbrev pub with_first : ℕ × Token → Cut → Cut
with_first p c = (p ∷ c.0, c.1)

-- of a text of this size whose last bytes are left; each token takes a turn
abbrev pub cut_within : ℕ → ℕ → List ℕ → Cut
cut_within zero size bytes = ([], None)
cut_within (suc turns) size bytes =
    elim (drop_while is_blank bytes) [
      | [] ↦ ([], None)
      | b ∷ rest ↦ elim (token_at b rest) [ None ↦ ([], Some (size - suc (length rest))) | Some f ↦ with_first (size - suc (length rest), f.0) (cut_within turns size f.1) ]
    ]

-- the definition where it is within the limits, or what in it is too large
abbrev pub limited : Definition → Result Definition Fault
limited d = if has_few_columns d then (if has_few_nodes d then Ok d else Err (too_large predicate)) else Err (too_large columns)

-- the offset of the next token, or of what follows the last
abbrev pub next_offset : Placed → ℕ → ℕ
next_offset [] at = at
next_offset (p ∷ ps) at = p.0

-- the answer of a text of this size that is cut so, where its tokens give this outcome
abbrev pub answer : Outcome Written → Option ℕ → ℕ → Result Definition Fault
answer (read w rest) None size = limited (meaning w)
answer (read w rest) (Some at) size = Err (syntax_at at)
answer (stopped rest) wrong size = Err (syntax_at (next_offset rest (unwrap_or wrong size)))
answer too_deep wrong size = Err (too_large nested)

abbrev pub cut : List ℕ → Cut
cut text = cut_within (suc (length text)) (length text) text

-- within so many parentheses and "not"s
abbrev pub reading_within : ℕ → List ℕ → Result Definition Fault
reading_within n text = answer (alone n (cut text).0) (cut text).1 (length text)

-- the answer of the text
abbrev pub reading : List ℕ → Result Definition Fault
reading text = reading_within max_nesting text
