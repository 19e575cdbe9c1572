-- The answer of a text, from what its definition gives.
use Rattle.std.proofs.Common.{◌≡◌, ℕ, List, length, refl, sym, ap, subst, ◌∙◌, Option, Some, None, unwrap_or, Result, Ok, Err}
use Rattle.grammar_specs.specs.Common.{Placed, Written, Fault, syntax_at, too_large, nested}
use Rattle.grammar_specs.specs.Meaning as meaning
use Rattle.grammar_laws.specs.Steps.{Outcome, read, stopped, too_deep}
use Rattle.grammar_laws.specs.DefRules.{alone}
use Rattle.grammar_laws.specs.Reading.{Cut, cut, limited, answer, next_offset, reading_within}
use Rattle.view_lang.specs.declared.definition.Definition.{Definition}
use Rattle.view_lang.specs.declared.parsing.reader.Halt.{Halt}
use Rattle.view_lang.specs.declared.parsing.reader.Halt.TheVariants.{Stopped, TooDeep}
use Rattle.view_lang.specs.DefViews.{definition_view}
use Rattle.view_lang.specs.Outcomes.{Gives, IsDefinition}

pub answer_read : (o : Outcome Written) (d : Definition) (left : Placed) (size : ℕ) → Gives IsDefinition o (Ok d) left → answer o None size ≡ limited (definition_view d)
answer_read (read w rest) d left size h = ap limited (sym h.0)
answer_read (stopped rest) d left size h = absurd h
answer_read too_deep d left size h = absurd h

pub answer_wrong : (o : Outcome Written) (d : Definition) (left : Placed) (at size : ℕ) → Gives IsDefinition o (Ok d) left → answer o (Some at) size ≡ Err (syntax_at at)
answer_wrong (read w rest) d left at size h = refl
answer_wrong (stopped rest) d left at size h = absurd h
answer_wrong too_deep d left at size h = absurd h

pub answer_stopped : (o : Outcome Written) (left : Placed) (wrong : Option ℕ) (size : ℕ) → Gives IsDefinition o (Err Stopped) left → answer o wrong size ≡ Err (syntax_at (next_offset left (unwrap_or wrong size)))
answer_stopped (read w rest) left wrong size h = absurd h
answer_stopped (stopped rest) left wrong size h = ap (λ ps. Err (syntax_at (next_offset ps (unwrap_or wrong size)))) (sym h)
answer_stopped too_deep left wrong size h = absurd h

pub answer_deep : (o : Outcome Written) (left : Placed) (wrong : Option ℕ) (size : ℕ) → Gives IsDefinition o (Err TooDeep) left → answer o wrong size ≡ Err (too_large nested)
answer_deep (read w rest) left wrong size h = absurd h
answer_deep (stopped rest) left wrong size h = absurd h
answer_deep too_deep left wrong size h = refl

-- the answer of a text, from what it is cut into
pub at_cut : (n : ℕ) (text : List ℕ) (q : Cut) (r : Result meaning.Definition Fault) → q ≡ cut text → answer (alone n q.0) q.1 (length text) ≡ r → reading_within n text ≡ r
at_cut n text q r e h = subst (λ (x : Cut). answer (alone n x.0) x.1 (length text) ≡ r) e h

-- ---- what was read from the tokens that the text is cut into

pub wrong_read : (n : ℕ) (text : List ℕ) (ps left : Placed) (wrong : Option ℕ) (at : ℕ) (d : Definition) → (ps, wrong) ≡ cut text → wrong ≡ Some at → Gives IsDefinition (alone n ps) (Ok d) left → reading_within n text ≡ Err (syntax_at at)
wrong_read n text ps left wrong at d e is h = at_cut n text (ps, wrong) (Err (syntax_at at)) e (ap (λ w. answer (alone n ps) w (length text)) is ∙ answer_wrong (alone n ps) d left at (length text) h)

pub whole_read : (n : ℕ) (text : List ℕ) (ps left : Placed) (wrong : Option ℕ) (d : Definition) → (ps, wrong) ≡ cut text → wrong ≡ None → Gives IsDefinition (alone n ps) (Ok d) left → reading_within n text ≡ limited (definition_view d)
whole_read n text ps left wrong d e is h = at_cut n text (ps, wrong) (limited (definition_view d)) e (ap (λ w. answer (alone n ps) w (length text)) is ∙ answer_read (alone n ps) d left (length text) h)

pub stopped_read : (n : ℕ) (text : List ℕ) (ps left : Placed) (wrong : Option ℕ) (why : Halt) → (ps, wrong) ≡ cut text → why ≡ Stopped → Gives IsDefinition (alone n ps) (Err why) left
    → reading_within n text ≡ Err (syntax_at (next_offset left (unwrap_or wrong (length text))))
stopped_read n text ps left wrong why e is h =
    let here : Gives IsDefinition (alone n ps) (Err Stopped) left = subst (λ (w : Halt). Gives IsDefinition (alone n ps) (Err w) left) is h in
    at_cut n text (ps, wrong) (Err (syntax_at (next_offset left (unwrap_or wrong (length text))))) e (answer_stopped (alone n ps) left wrong (length text) here)

pub deep_read : (n : ℕ) (text : List ℕ) (ps left : Placed) (wrong : Option ℕ) (why : Halt) → (ps, wrong) ≡ cut text → why ≡ TooDeep → Gives IsDefinition (alone n ps) (Err why) left → reading_within n text ≡ Err (too_large nested)
deep_read n text ps left wrong why e is h =
    let here : Gives IsDefinition (alone n ps) (Err TooDeep) left = subst (λ (w : Halt). Gives IsDefinition (alone n ps) (Err w) left) is h in
    at_cut n text (ps, wrong) (Err (too_large nested)) e (answer_deep (alone n ps) left wrong (length text) here)
