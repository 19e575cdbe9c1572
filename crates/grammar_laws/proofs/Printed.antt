-- A printed definition says what was printed and is read as that, and only what can be written is said.
use Rattle.std.proofs.Common.{◌≡◌, ℕ, ◌+◌, true, false, List, [], ◌∷◌, length, refl, sym, ap, ◌∙◌, append-nil}
use Rattle.plain_values.proofs.Common.{and_from, true≢false}
use Rattle.grammar_specs.specs.Common.{Placed, tokens_in, Stand, Written, written_tokens, Definition, nesting, max_nesting, is_too_deep, IsNestingFault, definition_written, is_writable}
use Rattle.grammar_specs.specs.Meaning.{IsWritten}
use Rattle.grammar_specs.specs.Printing.{printed}
use Rattle.grammar_laws.specs.PrintLaws.{SaidIsWritable, PrintedIsSaid, PrintedIsRead}
use Rattle.grammar_laws.proofs.FirstDeep.{deep_whole, deep_too}
use Rattle.grammar_laws.proofs.Halts.{halts_at_end, deep_before}
use Rattle.grammar_laws.proofs.PrintTokens.{are_printable, spells_printable}
use Rattle.grammar_laws.proofs.PrintDefs.{definition_said}
use Rattle.grammar_laws.proofs.PrintSpaced.{spaced_text}
use Rattle.grammar_laws.proofs.PrintableDefs.{definition_good}
use Rattle.grammar_laws.proofs.PrintWritableDefs.{meaning_writable}

-- ---- what is said can be written

-- the tokens of a text can be printed
stand_printable : (at : ℕ) (bytes : List ℕ) (placed : Placed) (left : List ℕ) → Stand at bytes placed left → are_printable (tokens_in placed) ≡ true
stand_printable at bytes [] left h = refl
stand_printable at bytes (p ∷ placed) left h = and_from _ _ (spells_printable p.1 h.1 h.6) (stand_printable (at + length h.0 + length h.1) h.2 placed left h.8)

-- a text says only what can be written
pub said_is_writable : SaidIsWritable
said_is_writable text d (w, (good, placed, tokens, (left, stand, blank)), means) =
    ap is_writable (sym means) ∙ meaning_writable w good (ap are_printable (sym tokens) ∙ stand_printable 0 text placed left stand)

-- ---- what is printed is said

-- the text is what was written for the definition
printed_is_written : (d : Definition) → is_writable d ≡ true → IsWritten (printed d) (definition_written d)
printed_is_written d h =
    let good = definition_good d h in
    let text = spaced_text (written_tokens (definition_written d)) good.spelled in
    (good.named, text.0, text.1, text.2)

-- a definition that can be written is printed as a text that says it
pub printed_is_said : PrintedIsSaid
printed_is_said d h = (definition_written d, printed_is_written d h, definition_said d h)

-- ---- what is printed is read

-- what is written is as deep as its text
written_flat : (text : List ℕ) (w : Written) → IsWritten text w → is_too_deep (nesting w) ≡ false → IsNestingFault text → ⊥
written_flat text w is flat fault =
    let d = deep_before text is.1 (length text) (halts_at_end text is.1 is.3 (w, [], is.0, sym is.2 ∙ sym (append-nil (tokens_in is.1)))) fault in
    true≢false (sym (deep_whole (length d.0) (nesting w) (deep_too max_nesting refl d.0 d.1 w d.3 is.0 (sym is.2 ∙ d.2))) ∙ flat)

-- within the limits it is the answer of that text
pub printed_is_read : PrintedIsRead
printed_is_read d h columns nodes flat = ((printed_is_said d h, written_flat (printed d) (definition_written d) (printed_is_written d h) flat), columns, nodes)
