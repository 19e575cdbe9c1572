-- A text has one answer.
use Rattle.grammar_specs.specs.Meaning.{IsWritten}
use Rattle.std.proofs.Common.{◌≡◌, ◌⊎◌, inl, inr, ℕ, ◌+◌, ◌<◌, List, [], ◌∷◌, ◌++◌, length, refl, sym, ap, subst, ◌∙◌, append-nil, arith, length-append, Some, Result, Ok, Err}
use Rattle.grammar_specs.specs.Common.{Token, is_blank, Placed, tokens_in, Written, Definition, meaning, max_nesting, Fault, syntax_at, too_large, columns, predicate, nested, Begins, BeginsTooDeep, Stops, IsSyntaxFault, IsNestingFault, SaysFlat, Answers}
use Rattle.grammar_specs.specs.Meaning.{Says}
use Rattle.grammar_specs.specs.Faults.{IsUnfinished}
use Rattle.grammar_laws.specs.Front.{drop_while, token_in_front}
use Rattle.grammar_laws.specs.Reading.{limited}
use Rattle.grammar_laws.proofs.Stands.{stand_parts, stand_next}
use Rattle.grammar_laws.proofs.Halts.{Halts, halts_at_end, stops_halts, deep_before, one_halt}
use Rattle.grammar_laws.proofs.FirstDeep.{one_flat, deep_on}

-- ---- a definition that is said

written_halts : (text : List ℕ) (w : Written) (is : IsWritten text w) → Halts text is.1 (length text)
written_halts text w is = halts_at_end text is.1 is.3 (w, [], is.0, sym is.2 ∙ sym (append-nil (tokens_in is.1)))

-- ---- a definition or a fault

token_some : (bytes : List ℕ) (f : Token × List ℕ) → token_in_front bytes ≡ Some f → 0 < length bytes
token_some [] f e = cc
token_some (b ∷ bytes) f e = omega arith

-- what stops only at the end is unfinished
stops_late : (text : List ℕ) (front : Placed) (at : ℕ) → Stops text front at → at ≡ length text → IsUnfinished (tokens_in front)
stops_late text front at (inl h) e =
    let parts = stand_parts 0 text front ((at, h.0) ∷ []) h.1 h.2 in
    let next = stand_next parts.at parts.middle (at, h.0) [] h.1 parts.second in
    absurd (omega (arith, parts.place, next.place, token_some (drop_while is_blank parts.middle) (h.0, parts.second.2) next.token, e))
stops_late text front at (inr (inl h)) e =
    let wrong = h.0 in
    absurd (omega (arith, wrong.5, ap length wrong.4, length-append (wrong.0 ++ wrong.1) (wrong.2 ∷ wrong.3), length-append wrong.0 wrong.1, e))
stops_late text front at (inr (inr h)) e = h.2

no_fault : (text : List ℕ) (d : Definition) (at : ℕ) → Says text d → IsSyntaxFault text at → ⊥
no_fault text d at (w, is, means) fault =
    let same = one_halt text is.1 fault.0 (length text) at (written_halts text w is) (stops_halts text fault.0 at fault.1) in
    (stops_late text fault.0 at fault.1 (sym same.1)).1 w is.0 (sym is.2 ∙ ap tokens_in same.0)

one_offset : (text : List ℕ) (i j : ℕ) → IsSyntaxFault text i → IsSyntaxFault text j → i ≡ j
one_offset text i j f g = (one_halt text f.0 g.0 i j (stops_halts text f.0 i f.1) (stops_halts text g.0 j g.1)).1

-- ---- the answer

-- a definition within the limits or not, a syntax fault, or tokens that are too deep
abbrev Kinds : List ℕ → Result Definition Fault → Type 0
Kinds text answer =
    ((d : Definition) × SaysFlat text d × (answer ≡ limited d))
    ⊎ ((at : ℕ) × IsSyntaxFault text at × (answer ≡ Err (syntax_at at)))
    ⊎ (IsNestingFault text × (answer ≡ Err (too_large nested)))

kind_of : (text : List ℕ) (answer : Result Definition Fault) → Answers text answer → Kinds text answer
kind_of text (Ok d) h = inl (d, h.0, sym (rw (h.1, h.2) refl))
kind_of text (Err (syntax_at at)) h = inr (inl (at, h, refl))
kind_of text (Err (too_large nested)) h = inr (inr (h, refl))
kind_of text (Err (too_large columns)) h = inl (h.0, h.1, sym (rw h.2 refl))
kind_of text (Err (too_large predicate)) h = inl (h.0, h.1, sym (rw (h.2, h.3) refl))

module _ (n : ℕ) (e : 0 + n ≡ max_nesting) where
  one_meaning : (text : List ℕ) (c d : Definition) → SaysFlat text c → SaysFlat text d → c ≡ d
  one_meaning text c d ((v, is_v, means_v), flat) ((w, is_w, means_w), _) =
      let same = one_halt text is_v.1 is_w.1 (length text) (length text) (written_halts text v is_v) (written_halts text w is_w) in
      let one = one_flat n e v w is_v.0 is_w.0 (sym is_v.2 ∙ ap tokens_in same.0 ∙ is_w.2) (λ deep. flat (is_v.1, is_v.3.0, is_v.3.1, subst BeginsTooDeep (sym is_v.2) deep)) in
      sym means_v ∙ ap meaning one ∙ means_w

  no_depth : (text : List ℕ) (at : ℕ) → IsSyntaxFault text at → IsNestingFault text → ⊥
  no_depth text at (front, stops, flat) fault =
      let h = stops_halts text front at stops in
      let d = deep_before text front at h fault in
      flat (subst BeginsTooDeep (sym d.2) (deep_on n e d.0 d.1 d.3 (subst Begins d.2 h.begins)))

  same_kind : (text : List ℕ) (a b : Result Definition Fault) → Kinds text a → Kinds text b → a ≡ b
  same_kind text a b (inl h) (inl k) = h.2 ∙ ap limited (one_meaning text h.0 k.0 h.1 k.1) ∙ sym k.2
  same_kind text a b (inl h) (inr (inl k)) = absurd (no_fault text h.0 k.0 h.1.0 k.1)
  same_kind text a b (inl h) (inr (inr k)) = absurd (h.1.1 k.0)
  same_kind text a b (inr (inl h)) (inl k) = absurd (no_fault text k.0 h.0 k.1.0 h.1)
  same_kind text a b (inr (inl h)) (inr (inl k)) = h.2 ∙ ap (λ i. Err (syntax_at i)) (one_offset text h.0 k.0 h.1 k.1) ∙ sym k.2
  same_kind text a b (inr (inl h)) (inr (inr k)) = absurd (no_depth text h.0 h.1 k.0)
  same_kind text a b (inr (inr h)) (inl k) = absurd (k.1.1 h.0)
  same_kind text a b (inr (inr h)) (inr (inl k)) = absurd (no_depth text k.0 k.1 h.0)
  same_kind text a b (inr (inr h)) (inr (inr k)) = h.1 ∙ sym k.1

  -- a text has one answer
  pub one_answer : (text : List ℕ) (a b : Result Definition Fault) → Answers text a → Answers text b → a ≡ b
  one_answer text a b h k = same_kind text a b (kind_of text a h) (kind_of text b k)
