-- The lines of the bytes, one line after another.
use Rattle.std.proofs.Common.{◌≡◌, ◌≢◌, ◌≤◌, ◌<◌, ℕ, Bool, true, false, List, [], ◌∷◌, ◌++◌, length, ap, sym, ◌∙◌, refl, ◌==◌, cond}
use Rattle.std.proofs.lemmas.Bool.{le-leb, lt-leb, ne_eqb}
use Rattle.io_specs.specs.Lines.{line, too_long}
use Rattle.io_specs.specs.Lines.{onto_first, pieces, without_empty_end, without_end, marked, each_marked, lines, whole}
use Rattle.lens_io.specs.Cutting.{HasNoNewline}

pieces_other : (b : ℕ) (bytes : List ℕ) → b ≢ 10 → pieces (b ∷ bytes) ≡ onto_first b (pieces bytes)
pieces_other b bytes h = ap (λ t. cond t ([] ∷ pieces bytes) (onto_first b (pieces bytes))) (ne_eqb b 10 h)

pub pieces_at : (piece rest : List ℕ) → HasNoNewline piece → pieces (piece ++ 10 ∷ rest) ≡ piece ∷ pieces rest
pieces_at [] rest h = refl
pieces_at (b ∷ piece) rest h = pieces_other b (piece ++ 10 ∷ rest) h.0 ∙ ap (onto_first b) (pieces_at piece rest h.1)

pub pieces_clear : (piece : List ℕ) → HasNoNewline piece → pieces piece ≡ piece ∷ []
pieces_clear [] h = refl
pieces_clear (b ∷ piece) h = pieces_other b piece h.0 ∙ ap (onto_first b) (pieces_clear piece h.1)

-- there is always a piece
onto_some : (b : ℕ) (parts : List (List ℕ)) → (p : List ℕ) × (ps : List (List ℕ)) × (onto_first b parts ≡ p ∷ ps)
onto_some b [] = (b ∷ [], [], refl)
onto_some b (p ∷ ps) = (b ∷ p, ps, refl)

pieces_some : (bytes : List ℕ) → (p : List ℕ) × (ps : List (List ℕ)) × (pieces bytes ≡ p ∷ ps)
pieces_some [] = ([], [], refl)
pieces_some (b ∷ bytes) =
    let P : Bool → Type 0 = λ t. (p : List ℕ) × (ps : List (List ℕ)) × (cond t ([] ∷ pieces bytes) (onto_first b (pieces bytes)) ≡ p ∷ ps) in
    elim (b == 10) as P [ true ↦ ([], pieces bytes, refl) | false ↦ onto_some b (pieces bytes) ]

kept_more : (piece p : List ℕ) (ps : List (List ℕ)) → without_empty_end (piece ∷ p ∷ ps) ≡ piece ∷ without_empty_end (p ∷ ps)
kept_more [] p ps = refl
kept_more (b ∷ piece) p ps = refl

pub lines_at : (piece rest : List ℕ) → HasNoNewline piece → lines (piece ++ 10 ∷ rest) ≡ marked piece ∷ lines rest
unfolding lines
lines_at piece rest h =
    let some = pieces_some rest in
    ap (λ v. each_marked (without_empty_end v)) (pieces_at piece rest h ∙ ap (λ v. piece ∷ v) some.2)
    ∙ ap each_marked (kept_more piece some.0 some.1)
    ∙ ap (λ v. marked piece ∷ each_marked (without_empty_end v)) (sym some.2)

pub whole_at : (piece rest : List ℕ) → HasNoNewline piece → whole (piece ++ 10 ∷ rest) ≡ marked piece ∷ whole rest
unfolding whole
whole_at piece rest h =
    let some = pieces_some rest in
    ap (λ v. each_marked (without_end v)) (pieces_at piece rest h ∙ ap (λ v. piece ∷ v) some.2)
    ∙ ap (λ v. marked piece ∷ each_marked (without_end v)) (sym some.2)

pub lines-nil : lines [] ≡ []
unfolding lines
lines-nil = refl

pub lines_clear : (piece : List ℕ) → HasNoNewline piece → piece ≢ [] → lines piece ≡ marked piece ∷ []
unfolding lines
lines_clear [] h some = absurd (some refl)
lines_clear (b ∷ piece) h some = ap (λ v. each_marked (without_empty_end v)) (pieces_clear (b ∷ piece) h)

pub whole_clear : (piece : List ℕ) → HasNoNewline piece → whole piece ≡ []
unfolding whole
whole_clear piece h = ap (λ v. each_marked (without_end v)) (pieces_clear piece h)

pub marked_short : (piece : List ℕ) → length piece ≤ 16777216 → marked piece ≡ line piece
marked_short piece h = ap (λ t. cond t (line piece) too_long) (le-leb (length piece) 16777216 h)

pub marked_long : (piece : List ℕ) → 16777216 < length piece → marked piece ≡ too_long
marked_long piece h = ap (λ t. cond t (line piece) too_long) (lt-leb (length piece) 16777216 h)
