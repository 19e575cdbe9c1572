-- Which answers of a cutter can come at the end of the input and at a line that is too long.
use Rattle.std.proofs.Common.{◌≡◌, ◌≢◌, ◌<◌, ℕ, Bool, true, false, List, [], ◌∷◌, ◌++◌, length, ap, sym, subst, ◌∙◌, refl, arith, append_assoc, append-nil, length-append, inl, inr, None, Some, ◌⊎◌}
use Rattle.std.specs.declared.option.Option.{Option}
use Rattle.std.specs.Io.KnownBytes.{Consumes, IsAtEnd}
use Rattle.lens_io.specs.declared.cutting.Cut.{Cut}
use Rattle.lens_io.specs.declared.cutting.Cut.TheVariants as cut
use Rattle.lens_io.specs.Cutting.{HasNoNewline, CutsOff, Step, IsNext}
use Rattle.lens_io.proofs.Gathered.{newline_there}

none_came : (left : Option (List ℕ)) (came : List ℕ) → Consumes (Some []) left came → length came ≡ 0
none_came None came h = absurd h
none_came (Some ys) came h = omega (arith, ap length h, length-append came ys)

no_piece : (bytes piece rest : List ℕ) (ended : Bool) → CutsOff bytes piece rest ended → length bytes ≡ 0 → (ended ≡ true → piece ≢ []) → ⊥
no_piece bytes [] rest ended cuts none some = elim cuts.1 [
  | inl e ↦ omega (arith, none, ap length e.0)
  | inr e ↦ some e.2 refl
]
no_piece bytes (b ∷ piece) rest ended cuts none some = elim cuts.1 [
  | inl e ↦ omega (arith, none, ap length e.0, length-append (b ∷ piece) (10 ∷ rest))
  | inr e ↦ omega (arith, none, ap length e.0)
]

-- Where the input is at its end and no byte waits, nothing else comes.
pub at_end_only : (c : Cut) (text rest : List ℕ) (taken taken' limit : ℕ) (ended ended' : Bool) (left' : Option (List ℕ))
    → Step c [] text rest taken taken' limit ended ended' (Some []) left' → (c ≡ cut.End) ⊎ (c ≡ cut.Failed)
at_end_only cut.Line text rest taken taken' limit ended ended' left' s = absurd (no_piece s.came text rest ended' s.says.1 (none_came left' s.came s.consumed) s.says.2)
at_end_only cut.TooLong text rest taken taken' limit ended ended' left' s =
    let long : 16777216 < length s.says.0 = s.says.1 in
    absurd (no_piece s.came s.says.0 rest ended' s.says.2 (none_came left' s.came s.consumed) (λ _ e. omega (arith, long, ap length e)))
at_end_only cut.End text rest taken taken' limit ended ended' left' s = inl refl
at_end_only cut.Failed text rest taken taken' limit ended ended' left' s = inr refl
at_end_only cut.Spent text rest taken taken' limit ended ended' left' s =
    absurd (omega (arith, none_came left' s.came s.consumed, ap length s.says.2, length-append s.says.0 rest, s.says.3))

same_first : (a b x y : List ℕ) → HasNoNewline a → HasNoNewline b → a ++ 10 ∷ x ≡ b ++ 10 ∷ y → a ≡ b
same_first [] [] x y p q e = refl
same_first [] (b ∷ bs) x y p q e = absurd (q.0 (let h : b ≡ 10 = cc in h))
same_first (a ∷ al) [] x y p q e = absurd (p.0 (let h : a ≡ 10 = cc in h))
same_first (a ∷ al) (b ∷ bs) x y p q e =
    let head : a ≡ b = cc in
    let rest : al ++ 10 ∷ x ≡ bs ++ 10 ∷ y = cc in
    ap (λ v. v ∷ al) head ∙ ap (λ v. b ∷ v) (same_first al bs x y p.1 q.1 rest)

next_is : (bytes piece other : List ℕ) → IsNext bytes piece → IsNext bytes other → piece ≡ other
next_is bytes piece other p q = elim p.1 [
  | inl e ↦ elim q.1 [
    | inl f ↦ same_first piece other e.0 f.0 p.0 q.0 (sym e.1 ∙ f.1)
    | inr f ↦ absurd (newline_there piece e.0 (subst HasNoNewline (sym f ∙ e.1) q.0))
  ]
  | inr e ↦ elim q.1 [
    | inl f ↦ absurd (newline_there other f.0 (subst HasNoNewline (sym e ∙ f.1) p.0))
    | inr f ↦ sym e ∙ f
  ]
]

-- what was cut off what waited and came is the next line of all
cut_next : (pending bytes came piece rest : List ℕ) (ended : Bool) (left : Option (List ℕ)) → Consumes (Some bytes) left came → CutsOff (pending ++ came) piece rest ended
    → (ended ≡ true → IsAtEnd left) → IsNext (pending ++ bytes) piece
cut_next pending bytes came piece rest ended None c cuts last = absurd c
cut_next pending bytes came piece rest ended (Some ys) c cuts last =
    let all : pending ++ bytes ≡ (pending ++ came) ++ ys = ap (λ v. pending ++ v) c ∙ sym (append_assoc pending came ys) in (
      cuts.0,
      elim cuts.1 [
        | inl e ↦ inl (rest ++ ys, all ∙ ap (λ v. v ++ ys) e.0 ∙ append_assoc piece (10 ∷ rest) ys)
        | inr e ↦ inr (all ∙ ap (λ v. v ++ ys) e.0 ∙ ap (λ v. piece ++ v) (last e.2) ∙ append-nil piece)
      ],
    )

empty_all : (pending bytes came : List ℕ) (left : Option (List ℕ)) → Consumes (Some bytes) left came → pending ++ came ≡ [] → IsAtEnd left → pending ++ bytes ≡ []
empty_all pending bytes came None c none last = absurd c
empty_all pending bytes came (Some ys) c none last =
    ap (λ v. pending ++ v) c ∙ sym (append_assoc pending came ys) ∙ ap (λ v. v ++ ys) none ∙ last

last_told : (ended : Bool) (left left' : Option (List ℕ)) → (ended ≡ true → ((false ≡ true) × (left' ≡ left)) ⊎ IsAtEnd left') → ended ≡ true → IsAtEnd left'
last_told ended left left' h e = elim (h e) [ inl f ↦ absurd (let clash : false ≡ true = f.0 in cc) | inr last ↦ last ]

-- Where the next line is too long, nothing else comes.
pub too_long_only : (c : Cut) (pending bytes text rest piece : List ℕ) (taken taken' limit : ℕ) (ended' : Bool) (left' : Option (List ℕ))
    → Step c pending text rest taken taken' limit false ended' (Some bytes) left' → IsNext (pending ++ bytes) piece → 16777216 < length piece
    → (c ≡ cut.TooLong) ⊎ ((c ≡ cut.Failed) ⊎ (c ≡ cut.Spent))
too_long_only cut.Line pending bytes text rest piece taken taken' limit ended' left' s next long =
    let same : text ≡ piece = next_is (pending ++ bytes) text piece (cut_next pending bytes s.came text rest ended' left' s.consumed s.says.1 (last_told ended' (Some bytes) left' s.at_end)) next in
    absurd (omega (arith, long, s.says.0, ap length same))
too_long_only cut.TooLong pending bytes text rest piece taken taken' limit ended' left' s next long = inl refl
too_long_only cut.End pending bytes text rest piece taken taken' limit ended' left' s next long =
    let none : pending ++ bytes ≡ [] = empty_all pending bytes s.came left' s.consumed s.says.0 (last_told ended' (Some bytes) left' s.at_end s.says.2) in
    absurd (elim next.1 [ inl e ↦ omega (arith, long, ap length none, ap length e.1, length-append piece (10 ∷ e.0)) | inr e ↦ omega (arith, long, ap length none, ap length e) ])
too_long_only cut.Failed pending bytes text rest piece taken taken' limit ended' left' s next long = inr (inl refl)
too_long_only cut.Spent pending bytes text rest piece taken taken' limit ended' left' s next long = inr (inr refl)
