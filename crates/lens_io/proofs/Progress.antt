-- A run of a cutter comes to its end.
use Rattle.std.proofs.Common.{◌≡◌, ◌≢◌, ◌<◌, ◌+◌, ◌-◌, ℕ, Bool, true, false, List, [], ◌∷◌, ◌++◌, length, ap, arith, length-append, inl, inr}
use Rattle.std.specs.declared.option.Option.{Option}
use Rattle.std.proofs.lemmas.List.{nil_from_length}
use Rattle.lens_io.specs.declared.cutting.Cut.{Cut}
use Rattle.lens_io.specs.declared.cutting.Cut.TheVariants as cut
use Rattle.lens_io.specs.Cutting.{CutsOff, Step, is_last}

cut_shorter : (bytes piece rest : List ℕ) (ended : Bool) → CutsOff bytes piece rest ended → (ended ≡ true → piece ≢ []) → length rest < length bytes
cut_shorter bytes piece rest ended cuts some = elim cuts.1 [
  | inl e ↦ omega (arith, ap length e.0, length-append piece (10 ∷ rest))
  | inr e ↦ let not_none : length piece ≢ 0 = λ z. some e.2 (nil_from_length piece z) in omega (arith, ap length e.0, ap length e.1)
]

-- Each line uses up at least one byte.
pub shorter : (c : Cut) (pending text rest : List ℕ) (taken taken' limit : ℕ) (ended ended' : Bool) (left left' : Option (List ℕ))
    → Step c pending text rest taken taken' limit ended ended' left left' → is_last c ≡ false → limit + 1 - taken' + length rest < limit + 1 - taken + length pending
shorter cut.Line pending text rest taken taken' limit ended ended' left left' s going =
    omega (arith, s.counted, s.most, length-append pending s.came, cut_shorter (pending ++ s.came) text rest ended' s.says.1 s.says.2)
shorter cut.TooLong pending text rest taken taken' limit ended ended' left left' s going =
    let long : 16777216 < length s.says.0 = s.says.1 in
    omega (arith, s.counted, s.most, length-append pending s.came, cut_shorter (pending ++ s.came) s.says.0 rest ended' s.says.2 (λ _ e. absurd (omega (arith, long, ap length e))))
shorter cut.End pending text rest taken taken' limit ended ended' left left' s going = absurd (let no : true ≡ false = going in cc)
shorter cut.Failed pending text rest taken taken' limit ended ended' left left' s going = absurd (let no : true ≡ false = going in cc)
shorter cut.Spent pending text rest taken taken' limit ended ended' left left' s going = absurd (let no : true ≡ false = going in cc)
