-- The rest of a line that is too long, passed over, one call of the source after another.
use Rattle.std.proofs.Common.{◌≡◌, ◌≢◌, ◌≤◌, ◌<◌, ◌+◌, ◌-◌, ℕ, true, false, List, [], ◌∷◌, ◌++◌, length, get_or, ap, sym, subst, ◌∙◌, refl, arith, append_assoc, append-nil, length-append, slice_range, inl, inr, min}
use Rattle.std.specs.declared.option.Option.{Option}
use Rattle.std.specs.Io.KnownBytes.{Consumes, IsAtEnd, Keeps}
use Rattle.std.proofs.KnownBytes.{Consumes-kept, Consumes-trans}
use Rattle.lens_io.specs.declared.cutting.Cut.TheVariants.{Failed, TooLong, Spent}
use Rattle.io_specs.specs.Calls.{Adds}
use Rattle.lens_io.specs.Calls.{Call, AddsCall}
use Rattle.lens_io.specs.Cutting.{Asks, HasNoNewline, Passed}
use Rattle.lens_io.proofs.Asking.{Asking, Asking-last, asked_more}
use Rattle.lens_io.proofs.Pieces.{clear-append, range_join, range_at, length-range}

-- some bytes without a newline came
pub record PassedOver (before taken limit : ℕ) (left0 left : Option (List ℕ)) (asked0 asked : Option (List Call)) : Type 0 where
  pub came : List ℕ
  pub clear : HasNoNewline came
  pub consumed : Consumes left0 left came
  pub counted : taken ≡ before + length came
  pub asking : Asking [] before taken limit came asked0 asked

-- a piece of the rest of a line that is too long
pub pass_more : (items slice : List ℕ) (before taken count stop limit : ℕ) (left0 left left' : Option (List ℕ)) (asked0 asked asked' : Option (List Call))
    → slice ≡ items → stop ≡ count - (taken + count - limit) → taken + count ≤ limit → count ≤ length items → PassedOver before taken limit left0 left asked0 asked
    → HasNoNewline (slice_range slice 0 stop) → Consumes left left' (slice_range items 0 (0 + count)) → count ≢ 0 → AddsCall asked asked' (min 65536 (limit + 1 - taken)) (slice_range items 0 (0 + count))
    → PassedOver before (taken + count) limit left0 left' asked0 asked'
pass_more items slice before taken count stop limit left0 left left' asked0 asked asked' same is few inside p clear consumed some call =
    let at : stop ≡ 0 + count = omega arith in
    let more_clear : HasNoNewline (slice_range items 0 (0 + count)) =
    subst (λ n. HasNoNewline (slice_range items 0 n)) at (subst (λ v. HasNoNewline (slice_range v 0 stop)) same clear) in
    record {
      came = p.came ++ slice_range items 0 (0 + count);
      clear = clear-append p.came _ p.clear more_clear;
      consumed = Consumes-trans left0 left left' p.came _ p.consumed consumed;
      counted = omega (arith, p.counted, length-append p.came (slice_range items 0 (0 + count)), length-range items 0 (0 + count) (omega arith) (omega arith));
      asking = asked_more [] before taken limit p.came asked0 asked asked' items 0 count (omega arith) some p.asking call more_clear;
    }

-- the source failed
pub pass_failed : (before taken limit : ℕ) (left0 left left' : Option (List ℕ)) (asked0 asked asked' : Option (List Call)) → PassedOver before taken limit left0 left asked0 asked → taken ≤ limit
    → Keeps left left' → AddsCall asked asked' (min 65536 (limit + 1 - taken)) [] → Passed Failed [] before taken limit false left0 left' asked0 asked'
pass_failed before taken limit left0 left left' asked0 asked asked' p few kept call = record {
  came = p.came;
  consumed = Consumes-kept left0 left left' p.came p.consumed kept;
  counted = p.counted;
  says = (p.clear, refl, refl);
  needed = inr (p.came, [], sym (append-nil p.came), omega arith, p.clear);
  within = omega arith;
  most = omega arith;
  at_end = λ h. cc;
  asks = subst (λ v. Adds (Asks [] before limit false v) asked0 asked') (append-nil p.came) (Asking-last [] before taken limit _ p.came asked0 asked asked' [] p.asking call refl);
}

-- the source is at its end
pub pass_last : (items : List ℕ) (before taken count limit : ℕ) (left0 left left' : Option (List ℕ)) (asked0 asked asked' : Option (List Call)) → PassedOver before taken limit left0 left asked0 asked → taken ≤ limit
    → Consumes left left' (slice_range items 0 (0 + count)) → count ≡ 0 → IsAtEnd left' → AddsCall asked asked' (min 65536 (limit + 1 - taken)) (slice_range items 0 (0 + count))
    → Passed TooLong [] before taken limit true left0 left' asked0 asked'
pass_last items before taken count limit left0 left left' asked0 asked asked' p few consumed zero last call =
    let none : slice_range items 0 (0 + count) ≡ [] = (let e : 0 + count ≡ 0 = omega arith in ap (slice_range items 0) e) in
    let all : p.came ++ slice_range items 0 (0 + count) ≡ p.came = ap (λ v. p.came ++ v) none ∙ append-nil p.came in
    record {
      came = p.came;
      consumed = subst (Consumes left0 left') all (Consumes-trans left0 left left' p.came _ p.consumed consumed);
      counted = p.counted;
      says = (p.came, (p.clear, inr (refl, refl, refl)));
      needed = inr (p.came, [], sym (append-nil p.came), omega arith, p.clear);
      within = omega arith;
      most = omega arith;
      at_end = λ _. last;
      asks = subst (λ v. Adds (Asks [] before limit false v) asked0 asked') all (Asking-last [] before taken limit _ p.came asked0 asked asked' (slice_range items 0 (0 + count)) p.asking call refl);
    }

-- its newline came
pub pass_cut : (items slice : List ℕ) (before taken count stop limit at : ℕ) (left0 left left' : Option (List ℕ)) (asked0 asked asked' : Option (List Call))
    → slice ≡ items → stop ≡ count - (taken + count - limit) → taken + count ≤ limit + 1 → count ≤ 65536 → count ≤ length items → PassedOver before taken limit left0 left asked0 asked
    → at < stop → HasNoNewline (slice_range slice 0 at) → get_or slice at 0 ≡ 10 → Consumes left left' (slice_range items 0 (0 + count))
    → AddsCall asked asked' (min 65536 (limit + 1 - taken)) (slice_range items 0 (0 + count)) → Passed TooLong (slice_range items (at + 1) count) before (taken + count) limit false left0 left' asked0 asked'
pass_cut items slice before taken count stop limit at left0 left left' asked0 asked asked' same is most small inside p below clear newline consumed call =
    let size : length (slice_range items 0 (0 + count)) ≡ count = length-range items 0 (0 + count) (omega arith) (omega arith) ∙ omega arith in
    let rest : length (slice_range items (at + 1) count) ≡ count - (at + 1) = length-range items (at + 1) count (omega arith) inside in
    let parts : slice_range items 0 (0 + count) ≡ slice_range items 0 at ++ 10 ∷ slice_range items (at + 1) count =
    (let e : 0 + count ≡ count = omega arith in ap (slice_range items 0) e) ∙ range_at items 0 at count (omega arith) (omega arith) inside (ap (λ v. get_or v at 0) (sym same) ∙ newline) in
    record {
      came = p.came ++ slice_range items 0 (0 + count);
      consumed = Consumes-trans left0 left left' p.came _ p.consumed consumed;
      counted = omega (arith, p.counted, length-append p.came (slice_range items 0 (0 + count)));
      says = (
        p.came ++ slice_range items 0 at,
        (
          clear-append p.came _ p.clear (subst (λ v. HasNoNewline (slice_range v 0 at)) same clear),
          inl (ap (λ v. p.came ++ v) parts ∙ sym (append_assoc p.came (slice_range items 0 at) (10 ∷ slice_range items (at + 1) count)), refl),
        ),
      );
      needed = inr (p.came, slice_range items 0 (0 + count), refl, omega arith, p.clear);
      within = omega arith;
      most = most;
      at_end = λ h. cc;
      asks = Asking-last [] before taken limit _ p.came asked0 asked asked' (slice_range items 0 (0 + count)) p.asking call refl;
    }

-- the byte beyond the limit came
pub pass_spent : (items slice : List ℕ) (before taken count stop limit : ℕ) (left0 left left' : Option (List ℕ)) (asked0 asked asked' : Option (List Call))
    → slice ≡ items → stop ≡ count - (taken + count - limit) → taken + count ≤ limit + 1 → limit < taken + count → taken ≤ limit → count ≤ 65536 → count ≤ length items → PassedOver before taken limit left0 left asked0 asked
    → HasNoNewline (slice_range slice 0 stop) → Consumes left left' (slice_range items 0 (0 + count))
    → AddsCall asked asked' (min 65536 (limit + 1 - taken)) (slice_range items 0 (0 + count)) → Passed Spent (slice_range items (count - 1) count) before (taken + count) limit false left0 left' asked0 asked'
pass_spent items slice before taken count stop limit left0 left left' asked0 asked asked' same is most over few small inside p clear consumed call =
    let size : length (slice_range items 0 (0 + count)) ≡ count = length-range items 0 (0 + count) (omega arith) (omega arith) ∙ omega arith in
    let rest : length (slice_range items (count - 1) count) ≡ 1 = length-range items (count - 1) count (omega arith) inside ∙ omega arith in
    let at : stop ≡ count - 1 = omega arith in
    let parts : slice_range items 0 (0 + count) ≡ slice_range items 0 (count - 1) ++ slice_range items (count - 1) count =
    (let e : 0 + count ≡ count = omega arith in ap (slice_range items 0) e) ∙ range_join items 0 (count - 1) count (omega arith) (omega arith) in
    record {
      came = p.came ++ slice_range items 0 (0 + count);
      consumed = Consumes-trans left0 left left' p.came _ p.consumed consumed;
      counted = omega (arith, p.counted, length-append p.came (slice_range items 0 (0 + count)));
      says = (
        p.came ++ slice_range items 0 (count - 1),
        clear-append p.came _ p.clear (subst (λ n. HasNoNewline (slice_range items 0 n)) at (subst (λ v. HasNoNewline (slice_range v 0 stop)) same clear)),
        ap (λ v. p.came ++ v) parts ∙ sym (append_assoc p.came (slice_range items 0 (count - 1)) (slice_range items (count - 1) count)),
        rest,
        omega arith,
        refl,
      );
      needed = inr (p.came, slice_range items 0 (0 + count), refl, omega arith, p.clear);
      within = omega arith;
      most = most;
      at_end = λ h. cc;
      asks = Asking-last [] before taken limit _ p.came asked0 asked asked' (slice_range items 0 (0 + count)) p.asking call refl;
    }
