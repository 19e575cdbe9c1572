-- What a cutter knows of the bytes that came, one call of the source after another, until a line is whole.
use Rattle.std.proofs.Common.{◌≡◌, ◌≤◌, ◌<◌, ◌+◌, ◌-◌, ℕ, Bool, true, false, List, [], ◌∷◌, ◌++◌, take, drop, length, get_or, ap, sym, subst, ◌∙◌, refl, arith, append_assoc, append-nil, length-append, length-take-le, slice_range, inl, inr, nat_lt, nat_eq, cond, ◌⊎◌}
use Rattle.std.specs.declared.option.Option.{Option}
use Rattle.std.specs.Io.KnownBytes.{Consumes, Keeps, IsAtEnd}
use Rattle.std.proofs.KnownBytes.{Consumes-nil, Consumes-trans, Consumes-kept}
use Rattle.std.proofs.lemmas.List.{take-take, nil_from_length}
use Rattle.std.proofs.lemmas.Bool.{ltb-true, ltb-false, eqb-true, eqb-false}
use Rattle.lens_io.specs.declared.cutting.Cut.{Cut}
use Rattle.lens_io.specs.declared.cutting.Cut.TheVariants.{Line, TooLong, End, Failed, Spent}
use Rattle.io_specs.specs.Calls.{Adds}
use Rattle.lens_io.specs.Calls.{Call}
use Rattle.lens_io.specs.Cutting.{Asks, HasNoNewline, IsNeeded, NeedsNone, Cuts, CutsOff, Says, SaysPassed, Passed, sized, unended}
use Rattle.lens_io.proofs.Asking.{Asking, Asking-passed, asks_none}
use Rattle.lens_io.proofs.Pieces.{clear-append, take_join, range_of, range_join, range_at, length-range}

-- the buffer still begins with what waited at first, and the rest came since
pub record Gathered (first : ℕ) (items0 items : List ℕ) (end : ℕ) (left0 left : Option (List ℕ)) : Type 0 where
  pub front : take first items ≡ take first items0
  pub consumed : Consumes left0 left (slice_range items first end)

range_front : (xs ys : List ℕ) (i j : ℕ) → i ≤ j → take j xs ≡ take j ys → slice_range xs i j ≡ slice_range ys i j
range_front xs ys i j p is = range_of xs i j p ∙ ap (drop i) is ∙ sym (range_of ys i j p)

take_front : (xs ys : List ℕ) (i j : ℕ) → i ≤ j → take j xs ≡ take j ys → take i xs ≡ take i ys
take_front xs ys i j p is = sym (take-take i j xs p) ∙ ap (take i) is ∙ take-take i j ys p

-- what came before and the last piece are one part of the buffer
pub grown : (first : ℕ) (items items' : List ℕ) (end n : ℕ) → first ≤ end → take end items' ≡ take end items → slice_range items first end ++ slice_range items' end (end + n) ≡ slice_range items' first (end + n)
grown first items items' end n p is = ap (λ v. v ++ slice_range items' end (end + n)) (sym (range_front items' items first end p is)) ∙ sym (range_join items' first end (end + n) p (omega arith))

pub Gathered-more : (first : ℕ) (items0 items items' : List ℕ) (end n : ℕ) (left0 left left' : Option (List ℕ)) → first ≤ end → take end items' ≡ take end items
    → Gathered first items0 items end left0 left → Consumes left left' (slice_range items' end (end + n)) → Gathered first items0 items' (end + n) left0 left'
Gathered-more first items0 items items' end n left0 left left' p is g consumed = record {
  front = take_front items' items first end p is ∙ g.front;
  consumed = subst (Consumes left0 left')
      (grown first items items' end n p is)
      (Consumes-trans left0 left left' _ _ g.consumed consumed);
}

-- a failed call took nothing
pub Gathered-kept : (first : ℕ) (items0 items items' : List ℕ) (end : ℕ) (left0 left left' : Option (List ℕ)) → first ≤ end → take end items' ≡ take end items
    → Gathered first items0 items end left0 left → Keeps left left' → Gathered first items0 items' end left0 left'
Gathered-kept first items0 items items' end left0 left left' p is g kept = record {
  front = take_front items' items first end p is ∙ g.front;
  consumed = subst (Consumes left0 left') (sym (range_front items' items first end p is)) (Consumes-kept left0 left left' _ g.consumed kept);
}

pub clear_more : (items items' : List ℕ) (end n : ℕ) → take end items' ≡ take end items → HasNoNewline (take end items) → HasNoNewline (slice_range items' end (end + n)) → HasNoNewline (take (end + n) items')
clear_more items items' end n is p q = subst HasNoNewline (sym (take_join items' end (end + n) (omega arith))) (clear-append _ _ (subst HasNoNewline (sym is) p) q)

-- what waited at first and what came are the front of the buffer
pub whole : (first : ℕ) (items0 items : List ℕ) (end : ℕ) (left0 left : Option (List ℕ)) → first ≤ end → Gathered first items0 items end left0 left → take first items0 ++ slice_range items first end ≡ take end items
whole first items0 items end left0 left p g = ap (λ v. v ++ slice_range items first end) (sym g.front) ∙ sym (take_join items first end p)

pub says_sized : (bytes line rest : List ℕ) (size taken limit : ℕ) → length line ≡ size → CutsOff bytes line rest false → Says (sized size) bytes line rest taken limit false
says_sized bytes line rest size taken limit is cuts =
    let P : Bool → Type 0 = λ b. nat_lt 16777216 size ≡ b → Says (cond b TooLong Line) bytes line rest taken limit false in
    let both : (b : Bool) → P b = λ b. elim b as P [ true ↦ λ e. (line, omega (arith, ltb-true 16777216 size e), cuts) | false ↦ λ e. (omega (arith, ltb-false 16777216 size e), cuts, λ h. cc) ] in
    both (nat_lt 16777216 size) refl

range_zero : (xs : List ℕ) (n : ℕ) → slice_range xs 0 n ≡ take n xs
range_zero xs n = let e : n - 0 ≡ n = omega arith in ap (λ m. take m xs) e

range_none : (xs : List ℕ) (n : ℕ) → slice_range xs n n ≡ []
range_none xs n = let e : n - n ≡ 0 = omega arith in ap (λ m. take m (drop n xs)) e

false_end : (left left' : Option (List ℕ)) → false ≡ true → ((false ≡ true) × (left' ≡ left)) ⊎ IsAtEnd left'
false_end left left' h = cc

false_once : (cut : Cut) → false ≡ true → cut ≡ End
false_once cut h = cc

-- what came without a newline was needed
needed_all : (pending came bytes : List ℕ) → pending ++ came ≡ bytes → HasNoNewline bytes → IsNeeded pending came
needed_all pending came bytes is clear = inr (came, [], sym (append-nil came), omega arith, subst HasNoNewline (sym is) clear)

-- the last piece was needed where there was no newline before it
needed_last : (first : ℕ) (items0 items items' : List ℕ) (end count : ℕ) (left0 left : Option (List ℕ)) → first ≤ end → end + count ≤ length items' → count ≤ 65536
    → take end items' ≡ take end items → HasNoNewline (take end items) → Gathered first items0 items end left0 left → IsNeeded (take first items0) (slice_range items' first (end + count))
needed_last first items0 items items' end count left0 left p inside small same clear g = inr (
  slice_range items first end,
  slice_range items' end (end + count),
  range_join items' first end (end + count) p (omega arith) ∙ ap (λ v. v ++ slice_range items' end (end + count)) (range_front items' items first end p same),
  omega (arith, length-range items' end (end + count) (omega arith) inside),
  subst HasNoNewline (sym (whole first items0 items end left0 left p g)) clear,
)

-- the source failed
pub step_failed : (items0 items items' : List ℕ) (first end before taken limit : ℕ) (left0 left left' : Option (List ℕ)) (asked0 asked : Option (List Call))
    → first ≤ end → end ≤ length items' → taken + first ≡ before + end → taken ≤ limit → HasNoNewline (take end items) → Gathered first items0 items end left0 left
    → take end items' ≡ take end items → Keeps left left'
    → Adds (Asks (take first items0) before limit false (slice_range items first end ++ [])) asked0 asked
    → Cuts Failed (take first items0) (slice_range items' 0 0) (slice_range items' 0 0) before taken limit false false left0 left' asked0 asked
step_failed items0 items items' first end before taken limit left0 left left' asked0 asked p inside counted few clear g same kept asks =
    let g' : Gathered first items0 items' end left0 left' = Gathered-kept first items0 items items' end left0 left left' p same g kept in
    record {
      step = record {
        came = slice_range items' first end;
        consumed = g'.consumed;
        counted = omega (arith, length-range items' first end p inside);
        says = (subst HasNoNewline (sym same ∙ sym (whole first items0 items' end left0 left' p g')) clear, refl, refl);
        needed = needed_all _ _ _ (whole first items0 items' end left0 left' p g' ∙ same) clear;
        within = omega arith;
        most = omega arith;
        at_end = false_end left0 left';
        once = false_once Failed;
      };
      asks = subst (λ v. Adds (Asks (take first items0) before limit false v) asked0 asked) (append-nil (slice_range items first end) ∙ sym (range_front items' items first end p same)) asks;
    }

says_unended : (bytes line rest : List ℕ) (size taken limit : ℕ) → bytes ≡ line → length line ≡ size → size ≤ 16777216 → HasNoNewline line → rest ≡ [] → Says (unended size) bytes line rest taken limit true
says_unended bytes line rest size taken limit same is few clear none =
    let P : Bool → Type 0 = λ b. nat_eq size 0 ≡ b → Says (cond b End Line) bytes line rest taken limit true in
    let both : (b : Bool) → P b = λ b. elim b as P [
      | true ↦ λ e. (same ∙ nil_from_length line (is ∙ eqb-true size 0 e), none, refl)
      | false ↦ λ e. (omega arith, (clear, inr (same, none, refl)), λ _ h. eqb-false size 0 e (sym is ∙ ap length h))
    ] in
    both (nat_eq size 0) refl

-- the source is at its end
pub step_last : (items0 items items' : List ℕ) (first end count before taken limit : ℕ) (left0 left left' : Option (List ℕ)) (asked0 asked : Option (List Call))
    → first ≤ end → end ≤ length items' → taken + first ≡ before + end → taken ≤ limit → HasNoNewline (take end items) → Gathered first items0 items end left0 left
    → take end items' ≡ take end items → Consumes left left' (slice_range items' end (end + count)) → count ≡ 0 → IsAtEnd left' → end ≤ 16777216
    → Adds (Asks (take first items0) before limit false (slice_range items first end ++ slice_range items' end (end + count))) asked0 asked
    → Cuts (unended end) (take first items0) (slice_range items' 0 end) (slice_range items' end end) before taken limit false true left0 left' asked0 asked
step_last items0 items items' first end count before taken limit left0 left left' asked0 asked p inside counted few clear g same consumed none last short asks =
    let at : end + count ≡ end = omega arith in
    let g' : Gathered first items0 items' end left0 left' =
    subst (λ n. Gathered first items0 items' n left0 left') at (Gathered-more first items0 items items' end count left0 left left' p same g consumed) in
    let bytes : take first items0 ++ slice_range items' first end ≡ slice_range items' 0 end = whole first items0 items' end left0 left' p g' ∙ sym (range_zero items' end) in
    record {
      step = record {
        came = slice_range items' first end;
        consumed = g'.consumed;
        counted = omega (arith, length-range items' first end p inside);
        says = says_unended (take first items0 ++ slice_range items' first end) (slice_range items' 0 end) (slice_range items' end end) end taken limit bytes
            (length-range items' 0 end (omega arith) inside ∙ omega arith) short
            (subst HasNoNewline (sym same ∙ sym (range_zero items' end)) clear) (range_none items' end);
        needed = needed_all _ _ _ (whole first items0 items' end left0 left' p g' ∙ same) clear;
        within = omega arith;
        most = omega arith;
        at_end = λ _. inr last;
        once = false_once (unended end);
      };
      asks = subst (λ v. Adds (Asks (take first items0) before limit false v) asked0 asked) (grown first items items' end count p same ∙ ap (slice_range items' first) at) asks;
    }

-- a newline came
pub step_cut : (items0 items items' slice : List ℕ) (first end count before taken limit stop at : ℕ) (left0 left left' : Option (List ℕ)) (asked0 asked : Option (List Call))
    → first ≤ end → end + count ≤ length items' → taken + first ≡ before + end → taken + count ≤ limit + 1 → count ≤ 65536 → HasNoNewline (take end items) → Gathered first items0 items end left0 left
    → take end items' ≡ take end items → Consumes left left' (slice_range items' end (end + count)) → slice ≡ items' → stop ≡ end + count - (taken + count - limit)
    → end ≤ at → at < stop → HasNoNewline (slice_range slice end at) → get_or slice at 0 ≡ 10
    → Adds (Asks (take first items0) before limit false (slice_range items first end ++ slice_range items' end (end + count))) asked0 asked
    → Cuts (sized (at - 0)) (take first items0) (slice_range items' 0 at) (slice_range items' (at + 1) (end + count)) before (taken + count) limit false false left0 left' asked0 asked
step_cut items0 items items' slice first end count before taken limit stop at left0 left left' asked0 asked p inside counted few small clear g same consumed is stops low high before_it newline asks =
    let g' : Gathered first items0 items' (end + count) left0 left' = Gathered-more first items0 items items' end count left0 left left' p same g consumed in
    let bytes : take first items0 ++ slice_range items' first (end + count) ≡ slice_range items' 0 at ++ 10 ∷ slice_range items' (at + 1) (end + count) =
    whole first items0 items' (end + count) left0 left' (omega arith) g' ∙ sym (range_zero items' (end + count))
    ∙ range_at items' 0 at (end + count) (omega arith) (omega arith) inside (ap (λ v. get_or v at 0) (sym is) ∙ newline) in
    let line : take at items' ≡ take end items' ++ slice_range items' end at = take_join items' end at low in
    let line_clear : HasNoNewline (slice_range items' 0 at) =
    subst HasNoNewline (sym line ∙ sym (range_zero items' at)) (clear-append _ _ (subst HasNoNewline (sym same) clear) (subst (λ v. HasNoNewline (slice_range v end at)) is before_it)) in
    record {
      step = record {
        came = slice_range items' first (end + count);
        consumed = g'.consumed;
        counted = omega (arith, length-range items' first (end + count) (omega arith) inside);
        says = says_sized _ (slice_range items' 0 at) (slice_range items' (at + 1) (end + count)) (at - 0) _ _ (length-range items' 0 at (omega arith) (omega arith)) (line_clear, inl (bytes, refl));
        needed = needed_last first items0 items items' end count left0 left p inside small same clear g;
        within = omega (arith, length-range items' (at + 1) (end + count) (omega arith) inside);
        most = few;
        at_end = false_end left0 left';
        once = false_once (sized (at - 0));
      };
      asks = subst (λ v. Adds (Asks (take first items0) before limit false v) asked0 asked) (grown first items items' end count p same) asks;
    }

-- the byte beyond the limit came
pub step_spent : (items0 items items' slice : List ℕ) (first end count before taken limit stop : ℕ) (left0 left left' : Option (List ℕ)) (asked0 asked : Option (List Call))
    → first ≤ end → end + count ≤ length items' → taken + first ≡ before + end → taken + count ≤ limit + 1 → count ≤ 65536 → limit < taken + count → taken ≤ limit
    → HasNoNewline (take end items) → Gathered first items0 items end left0 left
    → take end items' ≡ take end items → Consumes left left' (slice_range items' end (end + count)) → slice ≡ items' → stop ≡ end + count - (taken + count - limit)
    → HasNoNewline (slice_range slice end stop)
    → Adds (Asks (take first items0) before limit false (slice_range items first end ++ slice_range items' end (end + count))) asked0 asked
    → Cuts Spent (take first items0) (slice_range items' 0 0) (slice_range items' (end + count - 1) (end + count)) before (taken + count) limit false false left0 left' asked0 asked
step_spent items0 items items' slice first end count before taken limit stop left0 left left' asked0 asked p inside counted few small over most clear g same consumed is stops after asks =
    let g' : Gathered first items0 items' (end + count) left0 left' = Gathered-more first items0 items items' end count left0 left left' p same g consumed in
    let at : stop ≡ end + count - 1 = omega arith in
    let bytes : take first items0 ++ slice_range items' first (end + count) ≡ take (end + count - 1) items' ++ slice_range items' (end + count - 1) (end + count) =
    whole first items0 items' (end + count) left0 left' (omega arith) g' ∙ take_join items' (end + count - 1) (end + count) (omega arith) in
    let one : length (slice_range items' (end + count - 1) (end + count)) ≡ 1 = length-range items' (end + count - 1) (end + count) (omega arith) inside ∙ omega arith in
    let piece : take (end + count - 1) items' ≡ take end items' ++ slice_range items' end (end + count - 1) = take_join items' end (end + count - 1) (omega arith) in
    let piece_clear : HasNoNewline (take (end + count - 1) items') =
    subst HasNoNewline (sym piece) (clear-append _ _ (subst HasNoNewline (sym same) clear)
    (subst (λ n. HasNoNewline (slice_range items' end n)) at (subst (λ v. HasNoNewline (slice_range v end stop)) is after))) in
    record {
      step = record {
        came = slice_range items' first (end + count);
        consumed = g'.consumed;
        counted = omega (arith, length-range items' first (end + count) (omega arith) inside);
        says = (take (end + count - 1) items', piece_clear, bytes, one, omega arith, refl);
        needed = needed_last first items0 items items' end count left0 left p inside small same clear g;
        within = omega arith;
        most = few;
        at_end = false_end left0 left';
        once = false_once Spent;
      };
      asks = subst (λ v. Adds (Asks (take first items0) before limit false v) asked0 asked) (grown first items items' end count p same) asks;
    }

says_passed : (cut : Cut) (front came bytes line rest : List ℕ) (taken limit : ℕ) (ended : Bool) → bytes ≡ front ++ came → HasNoNewline front → 16777216 < length front
    → SaysPassed cut came rest taken limit ended → Says cut bytes line rest taken limit ended
says_passed Line front came bytes line rest taken limit ended is clear long h = absurd h
says_passed TooLong front came bytes line rest taken limit ended is clear long h = (
  front ++ h.0,
  omega (arith, length-append front h.0),
  (
    clear-append front h.0 clear h.1.0,
    elim h.1.1 [
      | inl e ↦ inl (is ∙ ap (λ v. front ++ v) e.0 ∙ sym (append_assoc front h.0 (10 ∷ rest)), e.1)
      | inr e ↦ inr (is ∙ ap (λ v. front ++ v) e.0, e.1, e.2)
    ],
  ),
)
says_passed End front came bytes line rest taken limit ended is clear long h = absurd h
says_passed Failed front came bytes line rest taken limit ended is clear long h = (subst HasNoNewline (sym is) (clear-append front came clear h.0), h.1, h.2)
says_passed Spent front came bytes line rest taken limit ended is clear long h = (
  front ++ h.0,
  clear-append front h.0 clear h.1,
  is ∙ ap (λ v. front ++ v) h.2 ∙ sym (append_assoc front h.0 rest),
  h.3,
  h.4,
  h.5,
)

needed_passed : (pending front came : List ℕ) → HasNoNewline (pending ++ front) → IsNeeded [] came → IsNeeded pending (front ++ came)
needed_passed pending front came clear needed = elim needed [
  | inl none ↦ inr (front, came, refl, omega (arith, ap length none), clear)
  | inr e ↦ inr (
    front ++ e.0,
    e.1,
    ap (λ v. front ++ v) e.2 ∙ sym (append_assoc front e.0 e.1),
    e.3,
    subst HasNoNewline (append_assoc pending front e.0) (clear-append (pending ++ front) e.0 clear e.4),
  )
]

-- the line was too long, and the rest of it was passed over
pub step_passed : (cut : Cut) (items0 items line rest : List ℕ) (first end before taken taken' limit : ℕ) (ended : Bool) (left0 left left' : Option (List ℕ)) (asked0 asked asked' : Option (List Call))
    → first ≤ end → end ≤ length items → 16777216 < end → taken + first ≡ before + end → HasNoNewline (take end items) → Gathered first items0 items end left0 left
    → Asking (take first items0) before taken limit (slice_range items first end) asked0 asked → Passed cut rest taken taken' limit ended left left' asked asked'
    → Cuts cut (take first items0) line rest before taken' limit false ended left0 left' asked0 asked'
step_passed cut items0 items line rest first end before taken taken' limit ended left0 left left' asked0 asked asked' p inside long counted clear g asking passed =
    let bytes : take first items0 ++ (slice_range items first end ++ passed.came) ≡ take end items ++ passed.came =
    sym (append_assoc (take first items0) (slice_range items first end) passed.came) ∙ ap (λ v. v ++ passed.came) (whole first items0 items end left0 left p g) in
    let size : length (take end items) ≡ end = length-take-le end items inside in
    record {
      step = record {
        came = slice_range items first end ++ passed.came;
        consumed = Consumes-trans left0 left left' _ _ g.consumed passed.consumed;
        counted = omega (arith, passed.counted, length-append (slice_range items first end) passed.came, length-range items first end p inside);
        says = says_passed cut (take end items) passed.came _ line rest taken' limit ended bytes clear (omega arith) passed.says;
        needed = needed_passed (take first items0) (slice_range items first end) passed.came (subst HasNoNewline (sym (whole first items0 items end left0 left p g)) clear) passed.needed;
        within = passed.within;
        most = passed.most;
        at_end = λ h. inr (passed.at_end h);
        once = false_once cut;
      };
      asks = Asking-passed (take first items0) before taken limit (slice_range items first end) asked0 asked asked' passed.came asking passed.asks;
    }

-- a newline waited
pub step_now : (items slice : List ℕ) (start end taken limit stop at : ℕ) (ended : Bool) (left : Option (List ℕ)) (asked : Option (List Call))
    → end ≤ length items → taken ≤ limit + 1 → taken + start ≤ limit + end → slice ≡ items → stop ≡ end - (taken - limit)
    → start ≤ at → at < stop → HasNoNewline (slice_range slice start at) → get_or slice at 0 ≡ 10 → ended ≡ false
    → Cuts (sized (at - start)) (slice_range items start end) (slice_range items start at) (slice_range items (at + 1) end) taken taken limit ended false left left asked asked
step_now items slice start end taken limit stop at ended left asked inside most given is stops low high clear newline more = record {
  step = record {
    came = [];
    consumed = Consumes-nil left;
    counted = omega arith;
    says = says_sized _ (slice_range items start at) (slice_range items (at + 1) end) (at - start) _ _ (length-range items start at low (omega arith)) (
      subst (λ v. HasNoNewline (slice_range v start at)) is clear,
      inl (append-nil (slice_range items start end) ∙ range_at items start at end low (omega arith) inside (ap (λ v. get_or v at 0) (sym is) ∙ newline), refl),
    );
    needed = inl refl;
    within = omega (arith, length-range items (at + 1) end (omega arith) inside);
    most = most;
    at_end = λ h. cc;
    once = λ h. cc;
  };
  asks = asks_none (slice_range items start end) taken limit ended asked;
}

-- the end was told
pub step_ended : (items new : List ℕ) (start end taken limit : ℕ) (ended : Bool) (left : Option (List ℕ)) (asked : Option (List Call)) → taken + start ≤ limit + end → taken ≤ limit + 1 → (ended ≡ true → start ≡ end) → ended ≡ true
    → Cuts End (slice_range items start end) (slice_range new 0 0) (slice_range new 0 0) taken taken limit ended true left left asked asked
step_ended items new start end taken limit ended left asked given most same told =
    let at : start ≡ end = same told in
    record {
      step = record {
        came = [];
        consumed = Consumes-nil left;
        counted = omega arith;
        says = (append-nil (slice_range items start end) ∙ ap (slice_range items start) (sym at) ∙ range_none items start, refl, refl);
        needed = inl refl;
        within = omega arith;
        most = most;
        at_end = λ _. inl (told, refl);
        once = λ _. refl;
      };
      asks = asks_none (slice_range items start end) taken limit ended asked;
    }

-- the byte beyond the limit is all that waits
pub step_over : (items slice : List ℕ) (start end taken limit stop : ℕ) (ended : Bool) (left : Option (List ℕ)) (asked : Option (List Call))
    → end ≤ length items → taken ≤ limit + 1 → limit < taken → taken + start ≤ limit + end → slice ≡ items → stop ≡ end - (taken - limit)
    → HasNoNewline (slice_range slice start stop) → ended ≡ false
    → Cuts Spent (slice_range items start end) (slice_range items 0 0) (slice_range items (end - 1) end) taken taken limit ended false left left asked asked
step_over items slice start end taken limit stop ended left asked inside most over given is stops clear more =
    let at : stop ≡ end - 1 = omega arith in
    let one : length (slice_range items (end - 1) end) ≡ 1 = length-range items (end - 1) end (omega arith) inside ∙ omega arith in
    record {
      step = record {
        came = [];
        consumed = Consumes-nil left;
        counted = omega arith;
        says = (
          slice_range items start (end - 1),
          subst (λ n. HasNoNewline (slice_range items start n)) at (subst (λ v. HasNoNewline (slice_range v start stop)) is clear),
          append-nil (slice_range items start end) ∙ range_join items start (end - 1) end (omega arith) (omega arith),
          one,
          omega arith,
          refl,
        );
        needed = inl refl;
        within = omega arith;
        most = most;
        at_end = λ h. cc;
        once = λ h. cc;
      };
      asks = asks_none (slice_range items start end) taken limit ended asked;
    }

-- within the limit the search went to the end of what came
pub range_stop : (items slice : List ℕ) (end count taken limit stop : ℕ) → slice ≡ items → stop ≡ end + count - (taken + count - limit) → taken + count ≤ limit
    → HasNoNewline (slice_range slice end stop) → HasNoNewline (slice_range items end (end + count))
range_stop items slice end count taken limit stop is stops few clear =
    let at : stop ≡ end + count = omega arith in
    subst (λ n. HasNoNewline (slice_range items end n)) at (subst (λ v. HasNoNewline (slice_range v end stop)) is clear)

pub newline_there : (piece rest : List ℕ) → HasNoNewline (piece ++ 10 ∷ rest) → ⊥
newline_there [] rest h = h.0 refl
newline_there (b ∷ piece) rest h = newline_there piece rest h.1

-- more bytes are needed
pub needs_some : (items slice : List ℕ) (start end taken limit stop : ℕ) (ended : Bool)
    → taken ≤ limit → slice ≡ items → stop ≡ end - (taken - limit) → HasNoNewline (slice_range slice start stop) → ended ≡ false
    → NeedsNone (slice_range items start end) taken limit ended → ⊥
needs_some items slice start end taken limit stop ended few is stops clear more needs =
    let at : stop ≡ end = omega arith in
    let all : HasNoNewline (slice_range items start end) = subst (λ n. HasNoNewline (slice_range items start n)) at (subst (λ v. HasNoNewline (slice_range v start stop)) is clear) in
    elim needs [
      | inl e ↦ newline_there e.0 e.1 (subst HasNoNewline e.2 all)
      | inr e ↦ elim e [ inl over ↦ omega arith | inr told ↦ let no : true ≡ false = sym told ∙ more in cc ]
    ]
