-- The lines that were given so far are the first ones of the bytes that were taken.
use Rattle.std.proofs.Common.{◌≡◌, ◌≢◌, ◌≤◌, ◌<◌, ◌+◌, ◌-◌, ℕ, Bool, true, false, List, [], ◌∷◌, ◌++◌, take, length, ap, sym, subst, ◌∙◌, refl, arith, append_assoc, append-nil, length-append, inl, inr, None, Some, IfSome}
use Rattle.std.specs.declared.option.Option.{Option}
use Rattle.std.specs.Io.KnownBytes.{Consumes, IsAtEnd}
use Rattle.std.proofs.KnownBytes.{Consumes-nil, Consumes-trans}
use Rattle.std.proofs.lemmas.List.{take_at, nil_from_length}
use Rattle.io_specs.specs.Lines.{Line, line, too_long}
use Rattle.io_specs.specs.Lines.{marked, lines, whole}
use Rattle.lens_io.specs.declared.cutting.Cut.{Cut}
use Rattle.lens_io.specs.declared.cutting.Cut.TheVariants as cut
use Rattle.lens_io.specs.Cutting.{CutsOff, IsNeeded, Step}
pub use Rattle.lens_io.specs.Taken.{Taken}
use Rattle.lens_io.specs.Taken.{ComesInTime, Run, none_yet, one_line, one_too_long}
use Rattle.lens_io.proofs.LineCuts.{lines_at, whole_at, lines-nil, lines_clear, whole_clear, marked_short, marked_long}

pub Taken-nil : (left : Option (List ℕ)) → Taken [] [] 0 false left left
Taken-nil left = record {
  all = [];
  front = [];
  consumed = Consumes-nil left;
  counted = refl;
  parts = refl;
  few = omega arith;
  in_time = ([], [], refl, omega arith, omega (arith, ap length (whole_clear [] tt)));
  lines_are = λ _ rest. refl;
  whole_are = λ _ rest. refl;
  at_end = λ h. cc;
}

pub nil_all : (left : Option (List ℕ)) → [] ≡ (Taken-nil left).all
unfolding Taken-nil
nil_all left = refl

one_longer : (given : List Line) (l : Line) (more : List Line) → given ++ l ∷ more ≡ (given ++ l ∷ []) ++ more
one_longer given l more = sym (append_assoc given (l ∷ []) more)

-- the lines were given, and these are the bytes that were taken
abbrev pub TakenOf : List Line → List ℕ → ℕ → Bool → Option (List ℕ) → Option (List ℕ) → List ℕ → Type 0
TakenOf given pending taken ended left0 left all = (t : Taken given pending taken ended left0 left) × (t.all ≡ all)

-- what came last was needed, so the lines before were given
in_time : (given : List Line) (pending came : List ℕ) (taken : ℕ) (ended : Bool) (left0 left : Option (List ℕ)) → (t : Taken given pending taken ended left0 left) → ended ≡ false → IsNeeded pending came
    → ComesInTime (length given) (t.all ++ came)
in_time given pending came taken ended left0 left t open_still needed = elim needed [
  | inl none ↦
      let last = t.in_time in
      (last.0, last.1, ap (λ v. t.all ++ v) none ∙ append-nil t.all ∙ last.2, last.3, omega (arith, last.4))
  | inr e ↦
      let parts : t.all ++ e.0 ≡ t.front ++ (pending ++ e.0) = ap (λ v. v ++ e.0) t.parts ∙ append_assoc t.front pending e.0 in
      let lines_of : whole (t.all ++ e.0) ≡ given =
      ap whole parts ∙ t.whole_are open_still (pending ++ e.0) ∙ ap (λ v. given ++ v) (whole_clear (pending ++ e.0) e.4) ∙ append-nil given in
      (t.all ++ e.0, e.1, ap (λ v. t.all ++ v) e.2 ∙ sym (append_assoc t.all e.0 e.1), e.3, omega (arith, ap length lines_of))
]

-- a line was cut off
taken_cut : (given : List Line) (pending came piece rest : List ℕ) (taken taken' : ℕ) (before ended : Bool) (left0 left left' : Option (List ℕ))
    → (t : Taken given pending taken before left0 left) → before ≡ false → Consumes left left' came → taken' ≡ taken + length came → CutsOff (pending ++ came) piece rest ended
    → IsNeeded pending came → (ended ≡ true → piece ≢ []) → (ended ≡ true → IsAtEnd left')
    → TakenOf (given ++ marked piece ∷ []) rest taken' ended left0 left' (t.all ++ came)
taken_cut given pending came piece rest taken taken' before ended left0 left left' t open_still consumed counted cuts needed some last =
    let grown : t.all ++ came ≡ t.front ++ (pending ++ came) = ap (λ v. v ++ came) t.parts ∙ append_assoc t.front pending came in
    let size : length (given ++ marked piece ∷ []) ≡ length given + 1 = length-append given (marked piece ∷ []) in
    let before_last : length given ≡ length (given ++ marked piece ∷ []) - 1 = omega arith in
    let timely : ComesInTime (length (given ++ marked piece ∷ []) - 1) (t.all ++ came) =
    subst (λ n. ComesInTime n (t.all ++ came)) before_last (in_time given pending came taken before left0 left t open_still needed) in
    elim cuts.1 [
      | inl e ↦
          let ender : List ℕ = piece ++ 10 ∷ [] in
          let on : (r : List ℕ) → (t.front ++ ender) ++ r ≡ t.front ++ (piece ++ 10 ∷ r) =
          λ r. append_assoc t.front ender r ∙ ap (λ v. t.front ++ v) (append_assoc piece (10 ∷ []) r) in (
            record {
              all = t.all ++ came;
              front = t.front ++ ender;
              consumed = Consumes-trans left0 left left' t.all came t.consumed consumed;
              counted = omega (arith, t.counted, length-append t.all came);
              parts = grown ∙ ap (λ v. t.front ++ v) e.0 ∙ sym (on rest);
              few = omega (arith, t.few, size, length-append t.front ender, length-append piece (10 ∷ []));
              in_time = timely;
              lines_are = λ _ r. ap lines (on r) ∙ t.lines_are open_still (piece ++ 10 ∷ r) ∙ ap (λ v. given ++ v) (lines_at piece r cuts.0) ∙ one_longer given (marked piece) (lines r);
              whole_are = λ _ r. ap whole (on r) ∙ t.whole_are open_still (piece ++ 10 ∷ r) ∙ ap (λ v. given ++ v) (whole_at piece r cuts.0) ∙ one_longer given (marked piece) (whole r);
              at_end = λ h. cc;
            },
            refl,
          )
      | inr e ↦
          let here : t.all ++ came ≡ t.front ++ piece = grown ∙ ap (λ v. t.front ++ v) e.0 in
          let not_none : piece ≢ [] = some e.2 in
          let long : length piece ≢ 0 = λ z. not_none (nil_from_length piece z) in (
            record {
              all = t.all ++ came;
              front = t.all ++ came;
              consumed = Consumes-trans left0 left left' t.all came t.consumed consumed;
              counted = omega (arith, t.counted, length-append t.all came);
              parts = sym (append-nil (t.all ++ came)) ∙ ap (λ v. (t.all ++ came) ++ v) (sym e.1);
              few = omega (arith, t.few, size, ap length here, length-append t.front piece);
              in_time = timely;
              lines_are = λ h. absurd (let no : true ≡ false = sym e.2 ∙ h in cc);
              whole_are = λ h. absurd (let no : true ≡ false = sym e.2 ∙ h in cc);
              at_end = λ h. (e.1, ap lines here ∙ t.lines_are open_still piece ∙ ap (λ v. given ++ v) (lines_clear piece cuts.0 not_none), last h);
            },
            refl,
          )
    ]

-- the end was not told before
pub step_open : (c : Cut) (pending text rest : List ℕ) (taken taken' limit : ℕ) (ended ended' : Bool) (left left' : Option (List ℕ))
    → Step c pending text rest taken taken' limit ended ended' left left' → c ≢ cut.End → ended ≡ false
step_open c pending text rest taken taken' limit true ended' left left' s other = absurd (other (s.once refl))
step_open c pending text rest taken taken' limit false ended' left left' s other = refl

step_last : (c : Cut) (pending text rest : List ℕ) (taken taken' limit : ℕ) (ended ended' : Bool) (left left' : Option (List ℕ))
    → Step c pending text rest taken taken' limit ended ended' left left' → ended ≡ false → ended' ≡ true → IsAtEnd left'
step_last c pending text rest taken taken' limit ended ended' left left' s before_end h = elim (s.at_end h) [ inl e ↦ absurd (let no : true ≡ false = sym e.0 ∙ before_end in cc) | inr e ↦ e ]

-- The next line was given.
pub taken_line : (given : List Line) (pending text rest : List ℕ) (taken taken' limit : ℕ) (ended ended' : Bool) (left0 left left' : Option (List ℕ))
    → (t : Taken given pending taken ended left0 left) → (s : Step cut.Line pending text rest taken taken' limit ended ended' left left')
    → TakenOf (given ++ line text ∷ []) rest taken' ended' left0 left' (t.all ++ s.came)
taken_line given pending text rest taken taken' limit ended ended' left0 left left' t s =
    let before_end : ended ≡ false = step_open cut.Line pending text rest taken taken' limit ended ended' left left' s (λ e. cc) in
    subst (λ l. TakenOf (given ++ l ∷ []) rest taken' ended' left0 left' (t.all ++ s.came)) (marked_short text s.says.0)
    (taken_cut given pending s.came text rest taken taken' ended ended' left0 left left' t before_end s.consumed s.counted s.says.1 s.needed s.says.2
    (step_last cut.Line pending text rest taken taken' limit ended ended' left left' s before_end))

pub Taken-line : (given : List Line) (pending text rest : List ℕ) (taken taken' limit : ℕ) (ended ended' : Bool) (left0 left left' : Option (List ℕ))
    → Taken given pending taken ended left0 left → Step cut.Line pending text rest taken taken' limit ended ended' left left'
    → Taken (given ++ line text ∷ []) rest taken' ended' left0 left'
Taken-line given pending text rest taken taken' limit ended ended' left0 left left' t s = (taken_line given pending text rest taken taken' limit ended ended' left0 left left' t s).0

-- The next line was too long.
pub taken_too_long : (given : List Line) (pending text rest : List ℕ) (taken taken' limit : ℕ) (ended ended' : Bool) (left0 left left' : Option (List ℕ))
    → (t : Taken given pending taken ended left0 left) → (s : Step cut.TooLong pending text rest taken taken' limit ended ended' left left')
    → TakenOf (given ++ too_long ∷ []) rest taken' ended' left0 left' (t.all ++ s.came)
taken_too_long given pending text rest taken taken' limit ended ended' left0 left left' t s =
    let before_end : ended ≡ false = step_open cut.TooLong pending text rest taken taken' limit ended ended' left left' s (λ e. cc) in
    let piece : List ℕ = s.says.0 in
    let long : 16777216 < length piece = s.says.1 in
    subst (λ l. TakenOf (given ++ l ∷ []) rest taken' ended' left0 left' (t.all ++ s.came)) (marked_long piece long)
    (taken_cut given pending s.came piece rest taken taken' ended ended' left0 left left' t before_end s.consumed s.counted s.says.2 s.needed
    (λ _ e. absurd (omega (arith, long, ap length e)))
    (step_last cut.TooLong pending text rest taken taken' limit ended ended' left left' s before_end))

pub Taken-too_long : (given : List Line) (pending text rest : List ℕ) (taken taken' limit : ℕ) (ended ended' : Bool) (left0 left left' : Option (List ℕ))
    → Taken given pending taken ended left0 left → Step cut.TooLong pending text rest taken taken' limit ended ended' left left'
    → Taken (given ++ too_long ∷ []) rest taken' ended' left0 left'
Taken-too_long given pending text rest taken taken' limit ended ended' left0 left left' t s = (taken_too_long given pending text rest taken taken' limit ended ended' left0 left left' t s).0

-- Call by call, the lines of a run are those of the bytes that it has taken.
pub Taken-run : (limit : ℕ) (given : List Line) (pending : List ℕ) (taken : ℕ) (ended : Bool) (left0 left : Option (List ℕ)) → Run limit given pending taken ended left0 left
    → Taken given pending taken ended left0 left
Taken-run limit _ _ _ _ _ _ (none_yet left) = Taken-nil left
Taken-run limit _ _ _ _ _ _ (one_line given pending text rest taken taken' ended ended' left0 left left' run step) =
    Taken-line given pending text rest taken taken' limit ended ended' left0 left left' (Taken-run limit given pending taken ended left0 left run) step
Taken-run limit _ _ _ _ _ _ (one_too_long given pending text rest taken taken' ended ended' left0 left left' run step) =
    Taken-too_long given pending text rest taken taken' limit ended ended' left0 left left' (Taken-run limit given pending taken ended left0 left run) step

-- what was taken up to the end is all that there was
all_of : (left0 left : Option (List ℕ)) (all : List ℕ) → Consumes left0 left all → IsAtEnd left → IfSome left0 (λ bytes. bytes ≡ all)
all_of None left all c e = tt
all_of (Some xs) None all c e = absurd c
all_of (Some xs) (Some ys) all c e = c ∙ ap (λ v. all ++ v) e ∙ append-nil all

pub if_some : (known : Option (List ℕ)) (P Q : List ℕ → Type 0) → ((bytes : List ℕ) → P bytes → Q bytes) → IfSome known P → IfSome known Q
if_some None P Q f h = tt
if_some (Some xs) P Q f h = f xs h

-- At the end the lines are those of the bytes that were taken.
pub Taken-ended : (given : List Line) (pending text rest : List ℕ) (taken taken' limit : ℕ) (ended ended' : Bool) (left0 left left' : Option (List ℕ))
    → Taken given pending taken ended left0 left → Step cut.End pending text rest taken taken' limit ended ended' left left'
    → (all : List ℕ) × Consumes left0 left' all × (length all ≡ taken') × (given ≡ lines all) × IsAtEnd left'
Taken-ended given pending text rest taken taken' limit true ended' left0 left left' t s =
    let none : s.came ≡ [] = nil_from_length s.came (omega (arith, ap length s.says.0, length-append pending s.came)) in (
      t.all ++ s.came,
      Consumes-trans left0 left left' t.all s.came t.consumed s.consumed,
      omega (arith, t.counted, s.counted, length-append t.all s.came),
      sym (t.at_end refl).1 ∙ ap lines (sym (append-nil t.all) ∙ ap (λ v. t.all ++ v) (sym none)),
      elim (s.at_end s.says.2) [ inl e ↦ subst IsAtEnd (sym e.1) (t.at_end refl).2 | inr e ↦ e ],
    )
Taken-ended given pending text rest taken taken' limit false ended' left0 left left' t s = (
  t.all ++ s.came,
  Consumes-trans left0 left left' t.all s.came t.consumed s.consumed,
  omega (arith, t.counted, s.counted, length-append t.all s.came),
  sym (ap lines (ap (λ v. v ++ s.came) t.parts ∙ append_assoc t.front pending s.came ∙ ap (λ v. t.front ++ v) s.says.0) ∙ t.lines_are refl [] ∙ ap (λ v. given ++ v) lines-nil ∙ append-nil given),
  step_last cut.End pending text rest taken taken' limit false ended' left left' s refl s.says.2,
)

-- these are the bytes that were taken before, and those that came
pub ended_all : (given : List Line) (pending text rest : List ℕ) (taken taken' limit : ℕ) (ended ended' : Bool) (left0 left left' : Option (List ℕ))
    → (t : Taken given pending taken ended left0 left) → (s : Step cut.End pending text rest taken taken' limit ended ended' left left')
    → (Taken-ended given pending text rest taken taken' limit ended ended' left0 left left' t s).0 ≡ t.all ++ s.came
unfolding Taken-ended
ended_all given pending text rest taken taken' limit true ended' left0 left left' t s = refl
ended_all given pending text rest taken taken' limit false ended' left0 left left' t s = refl

-- At the end they are the lines of all bytes that there were.
pub Taken-end : (given : List Line) (pending text rest : List ℕ) (taken taken' limit : ℕ) (ended ended' : Bool) (left0 left left' : Option (List ℕ))
    → Taken given pending taken ended left0 left → Step cut.End pending text rest taken taken' limit ended ended' left left'
    → IfSome left0 (λ bytes. given ≡ lines bytes)
Taken-end given pending text rest taken taken' limit ended ended' left0 left left' t s =
    let done = Taken-ended given pending text rest taken taken' limit ended ended' left0 left left' t s in
    if_some left0 (λ bytes. bytes ≡ done.0) (λ bytes. given ≡ lines bytes) (λ bytes e. done.3 ∙ ap lines (sym e)) (all_of left0 left' done.0 done.1 done.4)

-- At every moment they are the first lines of the bytes that were taken.
pub Taken-front : (given : List Line) (pending : List ℕ) (taken : ℕ) (ended : Bool) (left0 left : Option (List ℕ))
    → (t : Taken given pending taken ended left0 left) → (more : List Line) × (lines t.all ≡ given ++ more)
Taken-front given pending taken true left0 left t = ([], (t.at_end refl).1 ∙ sym (append-nil given))
Taken-front given pending taken false left0 left t = (lines pending, ap lines t.parts ∙ t.lines_are refl pending)

-- the front of the known bytes that was taken
pub front_of : (left0 left : Option (List ℕ)) (all : List ℕ) → Consumes left0 left all → IfSome left0 (λ bytes. take (length all) bytes ≡ all)
front_of None left all c = tt
front_of (Some xs) None all c = absurd c
front_of (Some xs) (Some ys) all c = ap (take (length all)) c ∙ take_at all ys (length all) refl

pub longer : (left0 left : Option (List ℕ)) (all : List ℕ) → Consumes left0 left all → IfSome left0 (λ bytes. length all ≤ length bytes)
longer None left all c = tt
longer (Some xs) None all c = absurd c
longer (Some xs) (Some ys) all c = omega (arith, ap length c, length-append all ys)

-- At a failure they are the whole lines of the bytes that were taken.
pub Taken-failed : (given : List Line) (pending text rest : List ℕ) (taken taken' limit : ℕ) (ended ended' : Bool) (left0 left left' : Option (List ℕ))
    → Taken given pending taken ended left0 left → Step cut.Failed pending text rest taken taken' limit ended ended' left left'
    → (all : List ℕ) × Consumes left0 left' all × (length all ≡ taken') × (given ≡ whole all)
Taken-failed given pending text rest taken taken' limit ended ended' left0 left left' t s =
    let before_end : ended ≡ false = step_open cut.Failed pending text rest taken taken' limit ended ended' left left' s (λ e. cc) in (
      t.all ++ s.came,
      Consumes-trans left0 left left' t.all s.came t.consumed s.consumed,
      omega (arith, t.counted, s.counted, length-append t.all s.came),
      sym (append-nil given) ∙ ap (λ v. given ++ v) (sym (whole_clear (pending ++ s.came) s.says.0)) ∙ sym (t.whole_are before_end (pending ++ s.came))
          ∙ ap whole (sym (ap (λ v. v ++ s.came) t.parts ∙ append_assoc t.front pending s.came)),
    )

-- Past the limit they are the whole lines of the first bytes up to it.
pub Taken-spent : (given : List Line) (pending text rest : List ℕ) (taken taken' limit : ℕ) (ended ended' : Bool) (left0 left left' : Option (List ℕ))
    → Taken given pending taken ended left0 left → Step cut.Spent pending text rest taken taken' limit ended ended' left left'
    → (all : List ℕ) × Consumes left0 left' all × (length all ≡ limit + 1) × (given ≡ whole (take limit all))
Taken-spent given pending text rest taken taken' limit ended ended' left0 left left' t s =
    let before_end : ended ≡ false = step_open cut.Spent pending text rest taken taken' limit ended ended' left left' s (λ e. cc) in
    let piece : List ℕ = s.says.0 in
    let size : length (t.all ++ s.came) ≡ limit + 1 = omega (arith, t.counted, s.counted, length-append t.all s.came, s.says.4) in
    let parts : t.all ++ s.came ≡ (t.front ++ piece) ++ rest =
    ap (λ v. v ++ s.came) t.parts ∙ append_assoc t.front pending s.came ∙ ap (λ v. t.front ++ v) s.says.2 ∙ sym (append_assoc t.front piece rest) in
    let few : length (t.front ++ piece) ≡ limit = omega (arith, size, ap length parts, length-append (t.front ++ piece) rest, s.says.3) in
    let first : take limit (t.all ++ s.came) ≡ t.front ++ piece = ap (take limit) parts ∙ take_at (t.front ++ piece) rest limit few in (
      t.all ++ s.came,
      Consumes-trans left0 left left' t.all s.came t.consumed s.consumed,
      size,
      sym (append-nil given) ∙ ap (λ v. given ++ v) (sym (whole_clear piece s.says.1)) ∙ sym (t.whole_are before_end piece) ∙ ap whole (sym first),
    )

pub failed_all : (given : List Line) (pending text rest : List ℕ) (taken taken' limit : ℕ) (ended ended' : Bool) (left0 left left' : Option (List ℕ))
    → (t : Taken given pending taken ended left0 left) → (s : Step cut.Failed pending text rest taken taken' limit ended ended' left left')
    → (Taken-failed given pending text rest taken taken' limit ended ended' left0 left left' t s).0 ≡ t.all ++ s.came
unfolding Taken-failed
failed_all given pending text rest taken taken' limit ended ended' left0 left left' t s = refl

pub spent_all : (given : List Line) (pending text rest : List ℕ) (taken taken' limit : ℕ) (ended ended' : Bool) (left0 left left' : Option (List ℕ))
    → (t : Taken given pending taken ended left0 left) → (s : Step cut.Spent pending text rest taken taken' limit ended ended' left left')
    → (Taken-spent given pending text rest taken taken' limit ended ended' left0 left left' t s).0 ≡ t.all ++ s.came
unfolding Taken-spent
spent_all given pending text rest taken taken' limit ended ended' left0 left left' t s = refl
