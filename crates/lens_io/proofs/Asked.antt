-- What a source was asked while its lines were given.
use Rattle.std.proofs.Common.{◌≡◌, ◌≢◌, ◌≤◌, ◌+◌, ◌-◌, ◌⊎◌, ℕ, Bool, true, false, List, [], ◌∷◌, ◌++◌, length, ap, sym, subst, ◌∙◌, refl, arith, append_assoc, append-nil, length-append, inl, inr}
use Rattle.std.specs.declared.option.Option.{Option}
use Rattle.io_specs.specs.Lines.{Line, whole}
use Rattle.lens_io.specs.declared.cutting.Cut.{Cut}
use Rattle.lens_io.specs.declared.cutting.Cut.TheVariants as cut
use Rattle.lens_io.specs.Asked.{AskedAfter, AsksFor, AsksOn}
use Rattle.lens_io.specs.Calls.{Call, brought as brought_by}
use Rattle.lens_io.specs.Cutting.{AskInNeed, Asks, CutsOff, HasNoNewline, Step, is_last}
use Rattle.lens_io.proofs.Gathered.{newline_there}
use Rattle.lens_io.proofs.LineCuts.{whole_clear}
use Rattle.lens_io.proofs.Taken.{Taken, step_open}

-- each of these calls brought some bytes
abbrev pub AllCame : List Call → Type 0
AllCame [] = Unit {0}
AllCame (call ∷ calls) = (call.came ≢ []) × AllCame calls

-- These calls brought the bytes that were taken, each of them some until the end was told; when the last of them was made, the lines before the last one had been given.
pub record Asked (given : List Line) (limit : ℕ) (all : List ℕ) (ended : Bool) (calls : List Call) : Type 0 where
  pub on : AsksOn 0 limit calls
  pub brought : brought_by calls ≡ all
  pub some : ended ≡ false → AllCame calls
  pub in_time : AskedAfter (length given - 1) calls

pub Asked-nil : (limit : ℕ) → Asked [] limit [] false []
Asked-nil limit = record {
  on = tt;
  brought = refl;
  some = λ _. tt;
  in_time = λ before last e. absurd (omega (arith, ap length e, length-append before (last ∷ [])));
}

-- ---- calls after calls

brought-append : (xs ys : List Call) → brought_by (xs ++ ys) ≡ brought_by xs ++ brought_by ys
brought-append [] ys = refl
brought-append (x ∷ xs) ys = ap (λ v. x.came ++ v) (brought-append xs ys) ∙ sym (append_assoc x.came (brought_by xs) (brought_by ys))

AllCame-append : (xs ys : List Call) → AllCame xs → AllCame ys → AllCame (xs ++ ys)
AllCame-append [] ys p q = q
AllCame-append (x ∷ xs) ys p q = (p.0, AllCame-append xs ys p.1 q)

asks_on : (waiting : List ℕ) (taken limit : ℕ) (calls : List Call) → AskInNeed waiting taken limit calls → AsksOn taken limit calls
asks_on waiting taken limit [] h = tt
asks_on waiting taken limit (call ∷ calls) h = (h.1, h.2, asks_on (waiting ++ call.came) (taken + length call.came) limit calls h.3)

AsksOn-append : (waiting : List ℕ) (taken taken' limit : ℕ) (xs ys : List Call) → AsksOn taken limit xs → AllCame xs → AskInNeed waiting taken' limit ys → taken' ≡ taken + length (brought_by xs)
    → AsksOn taken limit (xs ++ ys)
AsksOn-append waiting taken taken' limit [] ys p all q is = let same : taken' ≡ taken = omega arith in subst (λ n. AsksOn n limit ys) same (asks_on waiting taken' limit ys q)
AsksOn-append waiting taken taken' limit (x ∷ xs) ys p all q is =
    (p.0, λ _. all.0, AsksOn-append waiting (taken + length x.came) taken' limit xs ys p.2 all.1 q (omega (arith, is, length-append x.came (brought_by xs))))

-- each call brought some bytes where a newline is among them
came_all : (waiting : List ℕ) (taken limit : ℕ) (calls : List Call) → AskInNeed waiting taken limit calls → (HasNoNewline (waiting ++ brought_by calls) → ⊥) → AllCame calls
came_all waiting taken limit [] h newline = tt
came_all waiting taken limit (call ∷ []) h newline =
    (λ none. newline (subst HasNoNewline (sym (ap (λ v. waiting ++ (v ++ [])) none ∙ append-nil waiting)) h.0), tt)
came_all waiting taken limit (call ∷ next ∷ calls) h newline =
    (h.2 (λ none. cc), came_all (waiting ++ call.came) (taken + length call.came) limit (next ∷ calls) h.3 (λ clear. newline (subst HasNoNewline (append_assoc waiting call.came (brought_by (next ∷ calls))) clear)))

-- what waited at the last call had no newline
last_need : (waiting : List ℕ) (taken limit : ℕ) (before : List Call) (last : Call) → AskInNeed waiting taken limit (before ++ last ∷ []) → HasNoNewline (waiting ++ brought_by before)
last_need waiting taken limit [] last h = subst HasNoNewline (sym (append-nil waiting)) h.0
last_need waiting taken limit (call ∷ before) last h =
    subst HasNoNewline (append_assoc waiting call.came (brought_by before)) (last_need (waiting ++ call.came) (taken + length call.came) limit before last h.3)

-- the last of some calls, and of calls after them, is one of those
last_of : (xs : List Call) (y : Call) (ys before : List Call) (last : Call) → xs ++ y ∷ ys ≡ before ++ last ∷ [] → (front : List Call) × (before ≡ xs ++ front) × (y ∷ ys ≡ front ++ last ∷ [])
last_of [] y ys before last e = (before, refl, e)
last_of (x ∷ xs) y ys [] last e = absurd (omega (arith, ap length e, length-append xs (y ∷ ys)))
last_of (x ∷ xs) y ys (b ∷ before) last e =
    let head : x ≡ b = cc in
    let rest : xs ++ y ∷ ys ≡ before ++ last ∷ [] = cc in
    let found = last_of xs y ys before last rest in
    (found.0, (λ i. sym head i ∷ found.1 i), found.2)

-- ---- one call of a cutter more

-- the lines before had been given when the last call was made
asked_after : (given : List Line) (pending : List ℕ) (taken limit : ℕ) (ended : Bool) (left0 left : Option (List ℕ)) (xs ys : List Call) → (t : Taken given pending taken ended left0 left) → ended ≡ false
    → Asked given limit t.all ended xs → AskInNeed pending taken limit ys → AskedAfter (length given) (xs ++ ys)
asked_after given pending taken limit ended left0 left xs [] t open_still a need = λ before last e.
    let few = a.in_time before last (sym (append-nil xs) ∙ e) in omega (arith, few)
asked_after given pending taken limit ended left0 left xs (y ∷ ys) t open_still a need = λ before last e.
    let found = last_of xs y ys before last e in
    let clear : HasNoNewline (pending ++ brought_by found.0) = last_need pending taken limit found.0 last (subst (AskInNeed pending taken limit) found.2 need) in
    let bytes : brought_by before ≡ t.front ++ (pending ++ brought_by found.0) =
    ap brought_by found.1 ∙ brought-append xs found.0 ∙ ap (λ v. v ++ brought_by found.0) (a.brought ∙ t.parts) ∙ append_assoc t.front pending (brought_by found.0) in
    let lines : whole (brought_by before) ≡ given =
    ap whole bytes ∙ t.whole_are open_still (pending ++ brought_by found.0) ∙ ap (λ v. given ++ v) (whole_clear (pending ++ brought_by found.0) clear) ∙ append-nil given in
    omega (arith, ap length lines)

cut_has_newline : (bytes piece rest : List ℕ) (ended : Bool) → CutsOff bytes piece rest ended → ended ≡ false → HasNoNewline bytes → ⊥
cut_has_newline bytes piece rest ended cuts open_still clear = elim cuts.1 [
  | inl e ↦ newline_there piece rest (subst HasNoNewline e.0 clear)
  | inr e ↦ let no : true ≡ false = sym e.2 ∙ open_still in cc
]

-- a line was found before the end, so a newline came
has_newline : (c : Cut) (pending text rest : List ℕ) (taken taken' limit : ℕ) (ended ended' : Bool) (left left' : Option (List ℕ)) → (s : Step c pending text rest taken taken' limit ended ended' left left')
    → is_last c ≡ false → ended' ≡ false → HasNoNewline (pending ++ s.came) → ⊥
has_newline cut.Line pending text rest taken taken' limit ended ended' left left' s going open_still clear = cut_has_newline (pending ++ s.came) text rest ended' s.says.1 open_still clear
has_newline cut.TooLong pending text rest taken taken' limit ended ended' left left' s going open_still clear = cut_has_newline (pending ++ s.came) s.says.0 rest ended' s.says.2 open_still clear
has_newline cut.End pending text rest taken taken' limit ended ended' left left' s going open_still clear = let no : true ≡ false = going in cc
has_newline cut.Failed pending text rest taken taken' limit ended ended' left left' s going open_still clear = let no : true ≡ false = going in cc
has_newline cut.Spent pending text rest taken taken' limit ended ended' left left' s going open_still clear = let no : true ≡ false = going in cc

going_open : (c : Cut) (pending text rest : List ℕ) (taken taken' limit : ℕ) (ended ended' : Bool) (left left' : Option (List ℕ)) → Step c pending text rest taken taken' limit ended ended' left left'
    → is_last c ≡ false → ended ≡ false
going_open c pending text rest taken taken' limit ended ended' left left' s going =
    step_open c pending text rest taken taken' limit ended ended' left left' s (λ e. let no : true ≡ false = ap is_last (sym e) ∙ going in cc)

-- The next line was given.
pub asked_line : (c : Cut) (given : List Line) (l : Line) (pending text rest : List ℕ) (taken taken' limit : ℕ) (ended ended' : Bool) (left0 left left' : Option (List ℕ)) (xs ys : List Call)
    → (t : Taken given pending taken ended left0 left) → (s : Step c pending text rest taken taken' limit ended ended' left left') → is_last c ≡ false
    → Asked given limit t.all ended xs → Asks pending taken limit ended s.came ys → Asked (given ++ l ∷ []) limit (t.all ++ s.came) ended' (xs ++ ys)
asked_line c given l pending text rest taken taken' limit ended ended' left0 left left' xs ys t s going a asks =
    let before_end : ended ≡ false = going_open c pending text rest taken taken' limit ended ended' left left' s going in
    let before : length given ≡ length (given ++ l ∷ []) - 1 = omega (arith, length-append given (l ∷ [])) in
    record {
      on = AsksOn-append pending 0 taken limit xs ys a.on (a.some before_end) asks.need (omega (arith, t.counted, ap length a.brought));
      brought = brought-append xs ys ∙ (λ i. a.brought i ++ asks.brought i);
      some = λ open_still. AllCame-append xs ys (a.some before_end)
          (came_all pending taken limit ys asks.need (λ clear. has_newline c pending text rest taken taken' limit ended ended' left left' s going open_still (subst (λ v. HasNoNewline (pending ++ v)) asks.brought clear)));
      in_time = subst (λ n. AskedAfter n (xs ++ ys)) before (asked_after given pending taken limit ended left0 left xs ys t before_end a asks.need);
    }

-- The last answer was given.
pub asked_end : (given : List Line) (pending came : List ℕ) (taken limit : ℕ) (ended : Bool) (left0 left : Option (List ℕ)) (xs ys : List Call) → (t : Taken given pending taken ended left0 left)
    → Asked given limit t.all ended xs → Asks pending taken limit ended came ys → AsksFor limit (t.all ++ came) (xs ++ ys)
asked_end given pending came taken limit true left0 left xs ys t a asks = record {
  on = subst (AsksOn 0 limit) (sym (append-nil xs) ∙ ap (λ v. xs ++ v) (sym (asks.none refl))) a.on;
  brought = brought-append xs ys ∙ (λ i. a.brought i ++ asks.brought i);
}
asked_end given pending came taken limit false left0 left xs ys t a asks = record {
  on = AsksOn-append pending 0 taken limit xs ys a.on (a.some refl) asks.need (omega (arith, t.counted, ap length a.brought));
  brought = brought-append xs ys ∙ (λ i. a.brought i ++ asks.brought i);
}
