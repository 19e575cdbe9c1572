-- Cutting a text and reading its tokens alone gives the answer of the text, and there is no other.
use Rattle.std.proofs.Common.{◌≡◌, inl, inr, ℕ, zero, suc, true, false, cond, ◌+◌, ◌-◌, ◌^◌, ◌<◌, ◌≤◌, List, [], ◌∷◌, ◌++◌, length, refl, sym, ap, subst, ◌∙◌, append_assoc, append-nil, arith, length-append, Option, Some, None, Ok, Err, unwrap_or, take_while}
use Rattle.grammar_specs.specs.Common.{Token, is_blank, Placed, tokens_in, AreBlank, Stand, IsText, GoesWrong, Written, Definition, meaning, max_nesting, too_large, columns, predicate, has_few_columns, has_few_nodes, IsNestingFault, IsSyntaxFault, SaysFlat, Answers}
use Rattle.grammar_laws.specs.Front.{drop_while, token_at}
use Rattle.grammar_laws.specs.Steps.{Outcome, read, stopped, too_deep}
use Rattle.grammar_laws.specs.DefRules.{alone}
use Rattle.grammar_laws.specs.Reading.{Cut, with_first, cut_within, limited, next_offset, answer, cut, reading_within, reading}
use Rattle.grammar_laws.specs.Laws.{ReadingAnswers, AnswersAreRead}
use Rattle.grammar_laws.proofs.FrontLists.{front_passes}
use Rattle.grammar_laws.proofs.FrontTokens.{spelled_some, no_token}
use Rattle.grammar_laws.proofs.FrontLists as lists
use Rattle.grammar_laws.proofs.Longest.{parted, stops, token_stands}
use Rattle.grammar_laws.proofs.Stands.{stand_more, stand_before, stand_parts}
use Rattle.grammar_laws.proofs.Halts.{halts_at_end, deep_before}
use Rattle.grammar_laws.proofs.OneAnswer.{one_answer}
use Rattle.grammar_laws.proofs.DefAnswers as tokens
use Rattle.grammar_laws.proofs.DefAnswers.{Spelled, StopsBefore}

-- ---- the tokens of a text

-- what is left before blanks is no shorter than behind them
blanks_off : (left : List ℕ) → length (drop_while is_blank left) ≤ length left
blanks_off left = omega (arith, ap length (parted is_blank left), length-append (take_while is_blank left) (drop_while is_blank left))

left_within : (text left : List ℕ) (front : Placed) → Stand 0 text front left → length left ≤ length text
left_within text left front stand = let before = stand_before 0 text left front stand in omega (arith, ap length before.1, length-append before.0 left)

-- the token with those before it, from this offset
record Taken (text : List ℕ) (front : Placed) (ahead : List ℕ) (f : Token × List ℕ) : Type 0 where
  stand : Stand 0 text (front ++ (length text - length ahead, f.0) ∷ []) f.1
  shorter : length f.1 < length ahead

taken : (text left : List ℕ) (front : Placed) (b : ℕ) (rest : List ℕ) (f : Token × List ℕ) → Stand 0 text front left → drop_while is_blank left ≡ b ∷ rest → token_at b rest ≡ Some f → Taken text front (b ∷ rest) f
taken text left front b rest f stand ahead found =
    let here = token_stands b rest f found in
    let blanks : List ℕ = take_while is_blank left in
    let split : left ≡ blanks ++ (b ∷ rest) = parted is_blank left ∙ ap (λ x. blanks ++ x) ahead in
    let size : length (b ∷ rest) ≡ length here.bytes + length f.1 = ap length here.shape ∙ length-append here.bytes f.1 in
    let within : length (b ∷ rest) ≤ length text = omega (arith, left_within text left front stand, ap length split, length-append blanks (b ∷ rest)) in
    record {
      stand = stand_more 0 text left front (length text - length (b ∷ rest)) f.0 blanks here.bytes f.1 stand
          (split ∙ ap (λ x. blanks ++ x) here.shape ∙ sym (append_assoc blanks here.bytes f.1)) (front_passes is_blank left) here.spells here.ends (omega (arith, size, within));
      shorter = omega (arith, size, spelled_some f.0 here.bytes here.spells);
    }

all_blank : (left : List ℕ) → drop_while is_blank left ≡ [] → AreBlank left
all_blank left e = subst AreBlank (sym (parted is_blank left ∙ ap (λ x. take_while is_blank left ++ x) e ∙ append-nil (take_while is_blank left))) (front_passes is_blank left)

-- the text ends there, or something at this offset is no token
abbrev Ends : List ℕ → Placed → List ℕ → Option ℕ → Type 0
Ends text front left None = AreBlank left
Ends text front left (Some at) = GoesWrong front at text

record CutOf (text : List ℕ) (front : Placed) (c : Cut) : Type 0 where
  left : List ℕ
  stand : Stand 0 text (front ++ c.0) left
  ends : Ends text (front ++ c.0) left c.1

-- what stands in front with nothing behind it
cut_here : (text left : List ℕ) (front : Placed) (wrong : Option ℕ) → Stand 0 text front left → Ends text front left wrong → CutOf text front ([], wrong)
cut_here text left front wrong stand ends =
    record { left = left; stand = subst (λ x. Stand 0 text x left) (sym (append-nil front)) stand; ends = subst (λ x. Ends text x left wrong) (sym (append-nil front)) ends }

wrong_at : (text left : List ℕ) (front : Placed) (b : ℕ) (rest : List ℕ) → Stand 0 text front left → drop_while is_blank left ≡ b ∷ rest → token_at b rest ≡ None → GoesWrong front (length text - suc (length rest)) text
wrong_at text left front b rest stand ahead none =
    let before = stand_before 0 text left front stand in
    let blanks : List ℕ = take_while is_blank left in
    let split : left ≡ blanks ++ b ∷ rest = parted is_blank left ∙ ap (λ x. blanks ++ x) ahead in (
      before.0,
      blanks,
      b,
      rest,
      before.1 ∙ ap (λ x. before.0 ++ x) split ∙ sym (append_assoc before.0 blanks (b ∷ rest)),
      omega (arith, ap length before.1, length-append before.0 left, ap length split, length-append blanks (b ∷ rest)),
      subst (Stand 0 text front) split stand,
      front_passes is_blank left,
      subst (lists.Stops is_blank) ahead (stops is_blank left),
      no_token (b ∷ rest) (sym none),
    )

-- cutting with so many turns
abbrev Cuts : ℕ → List ℕ → Type 0
Cuts turns text = (left : List ℕ) (front : Placed) → length left < turns → Stand 0 text front left → CutOf text front (cut_within turns (length text) left)

cut_token : (turns : ℕ) (text left : List ℕ) (front : Placed) (b : ℕ) (rest : List ℕ) → Cuts turns text → length left < suc turns → Stand 0 text front left → drop_while is_blank left ≡ b ∷ rest → (o : Option (Token × List ℕ)) → token_at b rest ≡ o
    → CutOf text front (elim o [ None ↦ ([], Some (length text - suc (length rest))) | Some f ↦ with_first (length text - suc (length rest), f.0) (cut_within turns (length text) f.1) ])
cut_token turns text left front b rest again enough stand ahead None none = cut_here text left front (Some (length text - suc (length rest))) stand (wrong_at text left front b rest stand ahead none)
cut_token turns text left front b rest again enough stand ahead (Some f) found =
    let p : ℕ × Token = (length text - suc (length rest), f.0) in
    let k = taken text left front b rest f stand ahead found in
    let c = again f.1 (front ++ p ∷ []) (omega (arith, enough, k.shorter, blanks_off left, ap length ahead)) k.stand in
    let others : Cut = cut_within turns (length text) f.1 in
    let same : (front ++ p ∷ []) ++ others.0 ≡ front ++ p ∷ others.0 = append_assoc front (p ∷ []) others.0 in
    record { left = c.left; stand = subst (λ x. Stand 0 text x c.left) same c.stand; ends = subst (λ x. Ends text x c.left others.1) same c.ends }

cut_next : (turns : ℕ) (text left : List ℕ) (front : Placed) → Cuts turns text → length left < suc turns → Stand 0 text front left → (ahead : List ℕ) → drop_while is_blank left ≡ ahead
    → CutOf text front (elim ahead [
      | [] ↦ ([], None)
      | b ∷ rest ↦ elim (token_at b rest) [ None ↦ ([], Some (length text - suc (length rest))) | Some f ↦ with_first (length text - suc (length rest), f.0) (cut_within turns (length text) f.1) ]
    ])
cut_next turns text left front again enough stand [] shape = cut_here text left front None stand (all_blank left shape)
cut_next turns text left front again enough stand (b ∷ rest) shape = cut_token turns text left front b rest again enough stand shape (token_at b rest) refl

cuts : (turns : ℕ) (text : List ℕ) → Cuts turns text
cuts zero text left front enough stand = absurd (omega arith)
cuts (suc turns) text left front enough stand = cut_next turns text left front (cuts turns text) enough stand (drop_while is_blank left) refl

-- there are no more tokens than bytes
stand_long : (k : ℕ) (bytes : List ℕ) (ps : Placed) (left : List ℕ) → Stand k bytes ps left → length ps ≤ length bytes
stand_long k bytes [] left stand = omega arith
stand_long k bytes (p ∷ ps) left stand =
    omega (arith, stand_long (k + length stand.0 + length stand.1) stand.2 ps left stand.8, ap length stand.3, length-append stand.0 stand.1, length-append (stand.0 ++ stand.1) stand.2, spelled_some p.1 stand.1 stand.6)

-- ---- the answer

limited_answers : (text : List ℕ) (d : Definition) → SaysFlat text d → Answers text (limited d)
limited_answers text d says =
    elim (has_few_columns d) as (λ v. has_few_columns d ≡ v → Answers text (cond v (cond (has_few_nodes d) (Ok d) (Err (too_large predicate))) (Err (too_large columns)))) [
      | true ↦ λ few. elim (has_few_nodes d) as (λ v. has_few_nodes d ≡ v → Answers text (cond v (Ok d) (Err (too_large predicate)))) [ true ↦ λ small. (says, few, small) | false ↦ λ large. (d, says, few, large) ] refl
      | false ↦ λ many. (d, says, many)
    ] refl

no_nesting_fault : (text left : List ℕ) (ps : Placed) (w : Written) → Stand 0 text ps left → AreBlank left → Spelled ps w → IsNestingFault text → ⊥
no_nesting_fault text left ps w stand blank r fault =
    let d = deep_before text ps (length text) (halts_at_end text ps (left, stand, blank) (w, [], r.good, r.spelled ∙ sym (append-nil (tokens_in ps)))) fault in
    r.flat d.0 d.1 d.2 d.3

module _ (text : List ℕ) (ps : Placed) (left : List ℕ) (stand : Stand 0 text ps left) where
  read_answers : (w : Written) (rest : Placed) (wrong : Option ℕ) → Ends text ps left wrong → Spelled ps w → Answers text (answer (read w rest) wrong (length text))
  read_answers w rest None ends r = limited_answers text (meaning w) ((w, (r.good, ps, sym r.spelled, (left, stand, ends)), refl), no_nesting_fault text left ps w stand ends r)
  read_answers w rest (Some at) ends r =
      (ps, inr (inl (ends, (w, [], r.good, r.spelled ∙ sym (append-nil (tokens_in ps))))), λ deep. r.flat (tokens_in ps) [] (sym (append-nil (tokens_in ps))) deep)

  stopped_answers : (rest : Placed) (wrong : Option ℕ) → Ends text ps left wrong → StopsBefore ps rest → IsSyntaxFault text (next_offset rest (unwrap_or wrong (length text)))
  stopped_answers [] None ends h =
      let whole : h.front ≡ ps = sym (h.split ∙ append-nil h.front) in (
        h.front,
        inr (inr (refl, subst (λ x. IsText x text) (sym whole) (left, stand, ends), (h.begins, λ w good spelled. h.last w [] good (spelled ∙ sym (append-nil (tokens_in h.front))) refl))),
        λ deep. h.flat (tokens_in h.front) [] (sym (append-nil (tokens_in h.front))) deep,
      )
  stopped_answers [] (Some at) ends h =
      let whole : h.front ≡ ps = sym (h.split ∙ append-nil h.front) in
      (h.front, inr (inl (subst (λ x. GoesWrong x at text) (sym whole) ends, h.begins)), λ deep. h.flat (tokens_in h.front) [] (sym (append-nil (tokens_in h.front))) deep)
  stopped_answers (p ∷ rest) wrong ends h =
      let split : ps ≡ (h.front ++ p ∷ []) ++ rest = h.split ∙ sym (append_assoc h.front (p ∷ []) rest) in
      let parts = stand_parts 0 text (h.front ++ p ∷ []) rest left (subst (λ x. Stand 0 text x left) split stand) in (
        h.front,
        inl (p.1, parts.middle, parts.first, (h.begins, λ begins. h.last begins.0 (p.1 ∷ begins.1) begins.2 (begins.3 ∙ append_assoc (tokens_in h.front) (p.1 ∷ []) begins.1) refl)),
        λ deep. h.flat (tokens_in h.front) [] (sym (append-nil (tokens_in h.front))) deep,
      )

  by_outcome : (n : ℕ) → 0 + n ≡ max_nesting → length ps < 2 ^ 64 → (wrong : Option ℕ) → Ends text ps left wrong → (o : Outcome Written) → alone n ps ≡ o → Answers text (answer o wrong (length text))
  by_outcome n e few wrong ends (read w rest) is = read_answers w rest wrong ends (tokens.reads n e ps w rest few is)
  by_outcome n e few wrong ends (stopped rest) is = stopped_answers rest wrong ends (tokens.stops n e ps rest few is)
  by_outcome n e few wrong ends too_deep is =
      let deep = tokens.goes_deep n e ps few is in
      let parts = stand_parts 0 text deep.0 deep.1 left (subst (λ x. Stand 0 text x left) deep.2 stand) in
      (deep.0, parts.middle, parts.first, deep.3)

within_answers : (n : ℕ) → 0 + n ≡ max_nesting → (text : List ℕ) → length text < 2 ^ 64 → Answers text (reading_within n text)
within_answers n e text short =
    let c = cuts (suc (length text)) text text [] (omega arith) refl in
    by_outcome text (cut text).0 c.left c.stand n e (omega (arith, short, stand_long 0 text (cut text).0 c.left c.stand)) (cut text).1 c.ends (alone n (cut text).0) refl

-- ---- the laws

-- reading a text gives the text's answer
pub reading_answers : ReadingAnswers
reading_answers text h = within_answers max_nesting refl text h

-- a text has no other answer
pub answers_are_read : AnswersAreRead
answers_are_read text answer h is = one_answer max_nesting refl text answer (reading text) is (reading_answers text h)
