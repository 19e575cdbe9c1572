-- Where tokens stop to begin a definition, none of a text goes further.
use Rattle.std.proofs.Common.{◌≡◌, inl, inr, ℕ, ◌+◌, List, [], ◌∷◌, ◌++◌, length, refl, sym, ap, subst, ◌∙◌, append_assoc, append-nil, arith, length-append, Some}
use Rattle.plain_values.proofs.Common.{map-append, none-some, same_Some}
use Rattle.grammar_specs.specs.Common.{Token, is_blank, Placed, tokens_in, AreBlank, Stand, IsText, GoesWrong, Begins, BeginsTooDeep, Stops, IsNestingFault}
use Rattle.grammar_specs.specs.Faults.{IsStopped}
use Rattle.grammar_laws.specs.Front.{drop_while, token_in_front}
use Rattle.grammar_laws.proofs.Longest.{dropped, token_stands}
use Rattle.grammar_laws.proofs.Stands.{stand_parts, stand_next, GoesOn, one_ahead}

-- a definition begins with these tokens of the text, and with none that goes on from them; at this offset stands what is next
pub record Halts (text : List ℕ) (front : Placed) (at : ℕ) : Type 0 where
  pub left : List ℕ
  pub stand : Stand 0 text front left
  pub place : at + length (drop_while is_blank left) ≡ length text
  pub begins : Begins (tokens_in front)
  pub last : (t : Token) (rest : List ℕ) → token_in_front (drop_while is_blank left) ≡ Some (t, rest) → Begins (tokens_in front ++ t ∷ []) → ⊥

-- ---- every end halts

halts_at_token : (text : List ℕ) (front : Placed) (at : ℕ) (token : Token) (left : List ℕ) → Stand 0 text (front ++ (at, token) ∷ []) left → IsStopped (tokens_in front) token → Halts text front at
halts_at_token text front at token left stand stopped =
    let parts = stand_parts 0 text front ((at, token) ∷ []) left stand in
    let next = stand_next parts.at parts.middle (at, token) [] left parts.second in
    record {
      left = parts.middle;
      stand = parts.first;
      place = omega (arith, parts.place, next.place);
      begins = stopped.0;
      last = λ t rest found begins. let same = same_Some (t, rest) (token, parts.second.2) (sym found ∙ next.token) in stopped.1 (subst (λ x. Begins (tokens_in front ++ x ∷ [])) (ap (λ x. x.0) same) begins);
    }

halts_at_wrong : (text : List ℕ) (front : Placed) (at : ℕ) → GoesWrong front at text → Begins (tokens_in front) → Halts text front at
halts_at_wrong text front at wrong begins =
    let rest : List ℕ = wrong.2 ∷ wrong.3 in
    let ahead : drop_while is_blank (wrong.1 ++ rest) ≡ rest = dropped is_blank wrong.1 rest wrong.7 wrong.8 in
    record {
      left = wrong.1 ++ rest;
      stand = wrong.6;
      place = omega (arith, wrong.5, ap length ahead, ap length wrong.4, length-append (wrong.0 ++ wrong.1) rest, length-append wrong.0 wrong.1);
      begins = begins;
      last = λ t more found _. let here = token_stands wrong.2 wrong.3 (t, more) (ap token_in_front (sym ahead) ∙ found) in wrong.9 t here.bytes more here.shape here.spells here.ends;
    }

pub nothing_ahead : (left : List ℕ) → AreBlank left → drop_while is_blank left ≡ []
nothing_ahead left blank = ap (drop_while is_blank) (sym (append-nil left)) ∙ dropped is_blank left [] blank tt

pub halts_at_end : (text : List ℕ) (front : Placed) → IsText front text → Begins (tokens_in front) → Halts text front (length text)
halts_at_end text front whole begins =
    let ahead = nothing_ahead whole.0 whole.2 in
    record {
      left = whole.0;
      stand = whole.1;
      place = omega (arith, ap length ahead);
      begins = begins;
      last = λ t more found _. none-some (t, more) (ap token_in_front (sym ahead) ∙ found);
    }

pub stops_halts : (text : List ℕ) (front : Placed) (at : ℕ) → Stops text front at → Halts text front at
stops_halts text front at (inl h) = halts_at_token text front at h.0 h.1 h.2 h.3
stops_halts text front at (inr (inl h)) = halts_at_wrong text front at h.0 h.1
stops_halts text front at (inr (inr h)) = subst (Halts text front) (sym h.0) (halts_at_end text front h.1 h.2.0)

-- ---- no definition goes further

pub begins_before : (xs ys : List Token) → Begins (xs ++ ys) → Begins xs
begins_before xs ys h = (h.0, ys ++ h.1, h.2, h.3 ∙ append_assoc xs ys h.1)

further : (text : List ℕ) (f g : Placed) (m : List ℕ) (at : ℕ) (h : Halts text f at) (ahead : GoesOn f h.left g m) → Begins (tokens_in g) → f ≡ g ++ []
further text f g m at h ahead begins = goes ahead.more ahead.joined ahead.stand
  where
    goes : (more : Placed) → g ≡ f ++ more → Stand ahead.at h.left more m → f ≡ g ++ []
    goes [] joined stand = sym (append-nil g ∙ joined ∙ append-nil f)
    goes (p ∷ more) joined stand =
        let next = stand_next ahead.at h.left p more m stand in
        let spelled : tokens_in g ≡ (tokens_in f ++ p.1 ∷ []) ++ tokens_in more = ap tokens_in joined ∙ map-append (λ q. q.1) f (p ∷ more) ∙ sym (append_assoc (tokens_in f) (p.1 ∷ []) (tokens_in more)) in
        absurd (h.last p.1 stand.2 next.token (begins_before (tokens_in f ++ p.1 ∷ []) (tokens_in more) (subst Begins spelled begins)))

-- what a definition begins with goes no further than where it halts
pub no_further : (text : List ℕ) (f g : Placed) (m : List ℕ) (at : ℕ) → Halts text f at → Stand 0 text g m → Begins (tokens_in g) → (more : Placed) × (f ≡ g ++ more)
no_further text f g m at h stand begins =
    elim (one_ahead 0 text f g h.left m h.stand stand) [
      | inl ahead ↦ ([], further text f g m at h ahead begins)
      | inr behind ↦ (behind.more, behind.joined)
    ]

-- tokens that are too deep stand before the halt
pub deep_before : (text : List ℕ) (front : Placed) (at : ℕ) → Halts text front at → IsNestingFault text → (xs more : List Token) × (tokens_in front ≡ xs ++ more) × BeginsTooDeep xs
deep_before text front at h (deep, left, stand, is) =
    let behind = no_further text front deep left at h stand (is.0, is.1, is.2, is.3) in
    (tokens_in deep, tokens_in behind.0, ap tokens_in behind.1 ∙ map-append (λ p. p.1) deep behind.0, is)

-- ---- a text halts at one place

nothing_more : (f more : Placed) → f ≡ f ++ more → more ≡ []
nothing_more f [] e = refl
nothing_more f (p ∷ more) e = absurd (omega (arith, ap length e, length-append f (p ∷ more)))

one_left : (f : Placed) (l m : List ℕ) → GoesOn f l f m → l ≡ m
one_left f l m ahead = goes ahead.more (nothing_more f ahead.more ahead.joined) ahead.stand
  where
    goes : (more : Placed) → more ≡ [] → Stand ahead.at l more m → l ≡ m
    goes [] e stand = stand
    goes (p ∷ more) e stand = cc

one_place : (text : List ℕ) (f : Placed) (i j : ℕ) → Halts text f i → Halts text f j → i ≡ j
one_place text f i j h k =
    let same : h.left ≡ k.left = elim (one_ahead 0 text f f h.left k.left h.stand k.stand) [ inl ahead ↦ one_left f h.left k.left ahead | inr behind ↦ sym (one_left f k.left h.left behind) ] in
    omega (arith, h.place, k.place, ap (λ x. length (drop_while is_blank x)) same)

same_front : (f g m n : Placed) → f ≡ g ++ m → g ≡ f ++ n → f ≡ g
same_front f g [] n e k = e ∙ append-nil g
same_front f g (p ∷ m) n e k = absurd (omega (arith, ap length e, ap length k, length-append g (p ∷ m), length-append f n))

-- there is one place to halt
pub one_halt : (text : List ℕ) (f g : Placed) (i j : ℕ) → Halts text f i → Halts text g j → (f ≡ g) × (i ≡ j)
one_halt text f g i j h k =
    let longer = no_further text f g k.left i h k.stand k.begins in
    let shorter = no_further text g f h.left j k h.stand h.begins in
    let same = same_front f g longer.0 shorter.0 longer.1 shorter.1 in
    (same, one_place text g i j (subst (λ x. Halts text x i) same h) k)
