-- Tokens that stand one after another in a text: there is one way to go on.
use Rattle.plain_values.proofs.Common.{nat_tests, same_Some, none-some}
use Rattle.std.proofs.Common.{◌≡◌, ◌⊎◌, inl, inr, ℕ, ◌+◌, true, false, List, [], ◌∷◌, ◌++◌, length, refl, sym, ap, subst, ◌∙◌, append_assoc, arith, length-append, Some, None}
use Rattle.grammar_specs.specs.Common.{Token, Spells, Ends, is_blank, Placed, AreBlank, Stand}
use Rattle.grammar_laws.specs.Front.{drop_while, token_at, token_in_front}
use Rattle.grammar_laws.proofs.Longest.{dropped, token_front}

-- ---- no token begins with a blank

blank_none : (b : ℕ) (rest : List ℕ) → is_blank b ≡ true → token_at b rest ≡ None
blank_none b [] e = grind (arith, nat_tests)
blank_none b (c ∷ rest) e = grind (arith, nat_tests)

found_visible : (b : ℕ) (rest : List ℕ) (f : Token × List ℕ) → token_at b rest ≡ Some f → is_blank b ≡ false
found_visible b rest f e = elim (is_blank b) as (λ v. is_blank b ≡ v → v ≡ false) [ true ↦ λ is. absurd (none-some f (sym (blank_none b rest is) ∙ e)) | false ↦ λ _. refl ] refl

-- behind the blanks the token is in front
pub behind_blanks : (t : Token) (blanks spelling rest : List ℕ) → AreBlank blanks → Spells t spelling → Ends t rest
    → (drop_while is_blank (blanks ++ spelling ++ rest) ≡ spelling ++ rest) × (token_in_front (spelling ++ rest) ≡ Some (t, rest))
behind_blanks t blanks spelling rest blank spells ends =
    let found = token_front t spelling rest spells ends in
    let shape : spelling ++ rest ≡ found.0 ∷ (found.1 ++ rest) = ap (λ x. x ++ rest) found.2 in (
      ap (drop_while is_blank) (append_assoc blanks spelling rest ∙ ap (λ x. blanks ++ x) shape)
          ∙ dropped is_blank blanks (found.0 ∷ (found.1 ++ rest)) blank (found_visible found.0 (found.1 ++ rest) (t, rest) found.3) ∙ sym shape,
      ap token_in_front shape ∙ found.3,
    )

-- ---- one token after another

-- one token more
pub stand_more : (k : ℕ) (bytes left : List ℕ) (front : Placed) (at : ℕ) (t : Token) (blanks spelling rest : List ℕ) → Stand k bytes front left → left ≡ blanks ++ spelling ++ rest → AreBlank blanks
    → Spells t spelling → Ends t rest → at + length spelling + length rest ≡ k + length bytes → Stand k bytes (front ++ (at, t) ∷ []) rest
stand_more k bytes left [] at t blanks spelling rest stand e blank spells ends total = (
  blanks,
  spelling,
  rest,
  stand ∙ e,
  blank,
  omega (arith, total, ap length (stand ∙ e), length-append (blanks ++ spelling) rest, length-append blanks spelling),
  spells,
  ends,
  refl,
)
stand_more k bytes left (p ∷ front) at t blanks spelling rest stand e blank spells ends total = (
  stand.0,
  stand.1,
  stand.2,
  stand.3,
  stand.4,
  stand.5,
  stand.6,
  stand.7,
  stand_more (k + length stand.0 + length stand.1) stand.2 left front at t blanks spelling rest stand.8 e blank spells ends
      (omega (arith, total, ap length stand.3, length-append (stand.0 ++ stand.1) stand.2, length-append stand.0 stand.1)),
)

-- what stands before what is left
pub stand_before : (k : ℕ) (bytes left : List ℕ) (front : Placed) → Stand k bytes front left → (before : List ℕ) × (bytes ≡ before ++ left)
stand_before k bytes left [] stand = ([], stand)
stand_before k bytes left (p ∷ front) stand =
    let rest = stand_before (k + length stand.0 + length stand.1) stand.2 left front stand.8 in
    (stand.0 ++ stand.1 ++ rest.0, stand.3 ∙ ap (λ x. (stand.0 ++ stand.1) ++ x) rest.1 ∙ sym (append_assoc (stand.0 ++ stand.1) rest.0 left))

-- the first tokens, and the others behind them
pub record Parts (k : ℕ) (bytes : List ℕ) (front more : Placed) (left : List ℕ) : Type 0 where
  pub at : ℕ
  pub middle : List ℕ
  pub first : Stand k bytes front middle
  pub second : Stand at middle more left
  pub place : at + length middle ≡ k + length bytes

pub stand_parts : (k : ℕ) (bytes : List ℕ) (front more : Placed) (left : List ℕ) → Stand k bytes (front ++ more) left → Parts k bytes front more left
stand_parts k bytes [] more left stand = record { at = k; middle = bytes; first = refl; second = stand; place = refl }
stand_parts k bytes (p ∷ front) more left stand =
    let rest = stand_parts (k + length stand.0 + length stand.1) stand.2 front more left stand.8 in
    record {
      at = rest.at;
      middle = rest.middle;
      first = (stand.0, stand.1, stand.2, stand.3, stand.4, stand.5, stand.6, stand.7, rest.first);
      second = rest.second;
      place = rest.place ∙ omega (arith, ap length stand.3, length-append (stand.0 ++ stand.1) stand.2, length-append stand.0 stand.1);
    }

-- ---- the next token

-- the token is the next one, and this is left behind it
pub record Next (k : ℕ) (bytes : List ℕ) (p : ℕ × Token) (rest : List ℕ) : Type 0 where
  pub token : token_in_front (drop_while is_blank bytes) ≡ Some (p.1, rest)
  pub place : p.0 + length (drop_while is_blank bytes) ≡ k + length bytes

pub stand_next : (k : ℕ) (bytes : List ℕ) (p : ℕ × Token) (more : Placed) (left : List ℕ) (stand : Stand k bytes (p ∷ more) left) → Next k bytes p stand.2
stand_next k bytes p more left stand =
    let visible = behind_blanks p.1 stand.0 stand.1 stand.2 stand.4 stand.6 stand.7 in
    let ahead : drop_while is_blank bytes ≡ stand.1 ++ stand.2 = ap (drop_while is_blank) stand.3 ∙ visible.0 in
    record {
      token = ap token_in_front ahead ∙ visible.1;
      place = omega (arith, stand.5, ap length ahead, ap length stand.3, length-append stand.1 stand.2, length-append (stand.0 ++ stand.1) stand.2, length-append stand.0 stand.1);
    }

-- there is one next token
one_next : (k : ℕ) (bytes : List ℕ) (p q : ℕ × Token) (rest left : List ℕ) → Next k bytes p rest → Next k bytes q left → (p ≡ q) × (rest ≡ left)
one_next k bytes p q rest left n m =
    let same = same_Some (p.1, rest) (q.1, left) (sym n.token ∙ m.token) in
    let at : p.0 ≡ q.0 = omega (arith, n.place, m.place) in
    (λ i. (at i, (same i).0), λ i. (same i).1)

-- ---- one front goes on from the other

-- the tokens of the second are those of the first, and more
pub record GoesOn (front : Placed) (left : List ℕ) (longer : Placed) (rest : List ℕ) : Type 0 where
  pub more : Placed
  pub joined : longer ≡ front ++ more
  pub at : ℕ
  pub stand : Stand at left more rest

go_on : (p : ℕ × Token) (f g : Placed) (l m : List ℕ) → GoesOn f l g m → GoesOn (p ∷ f) l (p ∷ g) m
go_on p f g l m h = record { more = h.more; joined = ap (λ x. p ∷ x) h.joined; at = h.at; stand = h.stand }

-- of two fronts of a text one goes on from the other
pub one_ahead : (k : ℕ) (bytes : List ℕ) (f g : Placed) (l m : List ℕ) → Stand k bytes f l → Stand k bytes g m → GoesOn f l g m ⊎ GoesOn g m f l
one_ahead k bytes [] g l m s t = let P : List ℕ → Type 0 = λ x. Stand k x g m in inl (record { more = g; joined = refl; at = k; stand = subst P s t })
one_ahead k bytes (p ∷ f) [] l m s t = let P : List ℕ → Type 0 = λ x. Stand k x (p ∷ f) l in inr (record { more = p ∷ f; joined = refl; at = k; stand = subst P t s })
one_ahead k bytes (p ∷ f) (q ∷ g) l m s t =
    let same = one_next k bytes p q s.2 t.2 (stand_next k bytes p f l s) (stand_next k bytes q g m t) in
    let behind : k + length t.0 + length t.1 ≡ k + length s.0 + length s.1 =
    omega (arith, ap length same.1, ap length s.3, ap length t.3, length-append (s.0 ++ s.1) s.2, length-append s.0 s.1, length-append (t.0 ++ t.1) t.2, length-append t.0 t.1) in
    let P : ℕ → Type 0 = λ x. Stand x t.2 g m in
    let Q : List ℕ → Type 0 = λ x. Stand (k + length s.0 + length s.1) x g m in
    let R : ℕ × Token → Type 0 = λ x. GoesOn (p ∷ f) l (x ∷ g) m ⊎ GoesOn (x ∷ g) m (p ∷ f) l in
    subst R same.0 (elim (one_ahead (k + length s.0 + length s.1) s.2 f g l m s.8 (subst Q (sym same.1) (subst P behind t.8))) [
      | inl h ↦ inl (go_on p f g l m h)
      | inr h ↦ inr (go_on p g f m l h)
    ])
