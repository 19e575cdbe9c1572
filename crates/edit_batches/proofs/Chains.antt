-- Differences that lead on from one another.
use Rattle.std.proofs.Common.{◌≡◌, ◌∙◌, ◌≤◌, ◌<◌, List, [], ◌∷◌, ◌++◌, map, length, slice_index_or, IfOk, ap, sym, subst, refl, arith, Result, Ok, Err}
use Rattle.plain_values.proofs.Common.{map-append}
use Rattle.lens_specs.specs.Common.{TableDelta, Tables, LeadTo, composed}
use Rattle.edit_batches.specs.Chains.{Chain}
use Rattle.edit_batches.proofs.Moves.{composed_lead}

-- the first of them lead to tables from which the others lead on
split_chain : (xs ys : List (List TableDelta)) (a c : Tables) → Chain (xs ++ ys) a c → (b : Tables) × Chain xs a b × Chain ys b c
split_chain [] ys a c chain = (a, refl, chain)
split_chain (cs ∷ xs) ys a c chain =
    let rest = split_chain xs ys chain.0 c chain.2 in
    (rest.0, (chain.0, chain.1, rest.1), rest.2)

-- one difference, with nothing after it
pub one_leads : (ds : List TableDelta) (a c : Tables) → Chain (ds ∷ []) a c → LeadTo (composed ds []) a c
one_leads ds a c chain = composed_lead ds [] a chain.0 c chain.1 (tt, chain.2)

-- what is composed of both halves
pub halves_lead : {E : Type 0} (f : E → List TableDelta) (entries front back : List E) (ds es : List TableDelta) → front ++ back ≡ entries
    → ((a c : Tables) → Chain (map f front) a c → LeadTo ds a c) → ((a c : Tables) → Chain (map f back) a c → LeadTo es a c)
    → (a c : Tables) → Chain (map f entries) a c → LeadTo (composed ds es) a c
halves_lead f entries front back ds es parts first second a c chain =
    let w = split_chain (map f front) (map f back) a c (subst (λ l. Chain l a c) (ap (map f) (sym parts) ∙ map-append f front back) chain) in
    composed_lead ds es a w.0 c (first a w.0 w.1) (second w.0 c w.2)

-- what follows of what is answered
pub if_ok : {A E : Type 0} (P Q : A → Type 0) (r : Result A E) → ((x : A) → P x → Q x) → IfOk r P → IfOk r Q
if_ok P Q (Ok x) f h = f x h
if_ok P Q (Err e) f h = tt

-- a list of one is that one
pub one_of : {A : Type 0} (xs : List A) (x : A) → 1 ≤ length xs → length xs < 2 → x ≡ slice_index_or xs 0 x → xs ≡ x ∷ []
one_of [] x some few is = absurd (omega arith)
one_of (y ∷ []) x some few is = ap (λ z. z ∷ []) (sym is)
one_of (y ∷ z ∷ zs) x some few is = absurd (omega arith)

-- one difference after another, with nothing after them
pub two_lead : (ds es : List TableDelta) (a c : Tables) → Chain (ds ∷ es ∷ []) a c → LeadTo (composed ds es) a c
two_lead ds es a c chain = composed_lead ds es a chain.0 c chain.1 (subst (LeadTo es chain.0) chain.2.2 chain.2.1)

-- a list of two is these two
pub two_of : {A : Type 0} (xs : List A) (x y : A) → 2 ≤ length xs → length xs < 3 → x ≡ slice_index_or xs 0 x → y ≡ slice_index_or xs 1 y → xs ≡ x ∷ y ∷ []
two_of [] x y some few is next = absurd (omega arith)
two_of (z ∷ []) x y some few is next = absurd (omega arith)
two_of (z ∷ w ∷ []) x y some few is next = λ i. sym is i ∷ sym next i ∷ []
two_of (z ∷ w ∷ v ∷ xs) x y some few is next = absurd (omega arith)
