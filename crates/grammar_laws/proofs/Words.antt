-- Words that compare as equal are equal.
use Rattle.std.proofs.Common.{◌≡◌, ℕ, true, List, [], ◌∷◌, refl, ap, ◌∙◌, eqb-true, arith, ◌&&◌, nat_eq}
use Rattle.plain_values.proofs.Common.{nat_tests, first_holds, second_holds}
use Rattle.grammar_laws.specs.Tests.{is_word}

pub same_word : (w k : List ℕ) → is_word w k ≡ true → w ≡ k
same_word [] [] e = refl
same_word [] (b ∷ k) e = cc
same_word (a ∷ w) [] e = cc
same_word (a ∷ w) (b ∷ k) e =
    let head = eqb-true a b (first_holds (nat_eq a b) (is_word w k) e) in
    let tail = same_word w k (second_holds (nat_eq a b) (is_word w k) e) in
    λ i. head i ∷ tail i

nat_itself : (n : ℕ) → nat_eq n n ≡ true
nat_itself n = grind (arith, nat_tests)

-- a word is itself
pub word_itself : (w : List ℕ) → is_word w w ≡ true
word_itself [] = refl
word_itself (b ∷ w) = ap (λ x. x && is_word w w) (nat_itself b) ∙ word_itself w
