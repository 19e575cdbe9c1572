-- The front of a list that passes a test.
use Rattle.std.proofs.Common.{◌≡◌, ℕ, ◌+◌, suc, Bool, true, false, cond, List, [], ◌∷◌, length, take, drop, refl, sym, ap, ◌∙◌, arith, ◌&&◌, ◌||◌, ◌==◌, nat_le, Some, None, take_while}
use Rattle.plain_values.proofs.Common.{list_all, prefix_len, take_while-cons, nat_tests, and-true, is_name_byte, is_lower}
use Rattle.grammar_specs.specs.Common.{word, is_digit}
use Rattle.grammar_laws.specs.Front.{drop_while, word_of, word_at}

-- the rest does not go on with a passing byte
abbrev pub Stops : (ℕ → Bool) → List ℕ → Type 0
Stops p [] = Unit {0}
Stops p (b ∷ rest) = p b ≡ false

pub one_more : (n : ℕ) → 1 + n ≡ suc n
one_more n = omega arith

-- what is left behind the front is what is dropped
pub drop_while_is : (p : ℕ → Bool) (xs : List ℕ) → drop_while p xs ≡ drop (prefix_len p xs) xs
drop_while_is p [] = refl
drop_while_is p (x ∷ xs) =
    elim (p x) as (λ b. cond b (drop_while p xs) (x ∷ xs) ≡ drop (cond b (1 + prefix_len p xs) 0) (x ∷ xs)) [
      | true ↦ rw (one_more (prefix_len p xs)) (drop_while_is p xs)
      | false ↦ refl
    ]

-- the front passes
pub front_passes : (p : ℕ → Bool) (xs : List ℕ) → list_all p (take_while p xs) ≡ true
front_passes p [] = refl
front_passes p (x ∷ xs) =
    rw (take_while-cons p x xs) (elim (p x) as (λ b. p x ≡ b → list_all p (cond b (x ∷ take_while p xs) []) ≡ true) [
      | true ↦ λ e. rw e (front_passes p xs)
      | false ↦ λ e. refl
    ] refl)

-- a front that begins with a passing element
pub take_front : (p : ℕ → Bool) (x : ℕ) (xs : List ℕ) → p x ≡ true → take (prefix_len p (x ∷ xs)) (x ∷ xs) ≡ x ∷ take_while p xs
take_front p x xs e = take_while-cons p x xs ∙ ap (λ b. cond b (x ∷ take_while p xs) []) e

pub drop_front : (p : ℕ → Bool) (x : ℕ) (xs : List ℕ) → p x ≡ true → drop (prefix_len p (x ∷ xs)) (x ∷ xs) ≡ drop_while p xs
drop_front p x xs e = sym (drop_while_is p (x ∷ xs)) ∙ ap (λ b. cond b (drop_while p xs) (x ∷ xs)) e

pub lower_passes : (b : ℕ) → is_lower b ≡ true → is_name_byte b ≡ true
lower_passes b e = ap (λ v. v || (nat_le 48 b && nat_le b 57)) e

some_length : (n : ℕ) → (suc n == 0) ≡ false
some_length n = grind (arith, nat_tests)

pub word_is : (b : ℕ) (w : List ℕ) → is_lower b ≡ true → list_all is_name_byte w ≡ true → word_at (b ∷ w) ≡ word_of (b ∷ w)
word_is b w e all = rw (some_length (length w), e, all) (ap (λ v. cond v (Some (word (b ∷ w))) None) (and-true (nat_le (suc (length w)) 32)))

pub not_digit : (b : ℕ) → is_digit b ≡ true → is_lower b ≡ false
not_digit b e = grind (arith, nat_tests)
