-- Texts that need no escape.
use Rattle.std.proofs.Common.{◌≡◌, ◌==◌, ℕ, true, List, [], ◌∷◌, ◌++◌, IsTrue, refl, arith}
use Rattle.plain_values.proofs.Common.{list_all, and_parts, or_parts, not-true, eqb-false, ltb-false, nat_tests, is_name, is_name_byte}
use Rattle.json.specs.Print.{escape, escape_byte}
use Rattle.json.specs.Run.{is_plain, is_stop}
use Rattle.json.proofs.Printed.Strings.{escape_byte_plain}

plain_byte : (x : ℕ) → is_plain x ≡ true → escape_byte x ≡ x ∷ []
plain_byte x h =
    let none = or_parts _ _ (not-true (is_stop x) h) in
    let tests = or_parts (x == 34) _ none.0 in
    escape_byte_plain x (eqb-false x 34 tests.0) (eqb-false x 92 tests.1) (ltb-false x 32 none.1)

-- each byte stands for itself
pub escape_plain : (s : List ℕ) → list_all is_plain s ≡ true → escape s ≡ s
escape_plain [] h = refl
escape_plain (x ∷ xs) h = let parts = and_parts (is_plain x) (list_all is_plain xs) h in λ i. plain_byte x parts.0 i ++ escape_plain xs parts.1 i

name_byte_plain : (x : ℕ) → is_name_byte x ≡ true → is_plain x ≡ true
name_byte_plain x h = grind (arith, nat_tests)

name_bytes_plain : (s : List ℕ) → list_all is_name_byte s ≡ true → list_all is_plain s ≡ true
name_bytes_plain [] h = refl
name_bytes_plain (x ∷ xs) h = let parts = and_parts (is_name_byte x) (list_all is_name_byte xs) h in rw (name_byte_plain x parts.0) (name_bytes_plain xs parts.1)

pub escape_name : (s : List ℕ) → IsTrue (is_name s) → escape s ≡ s
escape_name s h = escape_plain s (name_bytes_plain s (and_parts _ _ (and_parts _ _ h).1).1)
