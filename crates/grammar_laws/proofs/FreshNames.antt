-- A name that is none of the names in a list.
use Rattle.std.proofs.Common.{◌≡◌, ℕ, zero, suc, ◌+◌, ◌*◌, ◌^◌, ◌<◌, ◌≤◌, Bool, true, false, cond, List, [], ◌∷◌, length, refl, ap, ◌∙◌, arith, ◌&&◌, ◌||◌, ◌==◌, nat_lt}
use Rattle.plain_values.proofs.Common.{list_any, list_all, nat_tests, is_name_byte}
use Rattle.lens_specs.specs.Common.{Name}
use Rattle.grammar_specs.specs.Common.{is_free_name}
use Rattle.grammar_laws.specs.Tests.{is_word}

-- what follows this byte in the names that begin with it
after : ℕ → List (List ℕ) → List (List ℕ)
after b [] = []
after b ([] ∷ ns) = after b ns
after b ((c ∷ n) ∷ ns) = cond (c == b) (n ∷ after b ns) (after b ns)

-- how many names of a length there are, of four letters
room : ℕ → ℕ
room zero = 1
room (suc k) = 4 * room k

-- the first of the letters "q", "x", "y" and "z" with which fewer than so many of the names begin; no reserved word begins with one of them
rare : ℕ → List (List ℕ) → ℕ
rare m ns = cond (nat_lt (length (after 113 ns)) m) 113 (cond (nat_lt (length (after 120 ns)) m) 120 (cond (nat_lt (length (after 121 ns)) m) 121 122))

-- a name of this length, each time with a letter that few of the names have there
fresh : ℕ → List (List ℕ) → List ℕ
fresh zero ns = []
fresh (suc k) ns = rare (room k) ns ∷ fresh k (after (rare (room k) ns) ns)

-- ---- how many names begin with each letter

fewer : (ns : List (List ℕ)) → length (after 113 ns) + length (after 120 ns) + length (after 121 ns) + length (after 122 ns) ≤ length ns
unfolding after
fewer [] = omega arith
fewer ([] ∷ ns) = omega (arith, fewer ns)
fewer ((c ∷ n) ∷ ns) = let others = fewer ns in grind (arith, nat_tests)

rare_few : (m : ℕ) (ns : List (List ℕ)) → length ns < 4 * m → length (after (rare m ns) ns) < m
unfolding rare
rare_few m ns h = let all = fewer ns in grind (arith, nat_tests)

-- it is one of the four
a_letter : (P : ℕ → Type 0) (m : ℕ) (ns : List (List ℕ)) → P 113 → P 120 → P 121 → P 122 → P (rare m ns)
unfolding rare
a_letter P m ns q x y z = one_of (nat_lt (length (after 113 ns)) m) (nat_lt (length (after 120 ns)) m) (nat_lt (length (after 121 ns)) m)
  where
    one_of : (u v w : Bool) → P (cond u 113 (cond v 120 (cond w 121 122)))
    one_of true v w = q
    one_of false true w = x
    one_of false false true = y
    one_of false false false = z

-- behind its first byte a name is sought behind that byte
sought_behind : (b : ℕ) (n : List ℕ) (ns : List (List ℕ)) → list_any (λ m. is_word m (b ∷ n)) ns ≡ list_any (λ m. is_word m n) (after b ns)
unfolding after
sought_behind b n [] = refl
sought_behind b n ([] ∷ ns) = sought_behind b n ns
sought_behind b n ((c ∷ m) ∷ ns) = split (c == b) (sought_behind b n ns)
  where
    split : (v : Bool) → list_any (λ m. is_word m (b ∷ n)) ns ≡ list_any (λ m. is_word m n) (after b ns) → (v && is_word m n || list_any (λ m. is_word m (b ∷ n)) ns) ≡ list_any (λ m. is_word m n) (cond v (m ∷ after b ns) (after b ns))
    split true e = ap (λ x. is_word m n || x) e
    split false e = e

is_fresh : (k : ℕ) (ns : List (List ℕ)) → length ns < room k → list_any (λ m. is_word m (fresh k ns)) ns ≡ false
unfolding fresh room
is_fresh zero [] h = refl
is_fresh zero (n ∷ ns) h = absurd (omega arith)
is_fresh (suc k) ns h =
    let b = rare (room k) ns in
    sought_behind b (fresh k (after b ns)) ns ∙ is_fresh k (after b ns) (rare_few (room k) ns h)

fresh_length : (k : ℕ) (ns : List (List ℕ)) → length (fresh k ns) ≡ k
unfolding fresh
fresh_length zero ns = refl
fresh_length (suc k) ns = ap suc (fresh_length k (after (rare (room k) ns) ns))

fresh_bytes : (k : ℕ) (ns : List (List ℕ)) → list_all is_name_byte (fresh k ns) ≡ true
unfolding fresh
fresh_bytes zero ns = refl
fresh_bytes (suc k) ns =
    let more = fresh_bytes k (after (rare (room k) ns) ns) in
    a_letter (λ b. (is_name_byte b && list_all is_name_byte (fresh k (after (rare (room k) ns) ns))) ≡ true) (room k) ns more more more more

fresh_free : (k : ℕ) (ns : List (List ℕ)) → k ≡ 31 → is_free_name (fresh (suc k) ns) ≡ true
unfolding fresh
fresh_free k ns e =
    let w : List ℕ = fresh k (after (rare (room k) ns) ns) in
    let long : length w ≡ 31 = fresh_length k (after (rare (room k) ns) ns) ∙ e in
    let all : list_all is_name_byte w ≡ true = fresh_bytes k (after (rare (room k) ns) ns) in
    a_letter (λ b. is_free_name (b ∷ w) ≡ true) (room k) ns (rw (long, all) refl) (rw (long, all) refl) (rw (long, all) refl) (rw (long, all) refl)

-- ---- the new name

-- a free name that is none of these
pub new_name : List Name → Name
new_name ns = fresh 32 ns

pub new_name_free : (ns : List Name) → is_free_name (new_name ns) ≡ true
unfolding new_name
new_name_free ns = fresh_free 31 ns refl

room_is : room 32 ≡ 2 ^ 64
unfolding room
room_is = refl

-- fewer than 2 to the 64 names do not have it
pub new_name_new : (ns : List Name) → length ns < 2 ^ 64 → list_any (λ m. is_word m (new_name ns)) ns ≡ false
unfolding new_name
new_name_new ns h = is_fresh 32 ns (rw room_is h)
