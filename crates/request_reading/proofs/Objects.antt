-- The names of an object's members.
use Rattle.std.proofs.Common.{◌≡◌, ◌∙◌, ◌≤◌, ◌+◌, ℕ, List, [], ◌∷◌, length, Option, Some, None, cond, ap, refl, arith, Bool, true, Bor, ◌||◌}
use Rattle.plain_values.proofs.Common.{Ordering, Less, Equal, Greater, nat_cmp, is_eq, match_ordering, slice_cmp, texts_ties, AllByRecursion, list_any, IsStrictlySortedBy, bytes_cmp}
use Rattle.serde_json.specs.Data.{Data, Members, no_members, member, put}
use Rattle.serde_json.specs.Find.{get_member}
use Rattle.borrowed_json.specs.Meaning.{value_data, members_onto, sent_data, members_data}
use Rattle.borrowed_json.specs.declared.value.Value.{Value}
use Rattle.server_specs.specs.Common.{first_other, is_key}
use Rattle.request_reading.proofs.Others.{Rises, Below, rises_data}

-- the names of the members
abbrev pub names_of : Members → List (List ℕ)
names_of no_members = []
names_of (member k d ms) = k ∷ names_of ms

-- where each name passes, none is strange
pub none_first : (passes : List ℕ → Bool) (ms : Members) → AllByRecursion (λ k. passes k ≡ true) (names_of ms) → first_other passes ms ≡ None
none_first passes no_members h = refl
none_first passes (member k d ms) h = ap (λ b. cond b (first_other passes ms) (Some k)) h.0 ∙ none_first passes ms h.1

found_at : (o : Ordering) (e d : Data) (rest : Option Data) (there : Bool) → (rest ≡ Some d → there ≡ true) → match_ordering o rest (Some e) rest ≡ Some d → (is_eq o || there) ≡ true
found_at Less e d rest there h is = h is
found_at Equal e d rest there h is = refl
found_at Greater e d rest there h is = h is

-- a member that is found has a name among them
pub found_name : (k : List ℕ) (ms : Members) (d : Data) → get_member k ms ≡ Some d → list_any (is_key k) (names_of ms) ≡ true
found_name k no_members d is = cc
found_name k (member l e ms) d is =
    ap (λ b. b || list_any (is_key k) (names_of ms)) (texts_ties k l)
    ∙ found_at (slice_cmp nat_cmp k l) e d (get_member k ms) (list_any (is_key k) (names_of ms)) (found_name k ms d) is

-- ---- the order of the names

above_names : (k : List ℕ) (ms : Members) → Below k ms → AllByRecursion (λ q. bytes_cmp k q ≡ Less) (names_of ms)
above_names k no_members h = tt
above_names k (member l d ms) h = (h.0, above_names k ms h.1)

names_rise : (ms : Members) → Rises ms → IsStrictlySortedBy bytes_cmp (names_of ms)
unfolding IsStrictlySortedBy
names_rise no_members h = tt
names_rise (member k d ms) h = (above_names k ms h.0, names_rise ms h.1)

-- the names of an object rise
pub data_rises : (ms : List (Bor (List ℕ) × Value)) → IsStrictlySortedBy bytes_cmp (names_of (members_data ms))
data_rises ms = names_rise (members_data ms) (rises_data ms)

-- ---- how many they are

put_counted_at : (o : Ordering) (k l : List ℕ) (d e : Data) (ms : Members) → length (names_of (put k d ms)) ≤ 1 + length (names_of ms)
    → length (names_of (match_ordering o (member k d (member l e ms)) (member l d ms) (member l e (put k d ms)))) ≤ 1 + length (names_of (member l e ms))
put_counted_at Less k l d e ms h = omega arith
put_counted_at Equal k l d e ms h = omega arith
put_counted_at Greater k l d e ms h = omega (arith, h)

put_counted : (k : List ℕ) (d : Data) (ms : Members) → length (names_of (put k d ms)) ≤ 1 + length (names_of ms)
put_counted k d no_members = omega arith
put_counted k d (member l e ms) = put_counted_at (slice_cmp nat_cmp k l) k l d e ms (put_counted k d ms)

onto_counted : (ms : List (Bor (List ℕ) × Value)) (found : Members) → length (names_of (members_onto (sent_data ms) found)) ≤ length (names_of found) + length ms
onto_counted [] found = omega arith
onto_counted (m ∷ ms) found =
    let one = put_counted m.0.now (value_data m.1) found in
    let rest = onto_counted ms (put m.0.now (value_data m.1) found) in
    omega (arith, one, rest)

-- no more than were sent
pub data_counted : (ms : List (Bor (List ℕ) × Value)) → length (names_of (members_data ms)) ≤ length ms
data_counted ms = omega (arith, onto_counted ms no_members)
