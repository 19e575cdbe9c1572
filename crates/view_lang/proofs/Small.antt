-- Counts that are small.
use Rattle.std.proofs.Common.{◌≡◌, ℕ, ◌-◌, ◌^◌, ◌<◌, ◌≤◌, List, length, true, false, refl, sym, ap, ◌∙◌, arith, le-leb, min, nat_le, Ok, Err}
use Rattle.std.specs.FinMap as map_of
use Rattle.plain_values.proofs.Common.{nat_tests, Columns}
use Rattle.plain_values.specs.declared.value.Kind.{Kind}
use Rattle.grammar_specs.specs.Common.{Definition, too_large, columns, predicate, has_few_columns, has_few_nodes}
use Rattle.grammar_laws.specs.Reading.{limited}

-- the least of a count and the greatest number is small where the count is
pub small_nodes : (n m : ℕ) → m ≡ min n (2 ^ 64 - 1) → nat_le m 256 ≡ nat_le n 256
small_nodes n m e = grind (arith, nat_tests)

-- as many pairs as columns
pub few_pairs : (U : Columns) (ps : List (List ℕ × Kind)) → ps ≡ map_of.entries U → nat_le (length ps) 64 ≡ nat_le (map_of.len U) 64
few_pairs U ps e = ap (λ n. nat_le n 64) (ap length e ∙ sym (map_of.len-entries U))

pub few_columns : (U : Columns) (ps : List (List ℕ × Kind)) → ps ≡ map_of.entries U → length ps ≤ 64 → nat_le (map_of.len U) 64 ≡ true
few_columns U ps e h = sym (few_pairs U ps e) ∙ le-leb (length ps) 64 h

above : (n : ℕ) → 64 < n → nat_le n 64 ≡ false
above n h = grind (arith, nat_tests)

pub many_columns : (U : Columns) (ps : List (List ℕ × Kind)) → ps ≡ map_of.entries U → 64 < length ps → nat_le (map_of.len U) 64 ≡ false
many_columns U ps e h = sym (few_pairs U ps e) ∙ above (length ps) h

-- ---- the definition, or what in it is too large

pub within_limits : (d : Definition) → has_few_columns d ≡ true → has_few_nodes d ≡ true → limited d ≡ Ok d
within_limits d few small = rw (few, small) refl

pub too_wide : (d : Definition) → has_few_columns d ≡ false → limited d ≡ Err (too_large columns)
too_wide d many = rw many refl

pub too_big : (d : Definition) → has_few_columns d ≡ true → has_few_nodes d ≡ false → limited d ≡ Err (too_large predicate)
too_big d few big = rw (few, big) refl
