-- A name that is written into an array of zeros.
use Rattle.std.proofs.Common.{[], ◌∷◌, ◌<◌, ◌-◌, zero, suc, ◌&&◌, ◌==◌, not, nat_le, slice_index, ◌≡◌, sym, length, List, ◌++◌, ℕ, IsTrue, true, arith, take, drop, subst, refl, replicate, length-append}
use Rattle.std.specs.List.{list_all}
use Rattle.std.specs.Str.{IsAscii, IsUtf8}
use Rattle.std.proofs.lemmas.Str.{IsUtf8-from_ascii}
use Rattle.std.proofs.lemmas.Bool.Decides.{nat_tests}
use Rattle.std.proofs.lemmas.List.{drop-replicate, take_at}
use Rattle.plain_values.specs.Bytes.{is_name, is_name_byte, is_lower}
use Rattle.plain_values.specs.NameBytes.{KeepsName, spelt}
use Rattle.plain_values.proofs.Fronts.{spelt-zeros}
use Rattle.plain_values.proofs.Tests.{first_holds, second_holds}

pub keeps_name : (text : List ℕ) → IsTrue (is_name text) → KeepsName (text ++ drop (length text) (replicate 32 0)) (length text) (spelt 8 0 (text ++ drop (length text) (replicate 32 0)))
keeps_name text h =
    let front : take (length text) (text ++ drop (length text) (replicate 32 0)) ≡ text = take_at text (drop (length text) (replicate 32 0)) (length text) refl in
    record {
      name = subst (λ t. IsTrue (is_name t)) (sym front) h;
      within = rw length-append (omega arith);
      whole = rw front (rw drop-replicate refl);
      first = rw front (rw drop-replicate (spelt-zeros 8 0 text (32 - length text)));
    }

byte_ascii : (b : ℕ) → is_name_byte b ≡ true → b < 128
byte_ascii b h = grind (arith, nat_tests)

all_ascii : (bytes : List ℕ) → list_all is_name_byte bytes ≡ true → IsAscii bytes
all_ascii [] h i = omega arith
all_ascii (b ∷ bytes) h zero = byte_ascii b (first_holds (is_name_byte b) (list_all is_name_byte bytes) h)
all_ascii (b ∷ bytes) h (suc i) = all_ascii bytes (second_holds (is_name_byte b) (list_all is_name_byte bytes) h) i

-- a name is text
pub name_utf8 : (bytes : List ℕ) → IsTrue (is_name bytes) → IsUtf8 bytes
name_utf8 bytes h =
    IsUtf8-from_ascii bytes (all_ascii bytes (second_holds (is_lower (slice_index bytes 0)) (list_all is_name_byte bytes)
    (second_holds (not (length bytes == 0) && nat_le (length bytes) 32) (is_lower (slice_index bytes 0) && list_all is_name_byte bytes) h)))
