-- Single steps of a session.
use Rattle.std.proofs.Common.{◌≡◌, ◌<◌, ◌≤◌, ℕ, List, length, Bool, true, false, refl, arith, nat_le, if◌then◌else◌}
use Rattle.plain_values.proofs.Common.{lt-leb, le-leb}
use Rattle.server_specs.specs.State.{State}
use Rattle.server_specs.specs.Answer as spec
use Rattle.server_specs.specs.Answer.{memory, text}
use Rattle.server_specs.specs.Request.{request}
use Rattle.server_specs.specs.Answering.{answer}
use Rattle.io_specs.specs.Lines.{line, too_long, marked}
use Rattle.server_specs.specs.Session.{Step, answered, found_memory, out_of_memory, IsShort}

too_many : (n : ℕ) → 16777216 < n → nat_le n 16777216 ≡ false
too_many n h = lt-leb n 16777216 h

-- what is too long is refused for that
pub long_line : (s : State) (count : ℕ) (bytes reply : List ℕ) → 16777216 < length bytes → reply ≡ text spec.long_line → Step s count (marked bytes) reply s count
unfolding answer request
long_line s count bytes reply h e = rw (too_many (length bytes) h) (record { later = omega arith; still = λ _. refl; replied = found_memory (answered e refl) })

short : (b : Bool) (bytes : List ℕ) → b ≡ true → IsShort (if b then line bytes else too_long)
short true bytes e = tt
short false bytes e = cc

-- a line that is not too long may find no memory
pub no_memory : (s : State) (count : ℕ) (bytes reply : List ℕ) → length bytes ≤ 16777216 → reply ≡ text memory → Step s count (marked bytes) reply s count
no_memory s count bytes reply h e = record { later = omega arith; still = λ _. refl; replied = out_of_memory (short (nat_le (length bytes) 16777216) bytes (le-leb (length bytes) 16777216 h)) e refl }
