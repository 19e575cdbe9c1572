-- What holds of the fields of a cutter and of a sink in memory.
use Rattle.std.specs.Prelude.{◌≡◌, ◌≤◌, ◌+◌, ◌^◌, ℕ, Bool, List, true, slice_range, vec_len, vec_capacity}
use Rattle.std.specs.declared.option.Option.{Option}
use Rattle.lens_io.specs.declared.cutting.found.Found.{Found}
use Rattle.lens_io.specs.declared.cutting.LineCutter.TheInside.{Inside}
use Rattle.lens_io.specs.declared.in_memory.MemorySink.TheInside.{Inside as Sunk}
use Rattle.lens_io.specs.Calls.{Call}
use Rattle.lens_io.specs.Cutting.{Cuts}

-- The places lie in a buffer of that size, and at most one byte beyond the limit was taken, which still waits.
pub record IsWithin (found : Found) (limit size : ℕ) : Type 0 where
  pub line : found.line_start ≤ found.line_end
  pub line_end : found.line_end ≤ size
  pub order : found.start ≤ found.end
  pub end : found.end ≤ size
  pub given : found.taken + found.start ≤ limit + found.end
  pub taken : found.taken ≤ limit + 1
  pub ended : found.ended ≡ true → found.start ≡ found.end

-- A cutter has room for the longest line and one more call of a source.
pub record Holds (c : Inside) : Type 0 where
  pub capacity : 16777216 + 65536 ≤ vec_capacity c.bytes
  pub limit : c.limit ≤ 2 ^ 40
  pub found : IsWithin c.found c.limit (vec_len c.bytes)

-- one call, by the places in the buffer
abbrev pub FoundCuts : Found → List ℕ → List ℕ → ℕ → ℕ → Bool → Option (List ℕ) → Option (List ℕ) → Option (List Call) → Option (List Call) → Type 0
FoundCuts found items pending taken limit ended left left' asked asked' =
    Cuts found.cut pending (slice_range items found.line_start found.line_end) (slice_range items found.start found.end) taken found.taken limit ended found.ended left left' asked asked'

-- A sink in memory has the room that it was made with, and takes some bytes in each call.
pub record HasRoom (s : Sunk) : Type 0 where
  pub capacity : s.room ≤ vec_capacity s.bytes
  pub within : vec_len s.bytes ≤ s.room
  pub piece : 1 ≤ s.piece
