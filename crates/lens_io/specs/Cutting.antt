-- A cutter of lines, and one call of it.
use Rattle.std.specs.Prelude.{◌≡◌, ◌≢◌, ◌≤◌, ◌<◌, ◌+◌, ◌-◌, min, ℕ, Bool, true, false, List, [], ◌∷◌, ◌++◌, ◌⊎◌, length, nat_lt, nat_eq, if◌then◌else◌}
use Rattle.std.specs.declared.option.Option.{Option}
use Rattle.std.specs.Io.KnownBytes.{Consumes, IsAtEnd}
use Rattle.lens_io.specs.Calls.{Adds, Call, brought as brought_by}
use Rattle.lens_io.specs.declared.cutting.Cut.{Cut}
use Rattle.lens_io.specs.declared.cutting.Cut.TheVariants.{Line, TooLong, End, Failed, Spent}

-- The bytes that were taken and not given yet, the line that was given last, how many bytes were taken in all and how many may be,
-- whether the source told its end, and whether the last answer was given.
pub record Cutter : Type 0 where
  pub pending : List ℕ
  pub line : List ℕ
  pub taken : ℕ
  pub limit : ℕ
  pub ended : Bool
  pub done : Bool

-- whether no other answer follows
abbrev pub is_last : Cut → Bool
is_last Line = false
is_last TooLong = false
is_last End = true
is_last Failed = true
is_last Spent = true

-- no byte is a newline
abbrev pub HasNoNewline : List ℕ → Type 0
HasNoNewline [] = Unit {0}
HasNoNewline (b ∷ bytes) = (b ≢ 10) × HasNoNewline bytes

-- a piece was cut off: up to its newline, or all bytes at the end of the input
abbrev pub CutsOff : List ℕ → List ℕ → List ℕ → Bool → Type 0
CutsOff bytes piece rest ended = HasNoNewline piece × (((bytes ≡ piece ++ 10 ∷ rest) × (ended ≡ false)) ⊎ ((bytes ≡ piece) × (rest ≡ []) × (ended ≡ true)))

-- An answer, by the bytes that waited or came: which line was cut off them, and which bytes are left.
abbrev pub Says : Cut → List ℕ → List ℕ → List ℕ → ℕ → ℕ → Bool → Type 0
Says Line bytes line rest taken limit ended = (length line ≤ 16777216) × CutsOff bytes line rest ended × (ended ≡ true → line ≢ [])
Says TooLong bytes line rest taken limit ended = (piece : List ℕ) × (16777216 < length piece) × CutsOff bytes piece rest ended
Says End bytes line rest taken limit ended = (bytes ≡ []) × (rest ≡ []) × (ended ≡ true)
Says Failed bytes line rest taken limit ended = HasNoNewline bytes × (rest ≡ []) × (ended ≡ false)
Says Spent bytes line rest taken limit ended = (piece : List ℕ) × HasNoNewline piece × (bytes ≡ piece ++ rest) × (length rest ≡ 1) × (taken ≡ limit + 1) × (ended ≡ false)

-- But for the last piece of at most 65,536 bytes, what was taken had no newline, nor had what waited before; where a line waited, nothing was taken.
abbrev pub IsNeeded : List ℕ → List ℕ → Type 0
IsNeeded pending came = (came ≡ []) ⊎ ((before : List ℕ) × (last : List ℕ) × (came ≡ before ++ last) × (length last ≤ 65536) × HasNoNewline (pending ++ before))

-- One call. The bytes that came are those that the source lost, where it tells them.
pub record Step (cut : Cut) (pending line rest : List ℕ) (taken taken' limit : ℕ) (ended ended' : Bool) (left left' : Option (List ℕ)) : Type 0 where
  pub came : List ℕ
  pub consumed : Consumes left left' came
  pub counted : taken' ≡ taken + length came
  pub says : Says cut (pending ++ came) line rest taken' limit ended'
  -- no byte was asked for while a whole line waited
  pub needed : IsNeeded pending came
  -- what was given is among the first bytes, and one byte more is taken at most
  pub within : taken' ≤ limit + length rest
  pub most : taken' ≤ limit + 1
  -- the end is told by the source, which is not asked again
  pub at_end : ended' ≡ true → ((ended ≡ true) × (left' ≡ left)) ⊎ IsAtEnd left'
  pub once : ended ≡ true → cut ≡ End

-- These calls were made only while no whole line waited, and one after another only where bytes came;
-- each had room for 65,536 bytes, or up to one byte beyond the limit where that is fewer.
abbrev pub AskInNeed : List ℕ → ℕ → ℕ → List Call → Type 0
AskInNeed waiting taken limit [] = Unit {0}
AskInNeed waiting taken limit (call ∷ calls) =
    HasNoNewline waiting × (call.room ≡ min 65536 (limit + 1 - taken)) × (calls ≢ [] → call.came ≢ [])
    × AskInNeed (waiting ++ call.came) (taken + length call.came) limit calls

-- The calls of a source that one call of a cutter made: in need, and none once the end was told; and the bytes that came are those that they brought.
pub record Asks (waiting : List ℕ) (taken limit : ℕ) (ended : Bool) (came : List ℕ) (calls : List Call) : Type 0 where
  pub need : AskInNeed waiting taken limit calls
  pub none : ended ≡ true → calls ≡ []
  pub brought : brought_by calls ≡ came

-- One call, and what it asked of the source, where that tells it.
pub record Cuts (cut : Cut) (pending line rest : List ℕ) (taken taken' limit : ℕ) (ended ended' : Bool) (left left' : Option (List ℕ)) (asked asked' : Option (List Call)) : Type 0 where
  pub step : Step cut pending line rest taken taken' limit ended ended' left left'
  pub asks : Adds (Asks pending taken limit ended step.came) asked asked'

-- the answer to a line of that length
abbrev pub sized : ℕ → Cut
sized size = if nat_lt 16777216 size then TooLong else Line

-- the answer to so many bytes without a newline at the end of the input
abbrev pub unended : ℕ → Cut
unended size = if nat_eq size 0 then End else Line

-- an answer, by the bytes that came while a line was passed over
abbrev pub SaysPassed : Cut → List ℕ → List ℕ → ℕ → ℕ → Bool → Type 0
SaysPassed Line came rest taken limit ended = ⊥
SaysPassed TooLong came rest taken limit ended = (piece : List ℕ) × CutsOff came piece rest ended
SaysPassed End came rest taken limit ended = ⊥
SaysPassed Failed came rest taken limit ended = HasNoNewline came × (rest ≡ []) × (ended ≡ false)
SaysPassed Spent came rest taken limit ended = (piece : List ℕ) × HasNoNewline piece × (came ≡ piece ++ rest) × (length rest ≡ 1) × (taken ≡ limit + 1) × (ended ≡ false)

-- the rest of a line that is too long was passed over
pub record Passed (cut : Cut) (rest : List ℕ) (taken taken' limit : ℕ) (ended' : Bool) (left left' : Option (List ℕ)) (asked asked' : Option (List Call)) : Type 0 where
  pub came : List ℕ
  pub consumed : Consumes left left' came
  pub counted : taken' ≡ taken + length came
  pub says : SaysPassed cut came rest taken' limit ended'
  pub needed : IsNeeded [] came
  pub within : taken' ≤ limit + length rest
  pub most : taken' ≤ limit + 1
  pub at_end : ended' ≡ true → IsAtEnd left'
  pub asks : Adds (Asks [] taken limit false came) asked asked'

-- the piece is the next line of the bytes, or all of them where they have no newline
abbrev pub IsNext : List ℕ → List ℕ → Type 0
IsNext bytes piece = HasNoNewline piece × (((tail : List ℕ) × (bytes ≡ piece ++ 10 ∷ tail)) ⊎ (bytes ≡ piece))

-- No byte more is needed: a whole line waits, or the byte beyond the limit, or the end was told.
abbrev pub NeedsNone : List ℕ → ℕ → ℕ → Bool → Type 0
NeedsNone pending taken limit ended = ((piece : List ℕ) × (rest : List ℕ) × (pending ≡ piece ++ 10 ∷ rest)) ⊎ ((limit < taken) ⊎ (ended ≡ true))
