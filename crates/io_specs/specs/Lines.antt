-- The lines of the input.
use Rattle.std.specs.Prelude.{ℕ, List, [], ◌∷◌, length, nat_le, ◌==◌, if◌then◌else◌}

-- a line, without its newline; one of more than 16,777,216 bytes is only known to be too long
pub data Line : Type 0 where
  line : List ℕ → Line
  too_long : Line

-- a byte put onto the first piece
abbrev pub onto_first : ℕ → List (List ℕ) → List (List ℕ)
onto_first b [] = (b ∷ []) ∷ []
onto_first b (piece ∷ pieces) = (b ∷ piece) ∷ pieces

-- the pieces between newlines; the last one has no newline
abbrev pub pieces : List ℕ → List (List ℕ)
pieces [] = [] ∷ []
pieces (b ∷ bytes) = if b == 10 then [] ∷ pieces bytes else onto_first b (pieces bytes)

-- without a last piece that is empty
abbrev pub without_empty_end : List (List ℕ) → List (List ℕ)
without_empty_end [] = []
without_empty_end ([] ∷ []) = []
without_empty_end (piece ∷ rest) = piece ∷ without_empty_end rest

-- without the last piece
abbrev pub without_end : List (List ℕ) → List (List ℕ)
without_end [] = []
without_end (piece ∷ []) = []
without_end (piece ∷ next ∷ rest) = piece ∷ without_end (next ∷ rest)

-- the line of these bytes
abbrev pub marked : List ℕ → Line
marked bytes = if nat_le (length bytes) 16777216 then line bytes else too_long

-- the lines of these pieces
abbrev pub each_marked : List (List ℕ) → List Line
each_marked [] = []
each_marked (piece ∷ rest) = marked piece ∷ each_marked rest

-- a last piece without a newline counts where it is not empty
unfoldable pub lines : List ℕ → List Line
lines bytes = each_marked (without_empty_end (pieces bytes))

-- only the lines that have their newline
unfoldable pub whole : List ℕ → List Line
whole bytes = each_marked (without_end (pieces bytes))
