-- The lines that a cutter has given so far, and the bytes that it has taken.
use Rattle.std.specs.Prelude.{◌≡◌, ◌≤◌, ◌-◌, ℕ, Bool, true, false, List, [], ◌∷◌, ◌++◌, length}
use Rattle.std.specs.declared.option.Option.{Option}
use Rattle.std.specs.Io.KnownBytes.{Consumes, IsAtEnd}
use Rattle.io_specs.specs.Lines.{Line, line, too_long, lines, whole}
use Rattle.lens_io.specs.declared.cutting.Cut.TheVariants as cut
use Rattle.lens_io.specs.Cutting.{Step}

-- The calls so far, none of them the last, each at the source as the call before left it: the lines that they gave, and what the last one left.
pub data Run (limit : ℕ) : List Line → List ℕ → ℕ → Bool → Option (List ℕ) → Option (List ℕ) → Type 0 where
  none_yet : (left : Option (List ℕ)) → Run limit [] [] 0 false left left
  one_line : (given : List Line) (pending text rest : List ℕ) (taken taken' : ℕ) (ended ended' : Bool) (left0 left left' : Option (List ℕ))
      → Run limit given pending taken ended left0 left → Step cut.Line pending text rest taken taken' limit ended ended' left left' → Run limit (given ++ line text ∷ []) rest taken' ended' left0 left'
  one_too_long : (given : List Line) (pending text rest : List ℕ) (taken taken' : ℕ) (ended ended' : Bool) (left0 left left' : Option (List ℕ))
      → Run limit given pending taken ended left0 left → Step cut.TooLong pending text rest taken taken' limit ended ended' left left' → Run limit (given ++ too_long ∷ []) rest taken' ended' left0 left'

-- But for the last piece of at most 65,536 bytes, no more whole lines came than so many.
abbrev pub ComesInTime : ℕ → List ℕ → Type 0
ComesInTime count came = (before : List ℕ) × (last : List ℕ) × (came ≡ before ++ last) × (length last ≤ 65536) × (length (whole before) ≤ count)

-- These lines were given of the bytes that were taken since the first call, and the pending bytes are left of them.
pub record Taken (given : List Line) (pending : List ℕ) (taken : ℕ) (ended : Bool) (left0 left : Option (List ℕ)) : Type 0 where
  pub all : List ℕ
  pub front : List ℕ
  pub consumed : Consumes left0 left all
  pub counted : taken ≡ length all
  pub parts : all ≡ front ++ pending
  pub few : length given ≤ length front
  -- when the last piece came, each whole line before it had been given, and the line that was given last had not
  pub in_time : ComesInTime (length given - 1) all
  -- until the end was told, whatever comes next, its lines follow those that were given
  pub lines_are : ended ≡ false → (rest : List ℕ) → lines (front ++ rest) ≡ given ++ lines rest
  pub whole_are : ended ≡ false → (rest : List ℕ) → whole (front ++ rest) ≡ given ++ whole rest
  pub at_end : ended ≡ true → (pending ≡ []) × (lines all ≡ given) × IsAtEnd left
