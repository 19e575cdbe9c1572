-- The laws of a cutter over whole runs, each as one statement.
use Rattle.std.specs.Prelude.{◌≡◌, ◌<◌, ◌+◌, ◌-◌, ◌⊎◌, ℕ, Bool, false, List, [], ◌∷◌, ◌++◌, Some, IfSome, length, take}
use Rattle.std.specs.declared.option.Option.{Option}
use Rattle.std.specs.Io.KnownBytes.{Consumes, IsAtEnd}
use Rattle.io_specs.specs.Lines.{Line, line, too_long, lines, whole}
use Rattle.lens_io.specs.declared.cutting.Cut.{Cut}
use Rattle.lens_io.specs.declared.cutting.Cut.TheVariants as cut
use Rattle.lens_io.specs.Cutting.{Step, IsNext, is_last}
use Rattle.lens_io.specs.Taken.{Run, Taken}

-- what a run has given are lines of the bytes that it has taken
abbrev pub RunIsTaken : Type 0
RunIsTaken = (limit : ℕ) (given : List Line) (pending : List ℕ) (taken : ℕ) (ended : Bool) (left0 left : Option (List ℕ)) → Run limit given pending taken ended left0 left
    → Taken given pending taken ended left0 left

-- before the first call no line was given
abbrev pub NoneIsGiven : Type 0
NoneIsGiven = (left : Option (List ℕ)) → Taken [] [] 0 false left left

-- at Line the line is one more that was given
abbrev pub LineIsGiven : Type 0
LineIsGiven = (given : List Line) (pending text rest : List ℕ) (taken taken' limit : ℕ) (ended ended' : Bool) (left0 left left' : Option (List ℕ))
    → Taken given pending taken ended left0 left → Step cut.Line pending text rest taken taken' limit ended ended' left left'
    → Taken (given ++ line text ∷ []) rest taken' ended' left0 left'

-- at TooLong a line that is too long is one more that was given
abbrev pub TooLongIsGiven : Type 0
TooLongIsGiven = (given : List Line) (pending text rest : List ℕ) (taken taken' limit : ℕ) (ended ended' : Bool) (left0 left left' : Option (List ℕ))
    → Taken given pending taken ended left0 left → Step cut.TooLong pending text rest taken taken' limit ended ended' left left'
    → Taken (given ++ too_long ∷ []) rest taken' ended' left0 left'

-- at every moment the lines given are the first lines of the bytes taken
abbrev pub GivenAreFirst : Type 0
GivenAreFirst = (given : List Line) (pending : List ℕ) (taken : ℕ) (ended : Bool) (left0 left : Option (List ℕ))
    → (t : Taken given pending taken ended left0 left) → (more : List Line) × (lines t.all ≡ given ++ more)

-- at End they are the lines of the bytes taken, and no byte is left where the source tells
abbrev pub EndIsAll : Type 0
EndIsAll = (given : List Line) (pending text rest : List ℕ) (taken taken' limit : ℕ) (ended ended' : Bool) (left0 left left' : Option (List ℕ))
    → Taken given pending taken ended left0 left → Step cut.End pending text rest taken taken' limit ended ended' left left'
    → (all : List ℕ) × Consumes left0 left' all × (length all ≡ taken') × (given ≡ lines all) × IsAtEnd left'

-- at End they are the lines of all bytes that there were, where the source told them
abbrev pub EndIsKnown : Type 0
EndIsKnown = (given : List Line) (pending text rest : List ℕ) (taken taken' limit : ℕ) (ended ended' : Bool) (left0 left left' : Option (List ℕ))
    → Taken given pending taken ended left0 left → Step cut.End pending text rest taken taken' limit ended ended' left left'
    → IfSome left0 (λ bytes. given ≡ lines bytes)

-- at Failed they are the whole lines of the bytes taken
abbrev pub FailedIsWhole : Type 0
FailedIsWhole = (given : List Line) (pending text rest : List ℕ) (taken taken' limit : ℕ) (ended ended' : Bool) (left0 left left' : Option (List ℕ))
    → Taken given pending taken ended left0 left → Step cut.Failed pending text rest taken taken' limit ended ended' left left'
    → (all : List ℕ) × Consumes left0 left' all × (length all ≡ taken') × (given ≡ whole all)

-- at Spent they are the whole lines of the bytes up to the limit, and one byte more was taken
abbrev pub SpentIsWhole : Type 0
SpentIsWhole = (given : List Line) (pending text rest : List ℕ) (taken taken' limit : ℕ) (ended ended' : Bool) (left0 left left' : Option (List ℕ))
    → Taken given pending taken ended left0 left → Step cut.Spent pending text rest taken taken' limit ended ended' left left'
    → (all : List ℕ) × Consumes left0 left' all × (length all ≡ limit + 1) × (given ≡ whole (take limit all))

-- where the input is at its end and no byte waits, only End or Failed comes
abbrev pub EndOrFailed : Type 0
EndOrFailed = (c : Cut) (text rest : List ℕ) (taken taken' limit : ℕ) (ended ended' : Bool) (left' : Option (List ℕ))
    → Step c [] text rest taken taken' limit ended ended' (Some []) left' → (c ≡ cut.End) ⊎ (c ≡ cut.Failed)

-- where the next line is too long, only TooLong, Failed or Spent comes
abbrev pub TooLongFailedOrSpent : Type 0
TooLongFailedOrSpent = (c : Cut) (pending bytes text rest piece : List ℕ) (taken taken' limit : ℕ) (ended' : Bool) (left' : Option (List ℕ))
    → Step c pending text rest taken taken' limit false ended' (Some bytes) left' → IsNext (pending ++ bytes) piece → 16777216 < length piece
    → (c ≡ cut.TooLong) ⊎ ((c ≡ cut.Failed) ⊎ (c ≡ cut.Spent))

-- each answer with a line uses up a byte of those that wait or may still be taken
abbrev pub LineUsesBytes : Type 0
LineUsesBytes = (c : Cut) (pending text rest : List ℕ) (taken taken' limit : ℕ) (ended ended' : Bool) (left left' : Option (List ℕ))
    → Step c pending text rest taken taken' limit ended ended' left left' → is_last c ≡ false → limit + 1 - taken' + length rest < limit + 1 - taken + length pending
