-- What a run promises, by its status. `asked` is what the words ask for, if they are right.
use Rattle.std.specs.Prelude.{◌≡◌, ◌≢◌, ◌≤◌, ◌<◌, ◌↔◌, ◌⊎◌, ℕ, Bool, List, length, Option, None, Some, IfSome}
use Rattle.lens_specs.specs.Keeping.{Kept}
pub use Rattle.io_specs.specs.Calls.{Adds}
pub use Rattle.io_specs.specs.Faults.{Rose}
use Rattle.lens_io.specs.Bytes.{GivesUnlessFailed}
use Rattle.lens_io.specs.Calls.{Call as Take, OffersRest}
use Rattle.lens_io.specs.declared.told.Offer.{Offer}
use Rattle.arguments.specs.Settings.{Settings}
use Rattle.table_keeper.specs.declared.calls.Call.{Call}
use Rattle.table_keeper.specs.declared.keeper.KeepFault.TheVariants as keep
pub use Rattle.serving.specs.Opening.{IsUnserved}
pub use Rattle.serving.specs.Running.{IsServed}
use Rattle.serving.specs.Running.{FailsBy, IsAtEntry, IsDamaged, LacksMemoryBy, Refuses, Rehearses, Runs, StaysAtEntry, StopsShort, opening_fault, place_after, usage}

-- What the devices tell at one moment: what the source has left and what it was asked, what the sink has taken and what it was offered, what the keeper has, what it was
-- asked and where it keeps, where they tell it; how often each of them failed; and how many rows were walked.
pub record Observed : Type 0 where
  pub left : Option (List ℕ)
  pub asked : Option (List Take)
  pub given : Option (List ℕ)
  pub offered : Option (List Offer)
  pub contents : Option Kept
  pub calls : Option (List Call)
  pub place : Option (List ℕ)
  pub source_faults : ℕ
  pub sink_faults : ℕ
  pub keeper_faults : ℕ
  pub walked : ℕ

-- The lines of the source were served, without a rehearsal, or those of the rehearsal were.
abbrev pub RunsBy : Settings → Bool → ℕ → Observed → Observed → Type 0
RunsBy s stays status old new =
    Runs s stays status old.left new.left old.given new.given old.asked new.asked old.offered new.offered old.keeper_faults new.keeper_faults old.contents new.contents old.calls new.calls old.walked new.walked

abbrev pub RehearsesBy : Settings → ℕ → Bool → ℕ → Observed → Observed → Type 0
RehearsesBy s n stays status old new =
    Rehearses s n stays status old.given new.given old.offered new.offered old.keeper_faults new.keeper_faults old.contents new.contents old.calls new.calls old.walked new.walked

-- Memory ran out in a rehearsal.
abbrev pub StopsShortBy : Settings → ℕ → Bool → Observed → Observed → Type 0
StopsShortBy s n stays old new = StopsShort s n stays old.keeper_faults new.keeper_faults old.contents new.contents old.calls new.calls old.walked new.walked

-- What was loaded is damaged, and its first damage was told.
abbrev pub RefusesBy : Settings → Bool → Observed → Observed → Type 0
RefusesBy s stays old new =
    Refuses s stays old.given new.given old.offered new.offered old.sink_faults new.sink_faults old.keeper_faults old.contents new.contents old.calls new.calls

-- what is kept is as at entry, unless another place was chosen
abbrev pub Untouched : Settings → Bool → Observed → Observed → Type 0
Untouched s stays old new = StaysAtEntry s.store stays old.contents new.contents

-- ---- the statuses

-- 0, 4, 5 and 8: lines were served; in a rehearsal 0 and 5 alone.
pub record AtLines (asked : Option Settings) (stays : Bool) (status : ℕ) (old new : Observed) : Type 0 where
  -- the replies are those of the server to the lines that came, and they are given in time; the keeper has the last state
  pub serves : IfSome asked (λ s. s.rehearse ≡ None → IsServed status → RunsBy s stays status old new)
  -- in a rehearsal they are those to its lines, and their summary is given
  pub rehearses : IfSome asked (λ s. IfSome s.rehearse (λ n. (status ≡ 0) ⊎ (status ≡ 5) → RehearsesBy s n stays status old new))
  pub rehearses_no_input : IfSome asked (λ s. IfSome s.rehearse (λ _. (status ≢ 4) × (status ≢ 8)))
  -- the source failed at 4, and the sink at 5; at 8 the input is longer than the limit
  pub read : status ≡ 4 → Rose old.source_faults new.source_faults
  pub write : status ≡ 5 → Rose old.sink_faults new.sink_faults
  pub input : status ≡ 8 → IfSome asked (λ s. IfSome old.left (λ bytes. s.max_input < length bytes))

-- 2: exactly where the words are refused, unless memory ran out. The usage line is given; a front of it only where the sink failed.
pub record AtWords (asked : Option Settings) (status : ℕ) (old new : Observed) : Type 0 where
  pub words : status ≢ 3 → (status ≡ 2) ↔ (asked ≡ None)
  pub usage_offers : status ≡ 2 → Adds (OffersRest (length usage)) old.offered new.offered
  pub usage : status ≡ 2 → GivesUnlessFailed old.given new.given old.sink_faults new.sink_faults usage

-- 3: memory ran out, before the source was asked, or in a rehearsal.
pub record AtMemory (asked : Option Settings) (stays : Bool) (status : ℕ) (old new : Observed) : Type 0 where
  pub memory_changes_nothing : status ≡ 3 → IfSome asked (λ s. s.rehearse ≡ None → Untouched s stays old new)
  pub memory_calls : status ≡ 3 → IfSome asked (λ s. s.rehearse ≡ None → Adds (LacksMemoryBy s.store) old.calls new.calls)
  pub memory_stops : status ≡ 3 → IfSome asked (λ s. IfSome s.rehearse (λ n. StopsShortBy s n stays old new))

-- 6: the keeper failed at the start: exactly where a call that opens the store failed, of those that were told.
pub record AtStore (asked : Option Settings) (stays : Bool) (status : ℕ) (old new : Observed) : Type 0 where
  pub store : status ≡ 6 → Rose old.keeper_faults new.keeper_faults
  pub store_calls : status ≡ 6 → IfSome asked (λ s. Adds (FailsBy s.store) old.calls new.calls)
  pub store_exactly : IfSome asked (λ s. Adds (λ calls. (status ≡ 6) ↔ (opening_fault s.store calls ≡ Some keep.Failed)) old.calls new.calls)
  pub store_changes_nothing : status ≡ 6 → IfSome asked (λ s. Untouched s stays old new)

-- 7: what is kept is damaged, and the first damage is told. Unless memory ran out or the keeper failed, this is exactly where what is
-- kept at entry is damaged, where no other place is chosen or the contents stay where one is; and exactly where what is kept in the
-- end is damaged, wherever it lies.
pub record AtDamage (asked : Option Settings) (stays : Bool) (status : ℕ) (old new : Observed) : Type 0 where
  pub damaged : status ≡ 7 → IfSome asked (λ s. RefusesBy s stays old new)
  pub damaged_exactly : status ≢ 3 → status ≢ 6 → IfSome asked (λ s. IsAtEntry s.store stays → IfSome old.contents (λ kept. (status ≡ 7) ↔ IsDamaged kept))
  pub damaged_exactly_now : status ≢ 3 → status ≢ 6 → IfSome asked (λ _. IfSome new.contents (λ kept. (status ≡ 7) ↔ IsDamaged kept))
  pub damage_changes_nothing : status ≡ 7 → IfSome asked (λ s. Untouched s stays old new)

-- none of the counts of faults rose
abbrev pub NoneFailed : Observed → Observed → Type 0
NoneFailed old new =
    (Rose old.source_faults new.source_faults → ⊥) × (Rose old.sink_faults new.sink_faults → ⊥) × (Rose old.keeper_faults new.keeper_faults → ⊥)

-- Any status.
pub record AtAny (asked : Option Settings) (status : ℕ) (old new : Observed) : Type 0 where
  pub others : IsServed status ⊎ ((status ≡ 2) ⊎ ((status ≡ 3) ⊎ ((status ≡ 6) ⊎ (status ≡ 7))))
  -- with no fault and no damage the input is served to its end or to the limit; one that is told to be no longer, to its end
  pub complete : IfSome asked (λ _. NoneFailed old new → (status ≡ 0) ⊎ ((status ≡ 3) ⊎ ((status ≡ 7) ⊎ (status ≡ 8))))
  pub complete_told : IfSome asked (λ s. NoneFailed old new → IfSome old.left (λ bytes. length bytes ≤ s.max_input → (status ≡ 0) ⊎ ((status ≡ 3) ⊎ (status ≡ 7))))
  -- where the words give a place, what is kept lies there; where they give none, the place stays
  pub place : IsServed status ⊎ (status ≡ 7) → IfSome asked (λ s. new.place ≡ place_after s.store old.place)
  pub place_stays : IfSome asked (λ s. s.store ≡ None → new.place ≡ old.place)
  -- no count falls
  pub source_later : old.source_faults ≤ new.source_faults
  pub sink_later : old.sink_faults ≤ new.sink_faults
  pub keeper_later : old.keeper_faults ≤ new.keeper_faults
  -- where no line is answered no row is walked
  pub walks_nothing : (status ≡ 2) ⊎ IsUnserved status → IfSome asked (λ s. IfSome s.rehearse (λ _. status ≢ 3)) → new.walked ≡ old.walked

-- ---- all of them

pub record Promises (asked : Option Settings) (stays : Bool) (status : ℕ) (old new : Observed) : Type 0 where
  pub lines : AtLines asked stays status old new
  pub usage : AtWords asked status old new
  pub memory : AtMemory asked stays status old new
  pub store : AtStore asked stays status old new
  pub damage : AtDamage asked stays status old new
  pub any : AtAny asked status old new
