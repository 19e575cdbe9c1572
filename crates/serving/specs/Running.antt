-- What one run of the program does.
use Rattle.std.specs.Prelude.{◌≡◌, ◌≢◌, ◌≤◌, ◌+◌, ◌-◌, ◌⊎◌, ℕ, Bool, true, List, [], ◌∷◌, ◌++◌, flat_map, length, take, codes, Option, Some, None, Result, Ok, Err}
use Rattle.std.specs.Io.KnownBytes.{Appends, Consumes, IsAtEnd}
use Rattle.lens_specs.specs.Keeping.{Kept, Follows, Stays, IfObserved}
use Rattle.io_specs.specs.Calls.{Adds}
use Rattle.io_specs.specs.Lines.{Line, line, too_long, lines, whole}
use Rattle.server_specs.specs.State.{State, kept}
use Rattle.server_specs.specs.Session.{Session}
use Rattle.opening_specs.specs.Opening.{Damage, opened, damage_text}
use Rattle.arguments.specs.Settings.{Settings}
use Rattle.lens_server.specs.Committing.{CommitsForAll}
use Rattle.table_keeper.specs.Asking.{done_call, stopped_call}
use Rattle.table_keeper.specs.declared.calls.Asked.TheVariants.{Attach, Load}
use Rattle.table_keeper.specs.declared.calls.Call.{Call}
use Rattle.table_keeper.specs.declared.keeper.KeepFault.{KeepFault}
use Rattle.table_keeper.specs.declared.keeper.KeepFault.TheVariants as keep
use Rattle.rehearsal.specs.Rehearsal.{rehearsal}
use Rattle.rehearsal.specs.Rehearsed.{Rehearsed, Stopped}
use Rattle.rehearsal.specs.Walking.{most_walked_in}
use Rattle.lens_io.specs.Asked.{AskedAfter, AsksFor}
use Rattle.lens_io.specs.Bytes.{AppendsFront, GivesUnlessFailed}
use Rattle.lens_io.specs.Calls.{Call as Take, OffersRest}
use Rattle.lens_io.specs.declared.told.Offer.{Offer}
use Rattle.lens_io.specs.Taken.{ComesInTime}
use Rattle.lens_io.specs.declared.cutting.Cut.{Cut}
use Rattle.lens_io.specs.declared.cutting.Cut.TheVariants as cut
use Rattle.serving.specs.Exports.{AreReadBack}
use Rattle.serving.specs.Offering.{OffersEach, OffersUntil}

-- the line that a faulty command line is answered with
abbrev pub usage : List ℕ
usage = codes "usage: view_program [--store PATH] [--max-input N] [--rehearse N]" ++ 10 ∷ []

-- the replies one after another
abbrev pub joined : List (List ℕ) → List ℕ
joined replies = flat_map (λ reply. reply) replies

-- these lines are a front of those
abbrev pub IsFront : List Line → List Line → Type 0
IsFront taken all = (rest : List Line) × (taken ++ rest ≡ all)

-- known bytes grow by all of these replies, of the last one by a front
abbrev pub BreaksOff : Option (List ℕ) → Option (List ℕ) → List (List ℕ) → Type 0
BreaksOff old new replies = (before : List (List ℕ)) × (reply : List ℕ) × (n : ℕ) × (replies ≡ before ++ reply ∷ []) × Appends old new (joined before ++ take n reply)

-- these are the first whole lines of the bytes that came, or all their lines at the end of the input
abbrev pub AreFirst : List Line → List ℕ → Option (List ℕ) → Type 0
AreFirst taken came left = IsFront taken (whole came) ⊎ ((taken ≡ lines came) × IsAtEnd left)

-- what an answer of the cutter with a line says that the line is; it is asked of no last answer
abbrev pub line_of : Cut → List ℕ → Line
line_of cut.Line bytes = line bytes
line_of cut.TooLong bytes = too_long
line_of cut.End bytes = too_long
line_of cut.Failed bytes = too_long
line_of cut.Spent bytes = too_long

-- the status at the last answer of the cutter; a line has none
abbrev pub status_of : Cut → Option ℕ
status_of cut.Line = None
status_of cut.TooLong = None
status_of cut.End = Some 0
status_of cut.Failed = Some 4
status_of cut.Spent = Some 8

-- From the first state on, some bytes came from the source, lines of them were replied to, and the replies were given.
-- `left` is what the source has left, before and after, and `asked` what it was asked; `given` is what the sink has taken, and `offered` what it was offered; `contents`
-- is what the keeper has, and `calls` what it was asked, where they tell it; `count` is the keeper's, and `walked` counts the rows that were walked.
pub record Serves (first : State) (limit status : ℕ) (left left' given given' : Option (List ℕ)) (asked asked' : Option (List Take)) (offered offered' : Option (List Offer)) (count count' : ℕ) (contents contents' : Option Kept) (calls calls' : Option (List Call)) (walked walked' : ℕ) : Type 0 where
  pub came : List ℕ
  pub consumed : Consumes left left' came
  -- at most one byte beyond the limit
  pub most : length came ≤ limit + 1
  pub taken : List Line
  pub replies : List (List ℕ)
  pub last : State
  pub session : Session first count taken replies last count'
  -- no more rows were walked than the lines may walk
  pub few : walked' ≤ walked + most_walked_in first session.exchanges
  -- what was exported reads back as the rows of its view
  pub exports : AreReadBack first session.exchanges
  -- the keeper was asked for the commits of the lines, and for nothing else
  pub commits : Adds (CommitsForAll first count session.exchanges) calls calls'
  -- a keeper that told its contents tells them still, and they are those of the last state
  pub stored : Follows (λ _ now. now ≡ kept last) contents contents'
  -- at the end of the input all lines were taken
  pub all_lines : status ≡ 0 → (taken ≡ lines came) × IsAtEnd left'
  -- where the source failed, the whole lines of what came
  pub failed_lines : status ≡ 4 → taken ≡ whole came
  -- past the limit, those of the bytes up to it; one byte more came
  pub spent_lines : status ≡ 8 → (taken ≡ whole (take limit came)) × (length came ≡ limit + 1)
  -- where the sink failed, the first ones
  pub some_lines : status ≡ 5 → (taken ≢ []) × AreFirst taken came left'
  -- all replies were given, unless the sink failed; then all before the last, and a front of that
  pub all_replies : status ≢ 5 → Appends given given' (joined replies)
  pub some_replies : status ≡ 5 → BreaksOff given given' replies
  -- where the sink failed at the last reply, each whole line but for those of the last 65,536 bytes had its reply before that
  pub in_time : status ≡ 5 → ComesInTime (length replies - 1) came
  -- each call of the source had room for 65,536 bytes, or up to one byte beyond the limit; none followed one that brought nothing; and the bytes that came are theirs
  pub asks : Adds (AsksFor limit came) asked asked'
  -- where the sink failed at the last reply, each whole line of the calls before the last one had its reply before that
  pub asks_in_time : status ≡ 5 → Adds (AskedAfter (length replies - 1)) asked asked'
  -- each reply was offered whole, and then what was left of it; at the last one, where the sink failed, until it did
  pub offers : status ≢ 5 → Adds (OffersEach replies) offered offered'
  pub offers_until : status ≡ 5 → Adds (OffersUntil replies) offered offered'

-- ---- the store

-- the place of the contents, once the given one was chosen, if there is one
abbrev pub place_after : Option (List ℕ) → Option (List ℕ) → Option (List ℕ)
place_after None present = present
place_after (Some chosen) present = Some chosen

-- no place is chosen, or the contents stay where one is
abbrev pub IsAtEntry : Option (List ℕ) → Bool → Type 0
IsAtEntry store stays = (store ≡ None) ⊎ (stays ≡ true)

-- the contents are as at entry, unless others were chosen
abbrev pub StaysAtEntry : Option (List ℕ) → Bool → Option Kept → Option Kept → Type 0
StaysAtEntry store stays contents contents' = IsAtEntry store stays → Stays contents contents'

-- What was loaded opens to this. It is what was kept at entry, where that is told and no others were chosen. The keeper's count was
-- this one then, and had not fallen.
pub record Loads (store : Option (List ℕ)) (stays : Bool) (contents : Option Kept) (count start : ℕ) (result : Result State Damage) : Type 0 where
  pub loaded : Kept
  pub at_entry : IsAtEntry store stays → IfObserved contents loaded
  pub opens : opened loaded ≡ result
  pub later : count ≤ start

-- ---- what opens a store

-- A store is opened by an attach, where a place is chosen, and then by one load. Both were done, and this was the count of faults after the load.
abbrev pub OpensBy : Option (List ℕ) → ℕ → List Call → Type 0
OpensBy None start calls = calls ≡ done_call Load start ∷ []
OpensBy (Some place) start calls = (n : ℕ) × (calls ≡ done_call Attach n ∷ done_call Load start ∷ [])

-- the first of these calls that was not done was the last, and ended with this fault
abbrev pub StopsBy : Option (List ℕ) → KeepFault → List Call → Type 0
StopsBy None fault calls = (n : ℕ) × (calls ≡ stopped_call Load fault n ∷ [])
StopsBy (Some place) fault calls = ((n : ℕ) × (calls ≡ stopped_call Attach fault n ∷ [])) ⊎ ((m : ℕ) × (n : ℕ) × (calls ≡ done_call Attach m ∷ stopped_call Load fault n ∷ []))

-- one of these calls failed
abbrev pub FailsBy : Option (List ℕ) → List Call → Type 0
FailsBy store calls = StopsBy store keep.Failed calls

-- memory ran out before these calls, in them or after them; none of them failed
abbrev pub LacksMemoryBy : Option (List ℕ) → List Call → Type 0
LacksMemoryBy store calls = (calls ≡ []) ⊎ (StopsBy store keep.NoMemory calls ⊎ ((n : ℕ) × OpensBy store n calls))

-- The fault of the first call that has one, among those that open a store, if one has.
abbrev pub or_fault : Option KeepFault → Option KeepFault → Option KeepFault
or_fault None later = later
or_fault (Some fault) later = Some fault

abbrev pub opening_fault : Option (List ℕ) → List Call → Option KeepFault
opening_fault None [] = None
opening_fault None (load ∷ calls) = load.fault
opening_fault (Some place) [] = None
opening_fault (Some place) (attach ∷ []) = attach.fault
opening_fault (Some place) (attach ∷ load ∷ calls) = or_fault attach.fault load.fault

-- ---- whole runs

-- the statuses of a run that took lines
abbrev pub IsServed : ℕ → Type 0
IsServed status = (status ≡ 0) ⊎ ((status ≡ 4) ⊎ ((status ≡ 5) ⊎ (status ≡ 8)))

-- The lines of the source were served, from the state that was loaded on. The keeper was asked to open the store, and then for the commits of the lines.
pub record Runs (s : Settings) (stays : Bool) (status : ℕ) (left left' given given' : Option (List ℕ)) (asked asked' : Option (List Take)) (offered offered' : Option (List Offer)) (count count' : ℕ) (contents contents' : Option Kept) (calls calls' : Option (List Call)) (walked walked' : ℕ) : Type 0 where
  pub first : State
  pub start : ℕ
  pub loads : Loads s.store stays contents count start (Ok first)
  -- the calls once the store was opened
  pub middle : Option (List Call)
  pub opened_by : Adds (OpensBy s.store start) calls middle
  pub serves : Serves first s.max_input status left left' given given' asked asked' offered offered' start count' contents contents' middle calls' walked walked'

-- The lines of the rehearsal of n were answered, from the state that was loaded on, and their summary was given; a front of it where
-- the sink failed.
pub record Rehearses (s : Settings) (n : ℕ) (stays : Bool) (status : ℕ) (given given' : Option (List ℕ)) (offered offered' : Option (List Offer)) (count count' : ℕ) (contents contents' : Option Kept) (calls calls' : Option (List Call)) (walked walked' : ℕ) : Type 0 where
  pub first : State
  pub start : ℕ
  pub loads : Loads s.store stays contents count start (Ok first)
  pub told : List ℕ
  pub last : State
  pub middle : Option (List Call)
  pub opened_by : Adds (OpensBy s.store start) calls middle
  pub rehearsed : Rehearsed first start (rehearsal n) told last count' middle calls' walked walked'
  pub stored : Follows (λ _ now. now ≡ kept last) contents contents'
  pub all : status ≡ 0 → Appends given given' told
  pub some : status ≡ 5 → AppendsFront given given' told
  pub offers : Adds (OffersRest (length told)) offered offered'

-- Memory ran out in a rehearsal of n: before it began, and the contents are as at entry, and nothing was walked; or in it, and they are those of the last state.
pub data StopsShort (s : Settings) (n : ℕ) (stays : Bool) (count count' : ℕ) (contents contents' : Option Kept) (calls calls' : Option (List Call)) (walked walked' : ℕ) : Type 0 where
  before : StaysAtEntry s.store stays contents contents' → Adds (LacksMemoryBy s.store) calls calls' → walked' ≡ walked → StopsShort s n stays count count' contents contents' calls calls' walked walked'
  amid : (first last : State) (start : ℕ) (middle : Option (List Call)) → Loads s.store stays contents count start (Ok first) → Adds (OpensBy s.store start) calls middle
      → Stopped first start (rehearsal n) last count' middle calls' walked walked'
      → Follows (λ _ now. now ≡ kept last) contents contents' → StopsShort s n stays count count' contents contents' calls calls' walked walked'

-- What was loaded is damaged, and the line that tells its first damage was given; a front of it where the sink failed. It is what is kept, where the keeper tells that in the end.
-- The keeper was asked for nothing after it was loaded.
pub record Refuses (s : Settings) (stays : Bool) (given given' : Option (List ℕ)) (offered offered' : Option (List Offer)) (failures failures' count : ℕ) (contents contents' : Option Kept) (calls calls' : Option (List Call)) : Type 0 where
  pub damage : Damage
  pub start : ℕ
  pub loads : Loads s.store stays contents count start (Err damage)
  pub still_kept : IfObserved contents' loads.loaded
  pub opened_by : Adds (OpensBy s.store start) calls calls'
  pub told : GivesUnlessFailed given given' failures failures' (damage_text damage)
  pub offers : Adds (OffersRest (length (damage_text damage))) offered offered'

-- ---- when the status is 7

-- what is kept opens to a damage
abbrev pub IsDamaged : Kept → Type 0
IsDamaged kept = (damage : Damage) × (opened kept ≡ Err damage)
