-- The laws of opening a store.
use Rattle.std.specs.Prelude.{◌≡◌, ◌↔◌, ℕ, List, [], Ok}
use Rattle.io_specs.specs.Lines.{Line}
use Rattle.lens_specs.specs.Keeping.{Kept, nothing}
use Rattle.server_specs.specs.State.{State, fresh, kept}
use Rattle.server_specs.specs.Session.{Session}
use Rattle.server_specs.specs.Validity.{Valid}
use Rattle.opening_specs.specs.Opening.{mapped, opened}

-- the state with every version 0, and no change that can be undone
abbrev pub at_start : State → State
at_start s = record s { version = 0; last = mapped (λ e. 0) s.tables; past = [] }

-- where nothing is kept, the state of no definitions is opened
abbrev pub NothingOpens : Type 0
NothingOpens = opened nothing ≡ Ok fresh

-- a state that is opened is valid
abbrev pub OpenedIsValid : Type 0
OpenedIsValid = (contents : Kept) (s : State) → opened contents ≡ Ok s → Valid s

-- and what is kept of it is what was opened
abbrev pub OpenedIsKept : Type 0
OpenedIsKept = (contents : Kept) (s : State) → opened contents ≡ Ok s → kept s ≡ contents

-- and every version is 0, and no change can be undone
abbrev pub OpenedIsAtStart : Type 0
OpenedIsAtStart = (contents : Kept) (s : State) → opened contents ≡ Ok s → s ≡ at_start s

-- what is kept of a valid state opens to it, with every version 0, and no change that can be undone
abbrev pub KeptIsOpened : Type 0
KeptIsOpened = (s : State) → Valid s → opened (kept s) ≡ Ok (at_start s)

-- a store opens to a state exactly where it is what is kept of a valid one
abbrev pub OpensWhereKept : Type 0
OpensWhereKept = (contents : Kept) → ((s : State) × (opened contents ≡ Ok s)) ↔ ((s : State) × Valid s × (kept s ≡ contents))

-- what a session leaves, from a state that was opened on, opens again: the same texts and the same tables
abbrev pub SessionsOpenAgain : Type 0
SessionsOpenAgain = (contents : Kept) (s : State) → opened contents ≡ Ok s → (count : ℕ) (lines : List Line) (replies : List (List ℕ)) (last : State) (count' : ℕ)
    → Session s count lines replies last count' → opened (kept last) ≡ Ok (at_start last)
