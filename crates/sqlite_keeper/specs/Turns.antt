-- What a keeper is asked while no file is attached, call after call, and what it keeps then.
use Rattle.std.specs.Prelude.{◌≡◌, List, [], ◌∷◌, Some}
use Rattle.lens_specs.specs.Keeping.{Change, Follows, Kept, IfObserved, changed, nothing}
use Rattle.server_specs.specs.State.{State, fresh, kept}
use Rattle.memory_store.specs.InMemory.{after}
use Rattle.sqlite_keeper.specs.Unattached.{held}
use Rattle.sqlite_keeper.specs.declared.keeper.SqliteKeeper.{SqliteKeeper}

-- a call of `load` that gave contents or refused, or one of `commit` that made its change or refused it
pub data Turn : Type 0 where
  gave : Kept → Turn
  gave_nothing : Turn
  made : Change → Turn
  refused : Change → Turn

-- what a call does to a keeper, in the words of the clauses of `load` and `commit`
abbrev pub Takes : Turn → SqliteKeeper → SqliteKeeper → Type 0
Takes (gave contents) old new = IfObserved (held old) contents × (held new ≡ held old)
Takes gave_nothing old new = held new ≡ held old
Takes (made change) old new = Follows (λ before later. later ≡ changed change before) (held old) (held new)
Takes (refused change) old new = held new ≡ held old

-- calls one after another
abbrev pub TakesAll : List Turn → SqliteKeeper → SqliteKeeper → Type 0
TakesAll [] first last = held last ≡ held first
TakesAll (turn ∷ turns) first last = (next : SqliteKeeper) × Takes turn first next × TakesAll turns next last

-- the changes that were made, in order
abbrev pub changes_in : List Turn → List Change
changes_in [] = []
changes_in (gave contents ∷ turns) = changes_in turns
changes_in (gave_nothing ∷ turns) = changes_in turns
changes_in (made change ∷ turns) = change ∷ changes_in turns
changes_in (refused change ∷ turns) = changes_in turns

-- each change leads from what is kept of a state to what is kept of the next one
abbrev pub LeadFrom : List Change → State → State → Type 0
LeadFrom [] first last = kept last ≡ kept first
LeadFrom (change ∷ changes) first last = (next : State) × (kept next ≡ changed change (kept first)) × LeadFrom changes next last

-- a keeper that began with nothing attached and was not attached since
pub record KeepsInMemory : Type 0 where
  -- has the contents after all changes that it made
  pub keeps : (turns : List Turn) (first last : SqliteKeeper) → held first ≡ Some nothing → TakesAll turns first last → held last ≡ Some (after (changes_in turns) nothing)
  -- and gives these
  pub gives : (turns : List Turn) (first last next : SqliteKeeper) (contents : Kept)
      → held first ≡ Some nothing → TakesAll turns first last → Takes (gave contents) last next → contents ≡ after (changes_in turns) nothing
  -- and where each change led from one state of a server to the next, it has what is kept of the last state
  pub last_state : (turns : List Turn) (first last : SqliteKeeper) (end : State)
      → held first ≡ Some nothing → TakesAll turns first last → LeadFrom (changes_in turns) fresh end → held last ≡ Some (kept end)
