-- The laws of answers: what a refusal and a question leave, and how the version rises.
use Rattle.std.specs.Prelude.{◌≡◌, ◌+◌, ◌⊎◌, Some, IfSome, Result, Ok}
use Rattle.std.specs.FinMap as finmap
use Rattle.lens_specs.specs.Relation.{Name}
use Rattle.io_specs.specs.Lines.{Line}
use Rattle.server_specs.specs.State.{State}
use Rattle.server_specs.specs.Answer.{Answer}
use Rattle.server_specs.specs.Request.{Request, read, find_at, preview, describe, list, export, request}
use Rattle.server_specs.specs.Answering.{answer}
use Rattle.server_specs.specs.Validity.{Valid}
use Rattle.server_laws.specs.Answers.{IsRefusal, IsFailure, IsChange, told_version}

-- a refusal leaves the state as it was
abbrev pub RefusalsChangeNothing : Type 0
RefusalsChangeNothing = (s : State) (l : Line) → IsRefusal (answer s l).0 → (answer s l).1 ≡ s

-- what is only asked, or foretold
abbrev pub IsQuestion : Result Request Answer → Type 0
IsQuestion (Ok (read name)) = Unit {0}
IsQuestion (Ok (find_at name column json)) = Unit {0}
IsQuestion (Ok (preview name remove add on)) = Unit {0}
IsQuestion (Ok (describe name)) = Unit {0}
IsQuestion (Ok list) = Unit {0}
IsQuestion (Ok (export name)) = Unit {0}
IsQuestion other = ⊥

-- a question leaves the state as it was
abbrev pub QuestionsChangeNothing : Type 0
QuestionsChangeNothing = (s : State) (l : Line) → IsQuestion (request l) → (answer s l).1 ≡ s

-- no answer says that the machine failed
abbrev pub AnswersDoNotFail : Type 0
AnswersDoNotFail = (s : State) (l : Line) → IsFailure (answer s l).0 → ⊥

-- a change that is not only foretold raises the version by one
abbrev pub ChangesRaiseVersions : Type 0
ChangesRaiseVersions = (s : State) (l : Line) → (IsQuestion (request l) → ⊥) → IsChange (answer s l).0 → (answer s l).1.version ≡ s.version + 1

-- every other answer leaves a valid state, and so the version
abbrev pub OthersStay : Type 0
OthersStay = (s : State) → Valid s → (l : Line) → (IsChange (answer s l).0 → ⊥) → (answer s l).1 ≡ s

-- the version that an answer tells is the one after it
abbrev pub VersionsAreTold : Type 0
VersionsAreTold = (s : State) (l : Line) → IfSome (told_version (answer s l).0) (λ version. version ≡ (answer s l).1.version)

-- a table was last changed at the version after, or nothing of it differs
abbrev pub IsLast : State → State → Name → Type 0
IsLast before after name =
    (finmap.get after.last name ≡ Some after.version)
    ⊎ ((finmap.get after.last name ≡ finmap.get before.last name) × (finmap.get after.tables name ≡ finmap.get before.tables name))

-- each table that an answer changes was last changed at the version after it
abbrev pub LastFollows : Type 0
LastFollows = (s : State) (l : Line) → Valid s → (name : Name) → IsLast s (answer s l).1 name
