-- What is planned for a request.
use Rattle.std.specs.Prelude.{ℕ, ◌+◌, ◌≤◌, Result, IfOk}
use Rattle.no_memory.specs.declared.NoMemory.{NoMemory}
use Rattle.lens_specs.specs.Lens.{Lens}
use Rattle.server_specs.specs.Answer.{Answer}
use Rattle.server_specs.specs.Answering.{answer_request}
use Rattle.server_specs.specs.Request.{Request}
use Rattle.server_specs.specs.State.{State}
use Rattle.database.specs.States.{state_of}
use Rattle.database.specs.Plans.{IsPlan}
use Rattle.database.specs.declared.database.Database.{Database}
use Rattle.database.specs.declared.plan.Plan.{Plan}
use Rattle.lens_server.specs.Counting.{Walks, most_looked, most_walked}
use Rattle.lens_server.specs.Exports.{ExportReadsBack}
use Rattle.lens_server.specs.ViewRequests.{IsToldBack, looks_of, told_of, walks_of}
use Rattle.lens_server.specs.declared.views.ViewRequest.{ViewRequest}

-- The plan is to what is expected, and what it exports reads back. So many rows at most are walked, and looked at by key.
pub record Plans (expected : Answer × State) (back : Type 0) (walks looks : ℕ) (database : Database) (result : Result Plan NoMemory) (walked walked' looked looked' : ℕ) : Type 0 where
  pub plan : IfOk result (λ plan. IsPlan plan expected database)
  pub reads_back : IfOk result (λ _. back)
  pub walk : Walks result database walked walked' walks
  pub look : looked' ≤ looked + looks
  pub walks_on : walked ≤ walked'

-- the plan for a request in this state
abbrev pub PlansFor : Result Request Answer → State → Database → Result Plan NoMemory → ℕ → ℕ → ℕ → ℕ → Type 0
PlansFor asked s database result walked walked' looked looked' =
    Plans (answer_request asked s) (ExportReadsBack asked s) (most_walked asked s) (most_looked asked s) database result walked walked' looked looked'

-- the plan for what is asked of the view of this lens
abbrev pub PlansView : ViewRequest → Lens → Database → Result Plan NoMemory → ℕ → ℕ → ℕ → ℕ → Type 0
PlansView asked L database result walked walked' looked looked' =
    Plans (told_of asked L (state_of database)) (IsToldBack asked L database.tables.present.relations) (walks_of asked L database.tables.present.relations) (looks_of asked L database.tables.present.relations)
    database result walked walked' looked looked'
