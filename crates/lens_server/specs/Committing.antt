-- What the lines of a session ask of the keeper.
use Rattle.std.specs.Prelude.{◌≡◌, ◌++◌, ℕ, List, [], ◌∷◌}
use Rattle.server_specs.specs.Answering.{answer}
use Rattle.server_specs.specs.Session.{Exchange}
use Rattle.server_specs.specs.State.{State}
use Rattle.table_keeper.specs.declared.calls.Call.{Call}
pub use Rattle.database.specs.Committing.{Commits, IsReply}

-- what is asked for an exchange, from this state and count on
abbrev pub CommitsFor : State → ℕ → Exchange → List Call → Type 0
CommitsFor s count e calls = Commits (answer s e.line) s e.state count e.count e.reply calls

-- what is asked for exchanges, one after another
abbrev pub CommitsForAll : State → ℕ → List Exchange → List Call → Type 0
CommitsForAll s count [] calls = calls ≡ []
CommitsForAll s count (e ∷ exchanges) calls =
    (mine : List Call) × (others : List Call) × (calls ≡ mine ++ others) × CommitsFor s count e mine × CommitsForAll e.state e.count exchanges others
