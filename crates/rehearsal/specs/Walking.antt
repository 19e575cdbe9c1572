-- How many rows the answers to lines may walk, and how many they may look at by key.
use Rattle.std.specs.Prelude.{ℕ, ◌+◌, List, [], ◌∷◌, Result}
use Rattle.server_specs.specs.Answer.{Answer}
use Rattle.server_specs.specs.Request.{Request, request}
use Rattle.server_specs.specs.Session.{Exchange}
use Rattle.server_specs.specs.State.{State}
use Rattle.lens_server.specs.Counting.{most_looked, most_walked}

-- for each line of these exchanges the most that it may count in the state before it, from this state on
abbrev pub most_in : (Result Request Answer → State → ℕ) → State → List Exchange → ℕ
most_in most s [] = 0
most_in most s (e ∷ exchanges) = most (request e.line) s + most_in most e.state exchanges

-- the most rows that these exchanges may walk, from the state on
abbrev pub most_walked_in : State → List Exchange → ℕ
most_walked_in = most_in most_walked

-- the most rows that they may look at by key
abbrev pub most_looked_in : State → List Exchange → ℕ
most_looked_in = most_in most_looked
