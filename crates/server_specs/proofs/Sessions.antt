-- A session goes on by one step.
use Rattle.std.proofs.Common.{◌≡◌, ◌+◌, ℕ, List, [], ◌∷◌, ◌++◌, refl}
use Rattle.server_specs.specs.State.{State}
use Rattle.server_specs.specs.Session.{Step, Exchange, Chain, last_state, last_count, Session}

Chain-push : (s : State) (count : ℕ) (es : List Exchange) (e : Exchange) → Chain s count es
    → Step (last_state s es) (last_count count es) e.line e.reply e.state e.count → Chain s count (es ++ e ∷ [])
Chain-push s count [] e chain step = (step, tt)
Chain-push s count (x ∷ es) e chain step = (chain.0, Chain-push x.state x.count es e chain.1 step)

last_state-push : (s : State) (es : List Exchange) (e : Exchange) → last_state s (es ++ e ∷ []) ≡ e.state
last_state-push s [] e = refl
last_state-push s (x ∷ es) e = last_state-push x.state es e

last_count-push : (count : ℕ) (es : List Exchange) (e : Exchange) → last_count count (es ++ e ∷ []) ≡ e.count
last_count-push count [] e = refl
last_count-push count (x ∷ es) e = last_count-push x.count es e

abbrev pub Session-nil : (s : State) (count : ℕ) → Session s count [] [] s count
Session-nil s count = record { exchanges = []; chain = tt; lines_are = refl; replies_are = refl; last_is = refl; count_is = refl }
