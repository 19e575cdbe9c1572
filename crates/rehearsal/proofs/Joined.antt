-- One session after another.
use Rattle.std.proofs.Common.{◌≡◌, ◌≤◌, ◌+◌, ℕ, List, [], ◌∷◌, ◌++◌, map, length, refl, ap, sym, subst, ◌∙◌, arith, append-nil, append_assoc, Option, Result}
use Rattle.std.proofs.lemmas.List.{map-append, length-map}
use Rattle.server_specs.specs.Common.{Adds, Line, State, Answer, Request, request, Exchange, Chain, Step, last_state, last_count, Session}
use Rattle.io_specs.proofs.Calls.{Adds-then, Adds-weaker}
use Rattle.server_laws.proofs.AnswerFacts.{version_step}
use Rattle.table_keeper.specs.declared.calls.Call.{Call}
use Rattle.lens_server.specs.Committing.{CommitsFor, CommitsForAll}
use Rattle.rehearsal.specs.Walking.{most_in}

Chain-append : (s : State) (count : ℕ) (es fs : List Exchange) → Chain s count es → Chain (last_state s es) (last_count count es) fs → Chain s count (es ++ fs)
Chain-append s count [] fs p q = q
Chain-append s count (e ∷ es) fs p q = (p.0, Chain-append e.state e.count es fs p.1 q)

last_state-append : (s : State) (es fs : List Exchange) → last_state s (es ++ fs) ≡ last_state (last_state s es) fs
last_state-append s [] fs = refl
last_state-append s (e ∷ es) fs = last_state-append e.state es fs

last_count-append : (count : ℕ) (es fs : List Exchange) → last_count count (es ++ fs) ≡ last_count (last_count count es) fs
last_count-append count [] fs = refl
last_count-append count (e ∷ es) fs = last_count-append e.count es fs

-- two sessions, where the second goes on from the first, are one
pub Session-append : (s : State) (count : ℕ) (lines : List Line) (replies : List (List ℕ)) (mid : State) (between : ℕ) (lines' : List Line) (replies' : List (List ℕ)) (last : State) (after : ℕ)
    → Session s count lines replies mid between → Session mid between lines' replies' last after → Session s count (lines ++ lines') (replies ++ replies') last after
Session-append s count lines replies mid between lines' replies' last after p q =
    let from : Chain (last_state s p.exchanges) (last_count count p.exchanges) q.exchanges =
    subst (λ c. Chain (last_state s p.exchanges) c q.exchanges) (sym p.count_is) (subst (λ t. Chain t between q.exchanges) (sym p.last_is) q.chain) in
    record {
      exchanges = p.exchanges ++ q.exchanges;
      chain = Chain-append s count p.exchanges q.exchanges p.chain from;
      lines_are = map-append (λ x. x.line) p.exchanges q.exchanges ∙ (λ i. p.lines_are i ++ q.lines_are i);
      replies_are = map-append (λ x. x.reply) p.exchanges q.exchanges ∙ (λ i. p.replies_are i ++ q.replies_are i);
      last_is = last_state-append s p.exchanges q.exchanges ∙ ap (λ t. last_state t q.exchanges) p.last_is ∙ q.last_is;
      count_is = last_count-append count p.exchanges q.exchanges ∙ ap (λ c. last_count c q.exchanges) p.count_is ∙ q.count_is;
    }

-- one line makes a session
pub Session-one : (s : State) (count : ℕ) (l : Line) (reply : List ℕ) (last : State) (after : ℕ) → Step s count l reply last after → Session s count (l ∷ []) (reply ∷ []) last after
Session-one s count l reply last after step = record {
  exchanges = record { line = l; reply = reply; state = last; count = after } ∷ [];
  chain = (step, tt);
  lines_are = refl;
  replies_are = refl;
  last_is = refl;
  count_is = refl;
}

-- a session that goes on by a line has one exchange more
pub exchanges-more : (s : State) (count : ℕ) (lines : List Line) (replies : List (List ℕ)) (mid : State) (between : ℕ) (p : Session s count lines replies mid between)
    (l : Line) (reply : List ℕ) (last : State) (after : ℕ) (step : Step mid between l reply last after)
    → (Session-append s count lines replies mid between (l ∷ []) (reply ∷ []) last after p (Session-one mid between l reply last after step)).exchanges
    ≡ p.exchanges ++ record { line = l; reply = reply; state = last; count = after } ∷ []
unfolding Session-append Session-one
exchanges-more s count lines replies mid between p l reply last after step = refl

-- ---- rows that are walked, or looked at by key

module _ (most : Result Request Answer → State → ℕ) where
  -- exchanges after others may count what both may
  most_in-append : (s : State) (es fs : List Exchange) → most_in most s (es ++ fs) ≡ most_in most s es + most_in most (last_state s es) fs
  most_in-append s [] fs = omega arith
  most_in-append s (e ∷ es) fs = omega (arith, most_in-append e.state es fs)

  -- a session after another counts no more than both may
  pub few-append : (s : State) (count : ℕ) (lines : List Line) (replies : List (List ℕ)) (mid : State) (between : ℕ) (lines' : List Line) (replies' : List (List ℕ)) (last : State) (after : ℕ)
      → (p : Session s count lines replies mid between) (q : Session mid between lines' replies' last after) (old amid new : ℕ) → amid ≤ old + most_in most s p.exchanges
      → new ≤ amid + most_in most mid q.exchanges → new ≤ old + most_in most s (Session-append s count lines replies mid between lines' replies' last after p q).exchanges
  unfolding Session-append
  few-append s count lines replies mid between lines' replies' last after p q old amid new few few' =
      omega (arith, few, few', most_in-append s p.exchanges q.exchanges, ap (λ t. most_in most t q.exchanges) p.last_is)

  -- a line counts no more than it may
  pub few-one : (s : State) (count : ℕ) (l : Line) (reply : List ℕ) (last : State) (after : ℕ) (step : Step s count l reply last after) (old new : ℕ) → new ≤ old + most (request l) s
      → new ≤ old + most_in most s (Session-one s count l reply last after step).exchanges
  unfolding Session-one
  few-one s count l reply last after step old new few = omega (arith, few)

-- ---- commits

-- the commits of exchanges, and those of the ones after them
CommitsForAll-append : (s : State) (count : ℕ) (es fs : List Exchange) (first later : List Call) → CommitsForAll s count es first → CommitsForAll (last_state s es) (last_count count es) fs later
    → CommitsForAll s count (es ++ fs) (first ++ later)
CommitsForAll-append s count [] fs first later p q = subst (λ cs. CommitsForAll s count fs (cs ++ later)) (sym p) q
CommitsForAll-append s count (e ∷ es) fs first later p q =
    (p.0, p.1 ++ later, ap (λ cs. cs ++ later) p.2 ∙ append_assoc p.0 p.1 later, p.3, CommitsForAll-append e.state e.count es fs p.1 later p.4 q)

pub commits-append : (s : State) (count : ℕ) (lines : List Line) (replies : List (List ℕ)) (mid : State) (between : ℕ) (lines' : List Line) (replies' : List (List ℕ)) (last : State) (after : ℕ)
    (p : Session s count lines replies mid between) (q : Session mid between lines' replies' last after) (calls amid calls' : Option (List Call))
    → Adds (CommitsForAll s count p.exchanges) calls amid → Adds (CommitsForAll mid between q.exchanges) amid calls'
    → Adds (CommitsForAll s count (Session-append s count lines replies mid between lines' replies' last after p q).exchanges) calls calls'
unfolding Session-append
commits-append s count lines replies mid between lines' replies' last after p q calls amid calls' h k =
    Adds-then (CommitsForAll s count p.exchanges) (CommitsForAll mid between q.exchanges) (CommitsForAll s count (p.exchanges ++ q.exchanges)) calls amid calls'
    (λ first later f l. CommitsForAll-append s count p.exchanges q.exchanges first later f
    (subst (λ c. CommitsForAll (last_state s p.exchanges) c q.exchanges later) (sym p.count_is) (subst (λ t. CommitsForAll t between q.exchanges later) (sym p.last_is) l))) h k

-- the commit of a line
pub commits-one : (s : State) (count : ℕ) (l : Line) (reply : List ℕ) (last : State) (after : ℕ) (step : Step s count l reply last after) (calls calls' : Option (List Call))
    → Adds (CommitsFor s count (record { line = l; reply = reply; state = last; count = after })) calls calls' → Adds (CommitsForAll s count (Session-one s count l reply last after step).exchanges) calls calls'
unfolding Session-one
commits-one s count l reply last after step calls calls' h =
    Adds-weaker (CommitsFor s count (record { line = l; reply = reply; state = last; count = after })) (CommitsForAll s count (record { line = l; reply = reply; state = last; count = after } ∷ [])) calls calls'
    (λ mine m. (mine, [], sym (append-nil mine), m, refl)) h

-- ---- counts

version-chain : (s : State) (count : ℕ) (es : List Exchange) → Chain s count es → (last_state s es).version ≤ s.version + length es
version-chain s count [] h = omega arith
version-chain s count (e ∷ es) h = omega (arith, version-chain e.state e.count es h.1, version_step s count e.line e.reply e.state e.count h.0)

-- a line raises the version by one at most
pub version-session : (s : State) (count : ℕ) (lines : List Line) (replies : List (List ℕ)) (last : State) (after : ℕ) → Session s count lines replies last after → last.version ≤ s.version + length lines
version-session s count lines replies last after h =
    let long : length (map (λ x. x.line) h.exchanges) ≡ length lines = ap length h.lines_are in
    omega (arith, version-chain s count h.exchanges h.chain, ap (λ t. t.version) h.last_is, long, length-map h.exchanges (λ x. x.line))

later-chain : (s : State) (count : ℕ) (es : List Exchange) → Chain s count es → count ≤ last_count count es
later-chain s count [] h = omega arith
later-chain s count (e ∷ es) h = omega (arith, later-chain e.state e.count es h.1, h.0.later)

-- no count falls
pub later-session : (s : State) (count : ℕ) (lines : List Line) (replies : List (List ℕ)) (last : State) (after : ℕ) → Session s count lines replies last after → count ≤ after
later-session s count lines replies last after h = omega (arith, later-chain s count h.exchanges h.chain, h.count_is)

-- a line gets one reply
pub length-replies : (s : State) (count : ℕ) (lines : List Line) (replies : List (List ℕ)) (last : State) (after : ℕ) → Session s count lines replies last after → length replies ≡ length lines
length-replies s count lines replies last after h =
    sym (ap length h.replies_are) ∙ length-map h.exchanges (λ x. x.reply) ∙ sym (length-map h.exchanges (λ x. x.line)) ∙ ap length h.lines_are
