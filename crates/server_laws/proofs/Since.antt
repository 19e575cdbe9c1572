-- What stays, and what moves, from a state on.
use Rattle.std.proofs.Common.{◌≡◌, ◌+◌, ◌<◌, ◌≤◌, ◌⊎◌, ℕ, List, [], ◌∷◌, Some, inl, inr, refl, sym, subst, ◌∙◌, arith}
use Rattle.std.specs.FinMap as finmap
use Rattle.lens_specs.specs.Common.{Name, Lens}
use Rattle.server_specs.specs.Common.{Line, State, answer, Replies, answered, not_stored, found_memory, out_of_memory, Exchange, Chain, last_state, Valid}
use Rattle.server_laws.proofs.AnswerFacts.{said}
use Rattle.server_laws.proofs.Definitions.{Has, lenses_stay}
use Rattle.server_laws.proofs.Last.{last_answer}
use Rattle.server_laws.proofs.Valid.{valid_step}
use Rattle.server_laws.specs.AnswerLaws.{IsLast}

-- a table is as it was, and so is its last change; or it was changed last after the first state
abbrev pub Goes : State → State → Name → Type 0
Goes s t q =
    ((finmap.get t.last q ≡ finmap.get s.last q) × (finmap.get t.tables q ≡ finmap.get s.tables q))
    ⊎ ((w : ℕ) × (finmap.get t.last q ≡ Some w) × (s.version < w))

-- the version does not fall, lenses stay, and each table goes on
pub record Since (s t : State) : Type 0 where
  pub rises : s.version ≤ t.version
  pub lenses : (name : Name) (L : Lens) → Has s name L → Has t name L
  pub tables : (q : Name) → Goes s t q

since_itself : (s : State) → Since s s
since_itself s = record { rises = omega arith; lenses = λ name L h. h; tables = λ q. inl (refl, refl) }

goes_on : (s t u : State) (q : Name) → s.version ≤ t.version → Goes s t q → Goes t u q → Goes s u q
goes_on s t u q r (inl a) (inl b) = inl (b.0 ∙ a.0, b.1 ∙ a.1)
goes_on s t u q r (inr a) (inl b) = inr (a.0, b.0 ∙ a.1, a.2)
goes_on s t u q r (inl a) (inr b) = inr (b.0, b.1, (let h = b.2 in omega arith))
goes_on s t u q r (inr a) (inr b) = inr (b.0, b.1, (let h = b.2 in omega arith))

pub since_on : (s t u : State) → Since s t → Since t u → Since s u
since_on s t u a b = record {
  rises = (let x = a.rises in let y = b.rises in omega arith);
  lenses = λ name L h. b.lenses name L (a.lenses name L h);
  tables = λ q. goes_on s t u q a.rises (a.tables q) (b.tables q);
}

-- ---- one answer

-- where the version rose, what was last changed at it was changed after
goes_one : (s t : State) (q : Name) → t.version ≡ s.version + 1 → IsLast s t q → Goes s t q
goes_one s t q e (inl h) = inr (t.version, h, omega arith)
goes_one s t q e (inr h) = inl h

since_moved : (s t : State) → (t ≡ s) ⊎ (t.version ≡ s.version + 1) → ((name : Name) (L : Lens) → Has s name L → Has t name L) → ((q : Name) → IsLast s t q) → Since s t
since_moved s t (inl same) lenses last = subst (Since s) (sym same) (since_itself s)
since_moved s t (inr rose) lenses last = record { rises = omega arith; lenses = lenses; tables = λ q. goes_one s t q rose (last q) }

since_answer : (s : State) → Valid s → (l : Line) → Since s (answer s l).1
since_answer s v l = since_moved s (answer s l).1 (said s l).moves (λ name L h. lenses_stay s l name L h) (λ q. last_answer s l v q)

-- ---- sessions

pub since_step : (s : State) (count : ℕ) (l : Line) (reply : List ℕ) (t : State) (count' : ℕ) → Valid s → Replies s count l reply t count' → Since s t
since_step s count l reply t count' v r = elim r [
  | found_memory (answered told is) ↦ subst (Since s) (sym is) (since_answer s v l)
  | out_of_memory short told is ↦ subst (Since s) (sym is) (since_itself s)
  | found_memory (not_stored told is moved grew) ↦ subst (Since s) (sym is) (since_itself s)
]

pub since_chain : (s : State) (count : ℕ) (es : List Exchange) → Valid s → Chain s count es → Since s (last_state s es)
since_chain s count [] v c = since_itself s
since_chain s count (e ∷ es) v c = since_on s e.state (last_state e.state es) (since_step s count e.line e.reply e.state e.count v c.0.replied)
    (since_chain e.state e.count es (valid_step s count e.line e.reply e.state e.count v c.0.replied) c.1)
