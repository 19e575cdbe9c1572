-- Sessions are complete, and faults are counted.
use Rattle.std.proofs.Common.{◌≡◌, ◌≤◌, ◌<◌, ◌+◌, ◌-◌, ◌^◌, ℕ, Bool, true, false, cond, List, [], ◌∷◌, map, refl, sym, ap, subst, inl, inr, ◌∙◌, arith, ◌≢◌, min, count_by}
use Rattle.plain_values.proofs.Common.{AllByRecursion, sum_by-cons}
use Rattle.server_specs.specs.Common.{Rose, Line, State, memory, store_fault, text, answer, answered, not_stored, found_memory, out_of_memory, Replies, Step, Exchange, Chain, last_state, last_count}
use Rattle.server_laws.specs.SessionLaws.{AllLeave, answers, state_after, AreAnswered, is_fault, RepliesAreAnswers, SessionsAreComplete, FaultsAreCounted, CountsStay}
use Rattle.server_laws.proofs.AnswerFacts.{said}
use Rattle.server_laws.proofs.Texts.{no_fault_read, no_fault_in_memory, fault_read, not_memory, not_fault}

abbrev lines_of : List Exchange → List Line
lines_of = map (λ e. e.line)

abbrev replies_of : List Exchange → List (List ℕ)
replies_of = map (λ e. e.reply)

counts_rise : (s : State) (count : ℕ) (es : List Exchange) → Chain s count es → count ≤ last_count count es
counts_rise s count [] c = omega arith
counts_rise s count (e ∷ es) c = let h = c.0.later in let k = counts_rise e.state e.count es c.1 in omega arith

-- a count that rose between two others rose between them
rose_within : (top a b c d : ℕ) → a ≤ b → c ≤ d → min (b + 1) top ≤ c → min (a + 1) top ≤ d
rose_within top a b c d h k r = omega arith

-- a chain with no rise has none in what follows its first step
quiet_after : (s : State) (count : ℕ) (e : Exchange) (es : List Exchange) → Chain s count (e ∷ es) → (Rose count (last_count e.count es) → ⊥) → Rose e.count (last_count e.count es) → ⊥
quiet_after s count e es c quiet r = quiet (rose_within _ count e.count (last_count e.count es) (last_count e.count es) c.0.later (omega arith) r)

-- nor in its first step
quiet_first : (s : State) (count : ℕ) (e : Exchange) (es : List Exchange) → Chain s count (e ∷ es) → (Rose count (last_count e.count es) → ⊥) → Rose count e.count → ⊥
quiet_first s count e es c quiet r = let grows = counts_rise e.state e.count es c.1 in quiet (rose_within _ count count e.count (last_count e.count es) (omega arith) grows r)

-- ---- each reply is an answer, or that of memory

answered_on : (s : State) (count : ℕ) (e : Exchange) (es : List Exchange) (last : State) → Replies s count e.line e.reply e.state e.count → (Rose count e.count → ⊥)
    → AreAnswered e.state (lines_of es) (replies_of es) last → AreAnswered s (lines_of (e ∷ es)) (replies_of (e ∷ es)) last
answered_on s count e es last (found_memory (answered told is)) quiet rest = inl (told, subst (λ t. AreAnswered t (lines_of es) (replies_of es) last) is rest)
answered_on s count e es last (out_of_memory short told is) quiet rest = inr (short, told, subst (λ t. AreAnswered t (lines_of es) (replies_of es) last) is rest)
answered_on s count e es last (found_memory (not_stored told is moved rose)) quiet rest = absurd (quiet rose)

chain_answered : (s : State) (count : ℕ) (es : List Exchange) → Chain s count es → (Rose count (last_count count es) → ⊥) → AreAnswered s (lines_of es) (replies_of es) (last_state s es)
chain_answered s count [] c quiet = refl
chain_answered s count (e ∷ es) c quiet =
    answered_on s count e es (last_state e.state es) c.0.replied (quiet_first s count e es c quiet) (chain_answered e.state e.count es c.1 (quiet_after s count e es c quiet))

pub replies_are_answers : RepliesAreAnswers
replies_are_answers s count lines replies last count' session quiet =
    subst (AreAnswered s lines replies) session.last_is
    (subst (λ rs. AreAnswered s lines rs (last_state s session.exchanges)) session.replies_are
    (subst (λ ls. AreAnswered s ls (replies_of session.exchanges) (last_state s session.exchanges)) session.lines_are
    (chain_answered s count session.exchanges session.chain (λ r. quiet (subst (Rose count) session.count_is r)))))

-- ---- all are answers

abbrev AreAll : State → List Line → List (List ℕ) → State → Type 0
AreAll s lines replies last = (replies ≡ map text (answers s lines)) × (last ≡ state_after s lines)

all_answered : (s : State) (lines : List Line) (replies : List (List ℕ)) (last : State) → AllByRecursion (λ reply. reply ≢ text memory) replies
    → AreAnswered s lines replies last → AreAll s lines replies last
all_answered s [] [] last found a = (refl, a)
all_answered s [] (reply ∷ replies) last found a = absurd a
all_answered s (l ∷ lines) [] last found a = absurd a
all_answered s (l ∷ lines) (reply ∷ replies) last found a = elim a [
  | inl h ↦ (let w = all_answered (answer s l).1 lines replies last found.1 h.1 in (λ i. h.0 i ∷ w.0 i, w.1))
  | inr h ↦ absurd (found.0 h.1)
]

pub complete : SessionsAreComplete
complete s count lines replies last count' session quiet found = all_answered s lines replies last found (replies_are_answers s count lines replies last count' session quiet)

-- ---- faults are counted

-- a reply that tells a fault is a rise
counted : (s : State) (count : ℕ) (e : Exchange) → Step s count e.line e.reply e.state e.count → e.count < 2 ^ 64 - 1 → count + cond (is_fault e.reply) 1 0 ≤ e.count
counted s count e step below = by step.replied
  where
    told_by : (b : Bool) → is_fault e.reply ≡ b → count + cond b 1 0 ≤ e.count → count + cond (is_fault e.reply) 1 0 ≤ e.count
    told_by b is h = subst (λ x. count + cond x 1 0 ≤ e.count) (sym is) h

    stays : is_fault e.reply ≡ false → count + cond (is_fault e.reply) 1 0 ≤ e.count
    stays is = told_by false is (let h = step.later in omega arith)

    by : Replies s count e.line e.reply e.state e.count → count + cond (is_fault e.reply) 1 0 ≤ e.count
    by (found_memory (answered told is)) = stays (ap is_fault told ∙ no_fault_read (answer s e.line).0 (said s e.line).failure)
    by (out_of_memory short told is) = stays (ap is_fault told ∙ no_fault_in_memory)
    by (found_memory (not_stored told is moved rose)) = told_by true (ap is_fault told ∙ fault_read) (omega arith)

chain_counted : (s : State) (count : ℕ) (es : List Exchange) → Chain s count es → last_count count es < 2 ^ 64 - 1 → count + count_by is_fault (replies_of es) ≤ last_count count es
chain_counted s count [] c below = omega arith
chain_counted s count (e ∷ es) c below =
    let grows = counts_rise e.state e.count es c.1 in
    let rest = chain_counted e.state e.count es c.1 below in
    let first = counted s count e c.0 (omega arith) in
    let more = sum_by-cons (λ r. cond (is_fault r) 1 0) e.reply (replies_of es) in
    omega (arith, more, rest, first)

pub faults_counted : FaultsAreCounted
faults_counted s count lines replies last count' session below =
    subst (λ n. count + count_by is_fault replies ≤ n) session.count_is
    (subst (λ rs. count + count_by is_fault rs ≤ last_count count session.exchanges) session.replies_are
    (chain_counted s count session.exchanges session.chain (subst (λ n. n < 2 ^ 64 - 1) (sym session.count_is) below)))

pub read_otherwise : (s : State) (l : Line) → (text (answer s l).0 ≢ text memory) × (text (answer s l).0 ≢ text store_fault)
read_otherwise s l = (not_memory (answer s l).0 (said s l).failure, not_fault (answer s l).0 (said s l).failure)

-- ---- counts that stay

chain_stays : (s : State) (count : ℕ) (es : List Exchange) → Chain s count es → AllLeave s es → last_count count es ≡ count
chain_stays s count [] c h = refl
chain_stays s count (e ∷ es) c h = chain_stays e.state e.count es c.1 h.1 ∙ c.0.still h.0

pub counts_stay : CountsStay
counts_stay s count lines replies last count' session h = sym session.count_is ∙ chain_stays s count session.exchanges session.chain h
