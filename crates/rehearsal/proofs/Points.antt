-- How a rehearsal goes on.
use Rattle.std.proofs.Common.{◌≡◌, ◌≢◌, ◌≤◌, ◌+◌, ℕ, List, [], ◌∷◌, ◌++◌, length, refl, ap, sym, ◌∙◌, arith, append-nil, append_assoc, None, Some, Option, Result, Ok, Err, OnErr, Bool, true, false, not, if◌then◌else◌, count_by}
use Rattle.std.specs.List.{AllByRecursion}
use Rattle.std.proofs.lemmas.List.Sums.{sum_by-append, count_by-le-length}
use Rattle.lens_specs.specs.Common.{Kept, Follows, IfObserved}
use Rattle.server_specs.specs.Common.{Adds, Line, State, kept, memory, text, Step, request}
use Rattle.io_specs.proofs.Calls.{Adds-none}
use Rattle.server_specs.proofs.Sessions.{Session-nil}
use Rattle.lens_server.specs.Committing.{CommitsFor}
use Rattle.lens_server.specs.Counting.{most_looked, most_walked}
use Rattle.rehearsal.specs.Summary.{is_ok, is_refusal}
use Rattle.rehearsal.specs.Rehearsed.{EndsAtMemory, Stopped}
use Rattle.rehearsal.specs.Stages.{Point, Passed, Halted, HasRoom, counted}
use Rattle.rehearsal.specs.Walking.{most_looked_in}
use Rattle.rehearsal.specs.declared.tally.Tally.{Tally}
use Rattle.rehearsal.proofs.Joined.{Session-append, Session-one, commits-append, commits-one, few-append, few-one, version-session, later-session, length-replies}

-- ---- what is kept

-- where the contents are told, they are those of this state
abbrev IsStored : State → Option Kept → Option Kept → Type 0
IsStored s = Follows (λ _ now. now ≡ kept s)

told_now : (s : State) (contents contents' : Option Kept) → IsStored s contents contents' → IfObserved contents' (kept s)
told_now s None None h = tt
told_now s None (Some now) h = absurd h
told_now s (Some old) None h = absurd h
told_now s (Some old) (Some now) h = h

stored_same : (s : State) (contents : Option Kept) → IfObserved contents (kept s) → IsStored s contents contents
stored_same s None h = tt
stored_same s (Some now) h = h

stored_next : (s s' : State) (contents mid contents' : Option Kept) → IsStored s contents mid → IsStored s' mid contents' → IsStored s' contents contents'
stored_next s s' None None contents' p q = q
stored_next s s' None (Some m) contents' p q = absurd p
stored_next s s' (Some old) None contents' p q = absurd p
stored_next s s' (Some old) (Some m) None p q = absurd q
stored_next s s' (Some old) (Some m) (Some now) p q = q

-- ---- stages that went through

AllByRecursion-append : {X : Type 0} (P : X → Type 0) (xs ys : List X) → AllByRecursion P xs → AllByRecursion P ys → AllByRecursion P (xs ++ ys)
AllByRecursion-append P [] ys p q = q
AllByRecursion-append P (x ∷ xs) ys p q = (p.0, AllByRecursion-append P xs ys p.1 q)

counted-append : (t : Tally) (replies replies' : List (List ℕ)) → counted (counted t replies) replies' ≡ counted t (replies ++ replies')
counted-append t replies replies' =
    let accepted : (t.accepted + count_by is_ok replies) + count_by is_ok replies' ≡ t.accepted + count_by is_ok (replies ++ replies') = omega (arith, sum_by-append (λ r. if is_ok r then 1 else 0) replies replies') in
    let refused : (t.refused + count_by is_refusal replies) + count_by is_refusal replies' ≡ t.refused + count_by is_refusal (replies ++ replies') = omega (arith, sum_by-append (λ r. if is_refusal r then 1 else 0) replies replies') in
    λ i. record { accepted = accepted i; refused = refused i }

counted-nil : (t : Tally) → t ≡ counted t []
counted-nil t =
    let accepted : t.accepted ≡ t.accepted + 0 = omega arith in
    let refused : t.refused ≡ t.refused + 0 = omega arith in
    λ i. record { accepted = accepted i; refused = refused i }

tally_by : (t : Tally) (accepts : Bool) → (if accepts then record t { accepted = t.accepted + 1 } else record t { refused = t.refused + 1 })
    ≡ record { accepted = t.accepted + (0 + (if accepts then 1 else 0)); refused = t.refused + (0 + (if not accepts then 1 else 0)) }
tally_by t true = let same : t.refused ≡ t.refused + 0 = omega arith in λ i. record { accepted = t.accepted + 1; refused = same i }
tally_by t false = let same : t.accepted ≡ t.accepted + 0 = omega arith in λ i. record { accepted = same i; refused = t.refused + 1 }

-- one reply was counted
pub counted-one : (t t' : Tally) (accepts : Bool) (reply : List ℕ) → t' ≡ (if accepts then record t { accepted = t.accepted + 1 } else record t { refused = t.refused + 1 })
    → accepts ≡ is_ok reply → t' ≡ counted t (reply ∷ [])
counted-one t t' accepts reply is same =
    is ∙ tally_by t accepts ∙ ap (λ b. record { accepted = t.accepted + (0 + (if b then 1 else 0)); refused = t.refused + (0 + (if not b then 1 else 0)) }) same

-- nothing was answered yet
pub Passed-nil : (p : Point) → IfObserved p.contents (kept p.state) → Passed p [] [] p
Passed-nil p told = record { session = Session-nil p.state p.faults; found_memory = tt; counted_are = counted-nil p.tally; stored = stored_same p.state p.contents told; commits = Adds-none _ p.calls refl; few = omega arith; few_looked = omega arith }

-- a stage after another
pub Passed-append : (a b c : Point) (lines lines' : List Line) (replies replies' : List (List ℕ)) → Passed a lines replies b → Passed b lines' replies' c → Passed a (lines ++ lines') (replies ++ replies') c
Passed-append a b c lines lines' replies replies' p q = record {
  session = Session-append a.state a.faults lines replies b.state b.faults lines' replies' c.state c.faults p.session q.session;
  found_memory = AllByRecursion-append _ replies replies' p.found_memory q.found_memory;
  counted_are = q.counted_are ∙ ap (λ t. counted t replies') p.counted_are ∙ counted-append a.tally replies replies';
  stored = stored_next b.state c.state a.contents b.contents c.contents p.stored q.stored;
  commits = commits-append a.state a.faults lines replies b.state b.faults lines' replies' c.state c.faults p.session q.session a.calls b.calls c.calls p.commits q.commits;
  few = few-append most_walked a.state a.faults lines replies b.state b.faults lines' replies' c.state c.faults p.session q.session a.walked b.walked c.walked p.few q.few;
  few_looked = few-append most_looked a.state a.faults lines replies b.state b.faults lines' replies' c.state c.faults p.session q.session a.looked b.looked c.looked p.few_looked q.few_looked;
}

-- a line was answered, and its reply was counted
pub Passed-step : (a b : Point) (l : Line) (reply : List ℕ) → Step a.state a.faults l reply b.state b.faults → reply ≢ text memory → b.tally ≡ counted a.tally (reply ∷ [])
    → IsStored b.state a.contents b.contents → Adds (CommitsFor a.state a.faults (record { line = l; reply = reply; state = b.state; count = b.faults })) a.calls b.calls → b.walked ≤ a.walked + most_walked (request l) a.state
    → b.looked ≤ a.looked + most_looked (request l) a.state → Passed a (l ∷ []) (reply ∷ []) b
Passed-step a b l reply step found count stored commits few few_looked = record {
  session = Session-one a.state a.faults l reply b.state b.faults step;
  found_memory = (found, tt);
  counted_are = count;
  stored = stored;
  commits = commits-one a.state a.faults l reply b.state b.faults step a.calls b.calls commits;
  few = few-one most_walked a.state a.faults l reply b.state b.faults step a.walked b.walked few;
  few_looked = few-one most_looked a.state a.faults l reply b.state b.faults step a.looked b.looked few_looked;
}

pub told-Passed : (a b : Point) (lines : List Line) (replies : List (List ℕ)) → Passed a lines replies b → IfObserved b.contents (kept b.state)
told-Passed a b lines replies p = told_now b.state a.contents b.contents p.stored

pub Room-Passed : (a b : Point) (lines : List Line) (replies : List (List ℕ)) (most more : ℕ) → HasRoom a.state.version a.tally most → Passed a lines replies b → length lines + more ≤ most
    → HasRoom b.state.version b.tally more
Room-Passed a b lines replies most more room p few =
    let long = length-replies a.state a.faults lines replies b.state b.faults p.session in
    record {
      version_fits = omega (arith, few, room.version_fits, version-session a.state a.faults lines replies b.state b.faults p.session);
      accepted_fits = omega (arith, few, long, room.accepted_fits, ap (λ t. t.accepted) p.counted_are, count_by-le-length is_ok replies);
      refused_fits = omega (arith, few, long, room.refused_fits, ap (λ t. t.refused) p.counted_are, count_by-le-length is_refusal replies);
    }

pub Room-less : (version : ℕ) (tally : Tally) (most more : ℕ) → HasRoom version tally most → more ≤ most → HasRoom version tally more
Room-less version tally most more room few = record {
  version_fits = omega (arith, few, room.version_fits);
  accepted_fits = omega (arith, few, room.accepted_fits);
  refused_fits = omega (arith, few, room.refused_fits);
}

-- ---- stages that stopped

-- a fact at an exit by `?`
pub on_err : {T E : Type 0} (r : Result T E) (P : Type 0) → P → OnErr r P
on_err (Ok x) P p = tt
on_err (Err e) P p = p

-- replies that none of which tells want of memory, and others behind them
ends-after : (xs ys : List (List ℕ)) → AllByRecursion (λ reply. reply ≢ text memory) xs → EndsAtMemory ys → EndsAtMemory (xs ++ ys)
ends-after [] ys p q = q
ends-after (x ∷ xs) ys p q = (λ _. p.0, ends-after xs ys p.1 q)

ends-none : (xs : List (List ℕ)) → AllByRecursion (λ reply. reply ≢ text memory) xs → EndsAtMemory xs
ends-none [] p = tt
ends-none (x ∷ xs) p = (λ _. p.0, ends-none xs p.1)

-- before the first line
pub Halted-first : (p : Point) (lines : List Line) → IfObserved p.contents (kept p.state) → Halted p lines p
Halted-first p lines told = record { taken = []; rest = lines; front = refl; replies = []; session = Session-nil p.state p.faults; ends = tt; stored = stored_same p.state p.contents told; commits = Adds-none _ p.calls refl; few = omega arith; few_looked = omega arith }

-- after the last line
pub Halted-last : (a b : Point) (lines : List Line) (replies : List (List ℕ)) → Passed a lines replies b → Halted a lines b
Halted-last a b lines replies p = record { taken = lines; rest = []; front = append-nil lines; replies = replies; session = p.session; ends = ends-none replies p.found_memory; stored = p.stored; commits = p.commits; few = p.few; few_looked = p.few_looked }

-- at a line that was answered
pub Halted-step : (a b : Point) (l : Line) (reply : List ℕ) → Step a.state a.faults l reply b.state b.faults → IsStored b.state a.contents b.contents
    → Adds (CommitsFor a.state a.faults (record { line = l; reply = reply; state = b.state; count = b.faults })) a.calls b.calls → b.walked ≤ a.walked + most_walked (request l) a.state
    → b.looked ≤ a.looked + most_looked (request l) a.state → Halted a (l ∷ []) b
Halted-step a b l reply step stored commits few few_looked = record {
  taken = l ∷ [];
  rest = [];
  front = refl;
  replies = reply ∷ [];
  session = Session-one a.state a.faults l reply b.state b.faults step;
  ends = ((λ some. absurd (some refl)), tt);
  stored = stored;
  commits = commits-one a.state a.faults l reply b.state b.faults step a.calls b.calls commits;
  few = few-one most_walked a.state a.faults l reply b.state b.faults step a.walked b.walked few;
  few_looked = few-one most_looked a.state a.faults l reply b.state b.faults step a.looked b.looked few_looked;
}

-- before lines that were still to come
pub Halted-early : (a b : Point) (lines later : List Line) → Halted a lines b → Halted a (lines ++ later) b
Halted-early a b lines later h = record {
  taken = h.taken;
  rest = h.rest ++ later;
  front = sym (append_assoc h.taken h.rest later) ∙ ap (λ ls. ls ++ later) h.front;
  replies = h.replies;
  session = h.session;
  ends = h.ends;
  stored = h.stored;
  commits = h.commits;
  few = h.few;
  few_looked = h.few_looked;
}

-- after a stage that went through
pub Halted-after : (a b c : Point) (lines lines' : List Line) (replies : List (List ℕ)) → Passed a lines replies b → Halted b lines' c → Halted a (lines ++ lines') c
Halted-after a b c lines lines' replies p h = record {
  taken = lines ++ h.taken;
  rest = h.rest;
  front = append_assoc lines h.taken h.rest ∙ ap (λ ls. lines ++ ls) h.front;
  replies = replies ++ h.replies;
  session = Session-append a.state a.faults lines replies b.state b.faults h.taken h.replies c.state c.faults p.session h.session;
  ends = ends-after replies h.replies p.found_memory h.ends;
  stored = stored_next b.state c.state a.contents b.contents c.contents p.stored h.stored;
  commits = commits-append a.state a.faults lines replies b.state b.faults h.taken h.replies c.state c.faults p.session h.session a.calls b.calls c.calls p.commits h.commits;
  few = few-append most_walked a.state a.faults lines replies b.state b.faults h.taken h.replies c.state c.faults p.session h.session a.walked b.walked c.walked p.few h.few;
  few_looked = few-append most_looked a.state a.faults lines replies b.state b.faults h.taken h.replies c.state c.faults p.session h.session a.looked b.looked c.looked p.few_looked h.few_looked;
}

pub Stopped-Halted : (a b : Point) (lines : List Line) → Halted a lines b
    → (stopped : Stopped a.state a.faults lines b.state b.faults a.calls b.calls a.walked b.walked) × (b.looked ≤ a.looked + most_looked_in a.state stopped.session.exchanges)
Stopped-Halted a b lines h = (record { taken = h.taken; rest = h.rest; front = h.front; replies = h.replies; session = h.session; ends = h.ends; commits = h.commits; few = h.few }, h.few_looked)

pub later-Halted : (a b : Point) (lines : List Line) → Halted a lines b → a.faults ≤ b.faults
later-Halted a b lines h = later-session a.state a.faults h.taken h.replies b.state b.faults h.session
