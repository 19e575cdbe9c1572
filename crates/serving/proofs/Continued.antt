-- One line more was answered, and its reply given or not.
use Rattle.std.proofs.Common.{◌≡◌, ◌≢◌, ◌≤◌, ◌+◌, ◌-◌, ℕ, Bool, true, false, List, [], ◌∷◌, ◌++◌, take, length, ap, sym, subst, ◌∙◌, refl, arith, append_assoc, append-nil, length-append, inl, inr}
use Rattle.std.specs.declared.option.Option.{Option}
use Rattle.server_specs.specs.Common.{Adds, Line, State, text, request, Exchange, Session, last_state}
use Rattle.io_specs.proofs.Calls.{Adds-then, Adds-weaker}
use Rattle.std.specs.Io.KnownBytes.{Appends}
use Rattle.std.proofs.KnownBytes.{Appends-trans}
use Rattle.lens_specs.specs.Common.{Kept}
use Rattle.io_specs.specs.Lines.{whole}
use Rattle.server_specs.specs.Session as steps
use Rattle.server_laws.proofs.AnswerFacts.{version_step}
use Rattle.lens_io.specs.declared.cutting.Cut.{Cut}
use Rattle.lens_io.specs.declared.cutting.Cut.TheVariants as cut
use Rattle.lens_io.specs.Asked.{AskedAfter, AsksFor}
use Rattle.lens_io.specs.Bytes.{AppendsFront}
use Rattle.lens_io.specs.Calls.{Call as Take, OffersAll, OffersRest}
use Rattle.lens_io.specs.declared.told.Offer.{Offer}
use Rattle.lens_io.specs.Cutting.{Asks, Cutter, Cuts, Step, is_last}
use Rattle.lens_io.specs.Taken.{ComesInTime}
use Rattle.lens_io.proofs.Asked.{Asked, asked_line}
use Rattle.lens_io.proofs.Taken.{Taken, TakenOf, taken_line, taken_too_long}
use Rattle.table_keeper.specs.declared.calls.Call.{Call}
use Rattle.lens_server.specs.Committing.{CommitsFor, CommitsForAll}
use Rattle.lens_server.specs.Counting.{most_walked}
use Rattle.rehearsal.specs.Walking.{most_walked_in}
use Rattle.rehearsal.proofs.Joined.{Session-append, Session-one, commits-append, commits-one, exchanges-more, few-append, few-one}
use Rattle.serving.specs.Exports.{AreReadBack, IsReadBack}
use Rattle.serving.specs.Offering.{OffersEach, OffersUntil}
use Rattle.serving.specs.Running.{Serves, AreFirst, BreaksOff, joined, line_of}
use Rattle.serving.proofs.Served.{IsStored, Served, stored_next}

-- one line more was given, whichever it was
given_more : (c : Cut) (given : List Line) (pending text rest : List ℕ) (taken taken' limit : ℕ) (ended ended' : Bool) (left0 left left' : Option (List ℕ))
    → (t : Taken given pending taken ended left0 left) → (s : Step c pending text rest taken taken' limit ended ended' left left') → is_last c ≡ false
    → TakenOf (given ++ line_of c text ∷ []) rest taken' ended' left0 left' (t.all ++ s.came)
given_more cut.Line given pending text rest taken taken' limit ended ended' left0 left left' t s going = taken_line given pending text rest taken taken' limit ended ended' left0 left left' t s
given_more cut.TooLong given pending text rest taken taken' limit ended ended' left0 left left' t s going = taken_too_long given pending text rest taken taken' limit ended ended' left0 left left' t s
given_more cut.End given pending text rest taken taken' limit ended ended' left0 left left' t s going = absurd (let no : true ≡ false = going in cc)
given_more cut.Failed given pending text rest taken taken' limit ended ended' left0 left left' t s going = absurd (let no : true ≡ false = going in cc)
given_more cut.Spent given pending text rest taken taken' limit ended ended' left0 left left' t s going = absurd (let no : true ≡ false = going in cc)

-- the lines so far are the first of what came
first_lines : (given : List Line) (pending : List ℕ) (taken : ℕ) (ended : Bool) (left0 left : Option (List ℕ)) → (t : Taken given pending taken ended left0 left) → AreFirst given t.all left
first_lines given pending taken true left0 left t = inr (sym (t.at_end refl).1, (t.at_end refl).2)
first_lines given pending taken false left0 left t = inl (whole pending, sym (t.whole_are refl pending) ∙ ap whole (sym t.parts))

joined-push : (replies : List (List ℕ)) (reply : List ℕ) → joined (replies ++ reply ∷ []) ≡ joined replies ++ reply
joined-push [] reply = append-nil reply
joined-push (r ∷ replies) reply = ap (λ v. r ++ v) (joined-push replies reply) ∙ sym (append_assoc r (joined replies) reply)

-- a session goes on by a line
abbrev session_more : (first : State) (count0 : ℕ) (lines : List Line) (replies : List (List ℕ)) (server : State) (count : ℕ) → Session first count0 lines replies server count
    → (l : Line) (reply : List ℕ) (server' : State) (count' : ℕ) → steps.Step server count l reply server' count' → Session first count0 (lines ++ l ∷ []) (replies ++ reply ∷ []) server' count'
session_more first count0 lines replies server count session l reply server' count' step =
    Session-append first count0 lines replies server count (l ∷ []) (reply ∷ []) server' count' session (Session-one server count l reply server' count' step)

-- and walks no more than the line may
few_more : (first : State) (count0 : ℕ) (lines : List Line) (replies : List (List ℕ)) (server : State) (count : ℕ) (session : Session first count0 lines replies server count)
    (l : Line) (reply : List ℕ) (server' : State) (count' : ℕ) (step : steps.Step server count l reply server' count') (walked0 walked walked' : ℕ)
    → walked ≤ walked0 + most_walked_in first session.exchanges → walked' ≤ walked + most_walked (request l) server
    → walked' ≤ walked0 + most_walked_in first (session_more first count0 lines replies server count session l reply server' count' step).exchanges
few_more first count0 lines replies server count session l reply server' count' step walked0 walked walked' few more =
    few-append most_walked first count0 lines replies server count (l ∷ []) (reply ∷ []) server' count' session (Session-one server count l reply server' count' step) walked0 walked walked'
    few (few-one most_walked server count l reply server' count' step walked walked' more)

-- and what it exports reads back
AreReadBack-append : (s : State) (es fs : List Exchange) → AreReadBack s es → AreReadBack (last_state s es) fs → AreReadBack s (es ++ fs)
AreReadBack-append s [] fs p q = q
AreReadBack-append s (e ∷ es) fs p q = (p.0, AreReadBack-append e.state es fs p.1 q)

exports_more : (first : State) (count0 : ℕ) (lines : List Line) (replies : List (List ℕ)) (server : State) (count : ℕ) (session : Session first count0 lines replies server count)
    (l : Line) (reply : List ℕ) (server' : State) (count' : ℕ) (step : steps.Step server count l reply server' count') → AreReadBack first session.exchanges
    → IsReadBack server (record { line = l; reply = reply; state = server'; count = count' })
    → AreReadBack first (session_more first count0 lines replies server count session l reply server' count' step).exchanges
exports_more first count0 lines replies server count session l reply server' count' step before mine =
    let e : Exchange = record { line = l; reply = reply; state = server'; count = count' } in
    subst (AreReadBack first) (sym (exchanges-more first count0 lines replies server count session l reply server' count' step))
    (AreReadBack-append first session.exchanges (e ∷ []) before (subst (λ s. IsReadBack s e) (sym session.last_is) mine, tt))

-- and asks for its commit
commits_more : (first : State) (count0 : ℕ) (lines : List Line) (replies : List (List ℕ)) (server : State) (count : ℕ) (session : Session first count0 lines replies server count)
    (l : Line) (reply : List ℕ) (server' : State) (count' : ℕ) (step : steps.Step server count l reply server' count') (calls0 calls calls' : Option (List Call))
    → Adds (CommitsForAll first count0 session.exchanges) calls0 calls → Adds (CommitsFor server count (record { line = l; reply = reply; state = server'; count = count' })) calls calls'
    → Adds (CommitsForAll first count0 (session_more first count0 lines replies server count session l reply server' count' step).exchanges) calls0 calls'
commits_more first count0 lines replies server count session l reply server' count' step calls0 calls calls' before mine =
    commits-append first count0 lines replies server count (l ∷ []) (reply ∷ []) server' count' session (Session-one server count l reply server' count' step) calls0 calls calls'
    before (commits-one server count l reply server' count' step calls calls' mine)

-- what the source was asked, at a line
asked_more : (cutter cutter' : Cutter) (c : Cut) (lines : List Line) (limit : ℕ) (left0 left left' : Option (List ℕ)) (asked0 asked asked' : Option (List Take)) → cutter.limit ≡ limit
    → (t : Taken lines cutter.pending cutter.taken cutter.ended left0 left) → Adds (Asked lines limit t.all cutter.ended) asked0 asked
    → (k : Cuts c cutter.pending cutter'.line cutter'.pending cutter.taken cutter'.taken cutter.limit cutter.ended cutter'.ended left left' asked asked') → is_last c ≡ false
    → (all : List ℕ) → all ≡ t.all ++ k.step.came → Adds (Asked (lines ++ line_of c cutter'.line ∷ []) limit all cutter'.ended) asked0 asked'
asked_more cutter cutter' c lines limit left0 left left' asked0 asked asked' limit_is t before k going all is =
    Adds-then (Asked lines limit t.all cutter.ended) (Asks cutter.pending cutter.taken cutter.limit cutter.ended k.step.came) (Asked (lines ++ line_of c cutter'.line ∷ []) limit all cutter'.ended) asked0 asked asked'
    (λ first later p q. subst (λ v. Asked (lines ++ line_of c cutter'.line ∷ []) limit v cutter'.ended (first ++ later)) (sym is)
    (subst (λ n. Asked (lines ++ line_of c cutter'.line ∷ []) n (t.all ++ k.step.came) cutter'.ended (first ++ later)) limit_is
    (asked_line c lines (line_of c cutter'.line) cutter.pending cutter'.line cutter'.pending cutter.taken cutter'.taken cutter.limit cutter.ended cutter'.ended left0 left left' first later t k.step going
    (subst (λ n. Asked lines n t.all cutter.ended first) (sym limit_is) p) q))) before k.asks

-- one reply more was offered
offers-push : (replies : List (List ℕ)) (reply : List ℕ) (first later : List Offer) → OffersEach replies first → OffersAll (length reply) later → OffersEach (replies ++ reply ∷ []) (first ++ later)
offers-push [] reply first later p q = (later, [], ap (λ v. v ++ later) p ∙ sym (append-nil later), q, refl)
offers-push (r ∷ replies) reply first later p q =
    (p.0, p.1 ++ later, ap (λ v. v ++ later) p.2 ∙ append_assoc p.0 p.1 later, p.3, offers-push replies reply p.1 later p.4 q)

-- One line more was answered and its reply given.
pub Served-more : (first : State) (limit : ℕ) (c : Cut) (cutter cutter' : Cutter) (server server' : State) (left0 left left' given0 given given' : Option (List ℕ)) (asked0 asked asked' : Option (List Take)) (offered0 offered offered' : Option (List Offer)) (count0 count count' : ℕ) (contents0 contents contents' : Option Kept) (calls0 calls calls' : Option (List Call)) (walked0 walked walked' : ℕ) (reply : List ℕ)
    → Served first limit cutter server left0 left given0 given asked0 asked offered0 offered count0 count contents0 contents calls0 calls walked0 walked
    → Cuts c cutter.pending cutter'.line cutter'.pending cutter.taken cutter'.taken cutter.limit cutter.ended cutter'.ended left left' asked asked' → is_last c ≡ false
    → cutter'.limit ≡ cutter.limit → cutter'.done ≡ is_last c
    → steps.Step server count (line_of c cutter'.line) reply server' count' → IsStored server' contents contents' → Adds (CommitsFor server count (record { line = line_of c cutter'.line; reply = reply; state = server'; count = count' })) calls calls'
    → IsReadBack server (record { line = line_of c cutter'.line; reply = reply; state = server'; count = count' })
    → Appends given given' reply → Adds (OffersAll (length reply)) offered offered'
    → walked' ≤ walked + most_walked (request (line_of c cutter'.line)) server → Served first limit cutter' server' left0 left' given0 given' asked0 asked' offered0 offered' count0 count' contents0 contents' calls0 calls' walked0 walked'
Served-more first limit c cutter cutter' server server' left0 left left' given0 given given' asked0 asked asked' offered0 offered offered' count0 count count' contents0 contents contents' calls0 calls calls' walked0 walked walked' reply s t going limit_kept done step told commits back gave offer few =
    let now = given_more c s.lines cutter.pending cutter'.line cutter'.pending cutter.taken cutter'.taken cutter.limit cutter.ended cutter'.ended left0 left left' s.taken t.step going in record {
      lines = s.lines ++ line_of c cutter'.line ∷ [];
      replies = s.replies ++ reply ∷ [];
      taken = now.0;
      asks = asked_more cutter cutter' c s.lines limit left0 left left' asked0 asked asked' s.limit_is s.taken s.asks t going now.0.all now.1;
      offers = Adds-then (OffersEach s.replies) (OffersAll (length reply)) (OffersEach (s.replies ++ reply ∷ [])) offered0 offered offered' (λ first later p q. offers-push s.replies reply first later p q) s.offers offer;
      session = session_more first count0 s.lines s.replies server count s.session (line_of c cutter'.line) reply server' count' step;
      few = few_more first count0 s.lines s.replies server count s.session (line_of c cutter'.line) reply server' count' step walked0 walked walked' s.few few;
      exports = exports_more first count0 s.lines s.replies server count s.session (line_of c cutter'.line) reply server' count' step s.exports back;
      commits = commits_more first count0 s.lines s.replies server count s.session (line_of c cutter'.line) reply server' count' step calls0 calls calls' s.commits commits;
      stored = stored_next server server' contents0 contents contents' s.stored told;
      gave = subst (Appends given0 given') (sym (joined-push s.replies reply)) (Appends-trans given0 given given' (joined s.replies) reply s.gave gave);
      version = omega (arith, s.version, version_step server count (line_of c cutter'.line) reply server' count' step, length-append s.lines (line_of c cutter'.line ∷ []));
      as_many = omega (arith, s.as_many, length-append s.lines (line_of c cutter'.line ∷ []), length-append s.replies (reply ∷ []));
      limit_is = limit_kept ∙ s.limit_is;
      within = omega (arith, t.step.most, limit_kept);
      going = done ∙ going;
    }

not_nil : {X : Type 0} (xs : List X) (x : X) → xs ++ x ∷ [] ≢ []
not_nil xs x e = omega (arith, ap length e, length-append xs (x ∷ []))

broken_off : (a b c : Option (List ℕ)) (before : List (List ℕ)) (reply : List ℕ) → Appends a b (joined before) → AppendsFront b c reply → BreaksOff a c (before ++ reply ∷ [])
broken_off a b c before reply p q = (before, reply, q.0, refl, Appends-trans a b c (joined before) (take q.0 reply) p q.1)

-- The sink failed at the last reply.
pub unwritten : (first : State) (limit : ℕ) (c : Cut) (cutter cutter' : Cutter) (server server' : State) (left0 left left' given0 given given' : Option (List ℕ)) (asked0 asked asked' : Option (List Take)) (offered0 offered offered' : Option (List Offer)) (count0 count count' : ℕ) (contents0 contents contents' : Option Kept) (calls0 calls calls' : Option (List Call)) (walked0 walked walked' : ℕ) (reply : List ℕ)
    → Served first limit cutter server left0 left given0 given asked0 asked offered0 offered count0 count contents0 contents calls0 calls walked0 walked
    → Cuts c cutter.pending cutter'.line cutter'.pending cutter.taken cutter'.taken cutter.limit cutter.ended cutter'.ended left left' asked asked' → is_last c ≡ false
    → steps.Step server count (line_of c cutter'.line) reply server' count' → IsStored server' contents contents' → Adds (CommitsFor server count (record { line = line_of c cutter'.line; reply = reply; state = server'; count = count' })) calls calls'
    → IsReadBack server (record { line = line_of c cutter'.line; reply = reply; state = server'; count = count' })
    → AppendsFront given given' reply → Adds (OffersRest (length reply)) offered offered'
    → walked' ≤ walked + most_walked (request (line_of c cutter'.line)) server → Serves first limit 5 left0 left' given0 given' asked0 asked' offered0 offered' count0 count' contents0 contents' calls0 calls' walked0 walked'
unwritten first limit c cutter cutter' server server' left0 left left' given0 given given' asked0 asked asked' offered0 offered offered' count0 count count' contents0 contents contents' calls0 calls calls' walked0 walked walked' reply s t going step told commits back gave offer few =
    let made = given_more c s.lines cutter.pending cutter'.line cutter'.pending cutter.taken cutter'.taken cutter.limit cutter.ended cutter'.ended left0 left left' s.taken t.step going in
    let now : Taken (s.lines ++ line_of c cutter'.line ∷ []) cutter'.pending cutter'.taken cutter'.ended left0 left' = made.0 in
    let same : length (s.lines ++ line_of c cutter'.line ∷ []) ≡ length (s.replies ++ reply ∷ []) =
    omega (arith, s.as_many, length-append s.lines (line_of c cutter'.line ∷ []), length-append s.replies (reply ∷ [])) in
    let asks : Adds (Asked (s.lines ++ line_of c cutter'.line ∷ []) limit now.all cutter'.ended) asked0 asked' =
    asked_more cutter cutter' c s.lines limit left0 left left' asked0 asked asked' s.limit_is s.taken s.asks t going now.all made.1 in
    record {
      came = now.all;
      consumed = now.consumed;
      most = omega (arith, now.counted, t.step.most, s.limit_is);
      taken = s.lines ++ line_of c cutter'.line ∷ [];
      replies = s.replies ++ reply ∷ [];
      last = server';
      session = session_more first count0 s.lines s.replies server count s.session (line_of c cutter'.line) reply server' count' step;
      few = few_more first count0 s.lines s.replies server count s.session (line_of c cutter'.line) reply server' count' step walked0 walked walked' s.few few;
      exports = exports_more first count0 s.lines s.replies server count s.session (line_of c cutter'.line) reply server' count' step s.exports back;
      commits = commits_more first count0 s.lines s.replies server count s.session (line_of c cutter'.line) reply server' count' step calls0 calls calls' s.commits commits;
      stored = stored_next server server' contents0 contents contents' s.stored told;
      all_lines = λ h. absurd (omega (arith, h));
      failed_lines = λ h. absurd (omega (arith, h));
      spent_lines = λ h. absurd (omega (arith, h));
      some_lines = λ _. (not_nil s.lines (line_of c cutter'.line), first_lines (s.lines ++ line_of c cutter'.line ∷ []) cutter'.pending cutter'.taken cutter'.ended left0 left' now);
      all_replies = λ h. absurd (h refl);
      some_replies = λ _. broken_off given0 given given' s.replies reply s.gave gave;
      in_time = λ _. subst (λ n. ComesInTime (n - 1) now.all) same now.in_time;
      asks = Adds-weaker (Asked (s.lines ++ line_of c cutter'.line ∷ []) limit now.all cutter'.ended) (AsksFor limit now.all) asked0 asked' (λ calls a. record { on = a.on; brought = a.brought }) asks;
      asks_in_time = λ _. Adds-weaker (Asked (s.lines ++ line_of c cutter'.line ∷ []) limit now.all cutter'.ended) (AskedAfter (length (s.replies ++ reply ∷ []) - 1)) asked0 asked'
          (λ calls a. subst (λ n. AskedAfter (n - 1) calls) same a.in_time) asks;
      offers = λ h. absurd (h refl);
      offers_until = λ _. Adds-then (OffersEach s.replies) (OffersRest (length reply)) (OffersUntil (s.replies ++ reply ∷ [])) offered0 offered offered'
          (λ first later p q. (s.replies, reply, first, later, refl, refl, p, q)) s.offers offer;
    }
