-- What opening a store asks of the keeper, and what the status tells of it.
use Rattle.std.proofs.Common.{◌≡◌, ◌≢◌, ◌∙◌, ℕ, Bool, List, [], ◌∷◌, ◌++◌, ap, subst, sym, refl, inl, inr, arith, ◌↔◌, ◌⊎◌, Option, None, Some, IfSome, Result, Ok, Err}
use Rattle.server_specs.specs.Common.{Adds, Line, Session, State, kept}
use Rattle.io_specs.proofs.Calls.{Adds-none, Adds-then, Adds-weaker}
use Rattle.lens_specs.specs.Common.{Follows, Kept, IfObserved}
use Rattle.opening_specs.specs.Opening.{Damage, opened}
use Rattle.opening_laws.specs.OpenLaws.{at_start}
use Rattle.opening_laws.proofs.Opened.{opens_again}
use Rattle.table_keeper.specs.Asking.{done_call, stopped_call}
use Rattle.table_keeper.specs.declared.calls.Asked.TheVariants.{Load}
use Rattle.table_keeper.specs.declared.calls.Call.{Call}
use Rattle.table_keeper.specs.declared.keeper.KeepFault.{KeepFault}
use Rattle.table_keeper.specs.declared.keeper.KeepFault.TheVariants as keep
use Rattle.lens_server.specs.StartFaults.{of_keeper}
use Rattle.lens_server.specs.Starting.{IsLoad}
use Rattle.lens_server.specs.declared.startup.fault.StartFault.{StartFault}
use Rattle.lens_server.specs.declared.startup.fault.StartFault.TheVariants as fault
use Rattle.serving.specs.Opening.{IsAttach, IsDamage, IsOpening, IsUnserved, OpensTo}
use Rattle.serving.specs.Running.{FailsBy, IsAtEntry, IsDamaged, LacksMemoryBy, Loads, OpensBy, StopsBy, opening_fault}

-- ---- an attach, and then a load

-- the place was chosen, or none is, and then the load came
loaded : (store : Option (List ℕ)) (x : Unit {0}) (n count : ℕ) (result : Result State StartFault) (first later : List Call) → IsAttach store (Ok x) n first → IsLoad result count later → IsOpening store result count (first ++ later)
loaded None x n count (Ok s) first later a l = subst (λ cs. cs ++ later ≡ done_call Load count ∷ []) (sym a) l
loaded None x n count (Err (fault.Damaged damage)) first later a l = subst (λ cs. cs ++ later ≡ done_call Load count ∷ []) (sym a) l
loaded None x n count (Err fault.StoreFault) first later a l = (count, subst (λ cs. cs ++ later ≡ stopped_call Load keep.Failed count ∷ []) (sym a) l)
loaded None x n count (Err fault.NoMemory) first later a (inl l) = inr (subst (λ cs. cs ++ later ≡ done_call Load count ∷ []) (sym a) l)
loaded None x n count (Err fault.NoMemory) first later a (inr l) = inl (count, subst (λ cs. cs ++ later ≡ stopped_call Load keep.NoMemory count ∷ []) (sym a) l)
loaded (Some place) x n count (Ok s) first later a l = (n, λ i. a i ++ l i)
loaded (Some place) x n count (Err (fault.Damaged damage)) first later a l = (n, λ i. a i ++ l i)
loaded (Some place) x n count (Err fault.StoreFault) first later a l = inr (n, count, λ i. a i ++ l i)
loaded (Some place) x n count (Err fault.NoMemory) first later a (inl l) = inr (n, λ i. a i ++ l i)
loaded (Some place) x n count (Err fault.NoMemory) first later a (inr l) = inl (inr (n, count, λ i. a i ++ l i))

pub opening_loaded : (store : Option (List ℕ)) (x : Unit {0}) (n count : ℕ) (result : Result State StartFault) (calls middle calls' : Option (List Call)) → Adds (IsAttach store (Ok x) n) calls middle → Adds (IsLoad result count) middle calls'
    → Adds (IsOpening store result count) calls calls'
opening_loaded store x n count result calls middle calls' a l =
    Adds-then (IsAttach store (Ok x) n) (IsLoad result count) (IsOpening store result count) calls middle calls' (loaded store x n count result) a l

-- the place could not be chosen
unopened : (store : Option (List ℕ)) (why : KeepFault) (count : ℕ) (calls calls' : Option (List Call)) → store ≢ None → Adds (IsAttach store (Err why) count) calls calls' → Adds (IsOpening store (Err (of_keeper why)) count) calls calls'
unopened None why count calls calls' some a = absurd (some refl)
unopened (Some place) keep.Failed count calls calls' some a =
    Adds-weaker (IsAttach (Some place) (Err keep.Failed) count) (IsOpening (Some place) (Err fault.StoreFault) count) calls calls' (λ more is. inl (count, is)) a
unopened (Some place) keep.NoMemory count calls calls' some a =
    Adds-weaker (IsAttach (Some place) (Err keep.NoMemory) count) (IsOpening (Some place) (Err fault.NoMemory) count) calls calls' (λ more is. inl (inl (count, is))) a

pub opening_refused : (store : Option (List ℕ)) (why : KeepFault) (e : StartFault) (count : ℕ) (calls calls' : Option (List Call)) → of_keeper why ≡ e → store ≢ None → Adds (IsAttach store (Err why) count) calls calls'
    → Adds (IsOpening store (Err e) count) calls calls'
opening_refused store why e count calls calls' is some a = subst (λ it. Adds (IsOpening store (Err it) count) calls calls') is (unopened store why count calls calls' some a)

-- ---- what the status tells of it

no_fault : (store : Option (List ℕ)) (start : ℕ) (first later : List Call) → OpensBy store start first → opening_fault store (first ++ later) ≡ None
no_fault None start first later o = ap (λ cs. opening_fault None (cs ++ later)) o
no_fault (Some place) start first later o = ap (λ cs. opening_fault (Some place) (cs ++ later)) o.1

the_fault : (store : Option (List ℕ)) (why : KeepFault) (calls : List Call) → StopsBy store why calls → opening_fault store calls ≡ Some why
the_fault None why calls o = ap (opening_fault None) o.1
the_fault (Some place) why calls (inl o) = ap (opening_fault (Some place)) o.1
the_fault (Some place) why calls (inr o) = ap (opening_fault (Some place)) o.2

neither : (status : ℕ) (found : Option KeepFault) → status ≢ 6 → found ≢ Some keep.Failed → (status ≡ 6) ↔ (found ≡ Some keep.Failed)
neither status found a b = ((λ e. absurd (a e)), (λ e. absurd (b e)))

none_failed : (found : Option KeepFault) → found ≡ None → found ≢ Some keep.Failed
none_failed found is e = let no : None ≡ Some keep.Failed = sym is ∙ e in cc

memory_failed : (found : Option KeepFault) → found ≡ Some keep.NoMemory → found ≢ Some keep.Failed
memory_failed found is e = let no : Some keep.NoMemory ≡ Some keep.Failed = sym is ∙ e in cc

-- The status is 6 exactly where one of the calls that open the store failed.
abbrev pub TellsFailure : Option (List ℕ) → ℕ → List Call → Type 0
TellsFailure store status calls = (status ≡ 6) ↔ (opening_fault store calls ≡ Some keep.Failed)

-- a store was opened, and other calls came after that
pub served_tells : (store : Option (List ℕ)) (status start : ℕ) (Q : List Call → Type 0) (calls middle calls' : Option (List Call)) → status ≢ 6 → Adds (OpensBy store start) calls middle → Adds Q middle calls'
    → Adds (TellsFailure store status) calls calls'
served_tells store status start Q calls middle calls' other o q =
    Adds-then (OpensBy store start) Q (TellsFailure store status) calls middle calls'
    (λ first later f l. neither status _ other (none_failed _ (no_fault store start first later f))) o q

unasked : (store : Option (List ℕ)) → opening_fault store [] ≡ None
unasked None = refl
unasked (Some place) = refl

-- nothing was asked
pub unasked_tells : (store : Option (List ℕ)) (status : ℕ) (calls : Option (List Call)) → status ≢ 6 → Adds (TellsFailure store status) calls calls
unasked_tells store status calls other = Adds-none (TellsFailure store status) calls (neither status _ other (none_failed _ (unasked store)))

opened_tells : (store : Option (List ℕ)) (status start : ℕ) (calls : List Call) → status ≢ 6 → OpensBy store start calls → TellsFailure store status calls
opened_tells None status start calls other o = neither status _ other (none_failed _ (ap (opening_fault None) o))
opened_tells (Some place) status start calls other o = neither status _ other (none_failed _ (ap (opening_fault (Some place)) o.1))

starved_tells : (store : Option (List ℕ)) (status start : ℕ) (calls : List Call) → status ≢ 6 → StopsBy store keep.NoMemory calls ⊎ OpensBy store start calls → TellsFailure store status calls
starved_tells store status start calls other (inl o) = neither status _ other (memory_failed _ (the_fault store keep.NoMemory calls o))
starved_tells store status start calls other (inr o) = opened_tells store status start calls other o

-- no store was opened
pub refused_tells : (store : Option (List ℕ)) (status start : ℕ) (e : StartFault) (calls calls' : Option (List Call)) → (status ≡ 6) ↔ (e ≡ fault.StoreFault) → Adds (IsOpening store (Err e) start) calls calls'
    → Adds (TellsFailure store status) calls calls'
refused_tells store status start (fault.Damaged damage) calls calls' six o =
    Adds-weaker (OpensBy store start) (TellsFailure store status) calls calls' (λ more p. opened_tells store status start more (λ e. let no : fault.Damaged damage ≡ fault.StoreFault = six.0 e in cc) p) o
refused_tells store status start fault.StoreFault calls calls' six o =
    Adds-weaker (FailsBy store) (TellsFailure store status) calls calls' (λ more p. ((λ _. the_fault store keep.Failed more p), (λ _. six.1 refl))) o
refused_tells store status start fault.NoMemory calls calls' six o =
    Adds-weaker (λ more. StopsBy store keep.NoMemory more ⊎ OpensBy store start more) (TellsFailure store status) calls calls'
    (λ more p. starved_tells store status start more (λ e. let no : fault.NoMemory ≡ fault.StoreFault = six.0 e in cc) p) o

-- the keeper failed
pub fails_by : (store : Option (List ℕ)) (status start : ℕ) (e : StartFault) (calls calls' : Option (List Call)) → (status ≡ 6) ↔ (e ≡ fault.StoreFault) → Adds (IsOpening store (Err e) start) calls calls' → status ≡ 6
    → Adds (FailsBy store) calls calls'
fails_by store status start (fault.Damaged damage) calls calls' six o is = let no : fault.Damaged damage ≡ fault.StoreFault = six.0 is in cc
fails_by store status start fault.StoreFault calls calls' six o is = o
fails_by store status start fault.NoMemory calls calls' six o is = let no : fault.NoMemory ≡ fault.StoreFault = six.0 is in cc

-- memory ran out
pub lacks_by : (store : Option (List ℕ)) (status start : ℕ) (e : StartFault) (calls calls' : Option (List Call)) → (status ≡ 6) ↔ (e ≡ fault.StoreFault) → Adds (IsOpening store (Err e) start) calls calls' → status ≡ 3
    → Adds (LacksMemoryBy store) calls calls'
lacks_by store status start (fault.Damaged damage) calls calls' six o is = Adds-weaker (OpensBy store start) (LacksMemoryBy store) calls calls' (λ more p. inr (inr (start, p))) o
lacks_by store status start fault.StoreFault calls calls' six o is = absurd (omega (arith, is, six.1 refl))
lacks_by store status start fault.NoMemory calls calls' six o is =
    Adds-weaker (λ more. StopsBy store keep.NoMemory more ⊎ OpensBy store start more) (LacksMemoryBy store) calls calls' (λ more p. elim p [ inl q ↦ inr (inl q) | inr q ↦ inr (inr (start, q)) ]) o

pub lacks_unasked : (store : Option (List ℕ)) (calls : Option (List Call)) → Adds (LacksMemoryBy store) calls calls
lacks_unasked store calls = Adds-none (LacksMemoryBy store) calls (inl refl)

-- ---- damages

-- what was loaded opens to a state
pub undamaged : (store : Option (List ℕ)) (stays : Bool) (contents : Option Kept) (count start status : ℕ) (first : State) → status ≢ 7 → Loads store stays contents count start (Ok first) → IsAtEntry store stays
    → IfSome contents (λ kept. (status ≡ 7) ↔ IsDamaged kept)
undamaged store stays None count start status first other l e = tt
undamaged store stays (Some kept) count start status first other l e = (
  (λ seven. absurd (other seven)),
  (λ d. let no : Ok first ≡ Err d.0 = sym l.opens ∙ ap opened (sym (l.at_entry e)) ∙ d.1 in cc),
)

-- what was loaded is damaged
pub damaged : (store : Option (List ℕ)) (stays : Bool) (contents : Option Kept) (count start status : ℕ) (damage : Damage) → status ≡ 7 → Loads store stays contents count start (Err damage) → IsAtEntry store stays
    → IfSome contents (λ kept. (status ≡ 7) ↔ IsDamaged kept)
damaged store stays None count start status damage seven l e = tt
damaged store stays (Some kept) count start status damage seven l e = ((λ _. (damage, ap opened (l.at_entry e) ∙ l.opens)), (λ _. seven))

-- no store was opened, and neither memory nor the keeper is why
pub refused_exactly : (store : Option (List ℕ)) (stays : Bool) (contents contents' : Option Kept) (count start status : ℕ) (e : StartFault) → status ≢ 3 → status ≢ 6 → IsUnserved status
    → (P : Damage → Type 0) → (status ≡ 7 → IsDamage e P) → OpensTo store stays contents contents' count start (Err e) → IsAtEntry store stays → IfSome contents (λ kept. (status ≡ 7) ↔ IsDamaged kept)
refused_exactly store stays contents contents' count start status e m f (inl three) P told opens entry = absurd (m three)
refused_exactly store stays contents contents' count start status e m f (inr (inl six)) P told opens entry = absurd (f six)
refused_exactly store stays contents contents' count start status (fault.Damaged found) m f (inr (inr seven)) P told opens entry = damaged store stays contents count start status _ seven opens.0 entry
refused_exactly store stays contents contents' count start status fault.StoreFault m f (inr (inr seven)) P told opens entry = absurd (told seven)
refused_exactly store stays contents contents' count start status fault.NoMemory m f (inr (inr seven)) P told opens entry = absurd (told seven)

-- ---- damages of what is kept in the end

-- what is kept of the last state of a session opens to a state
pub undamaged_now : (store : Option (List ℕ)) (stays : Bool) (contents contents' : Option Kept) (before start status : ℕ) (first : State) → status ≢ 7 → Loads store stays contents before start (Ok first)
    → (count : ℕ) (lines : List Line) (replies : List (List ℕ)) (last : State) (count' : ℕ) → Session first count lines replies last count' → Follows (λ _ now. now ≡ kept last) contents contents'
    → IfSome contents' (λ now. (status ≡ 7) ↔ IsDamaged now)
undamaged_now store stays contents None before start status first other l count lines replies last count' session stored = tt
undamaged_now store stays None (Some now) before start status first other l count lines replies last count' session stored = absurd stored
undamaged_now store stays (Some old) (Some now) before start status first other l count lines replies last count' session stored = (
  (λ seven. absurd (other seven)),
  (λ d. let no : Ok (at_start last) ≡ Err d.0 = sym (opens_again l.loaded first l.opens count lines replies last count' session) ∙ ap opened (sym stored) ∙ d.1 in cc),
)

-- what was loaded is damaged, and is what is kept
damaged_now : (contents' : Option Kept) (loaded : Kept) (status : ℕ) (damage : Damage) → status ≡ 7 → opened loaded ≡ Err damage → IfObserved contents' loaded → IfSome contents' (λ now. (status ≡ 7) ↔ IsDamaged now)
damaged_now None loaded status damage seven opens told = tt
damaged_now (Some now) loaded status damage seven opens told = ((λ _. (damage, ap opened told ∙ opens)), (λ _. seven))

pub refused_exactly_now : (store : Option (List ℕ)) (stays : Bool) (contents contents' : Option Kept) (count start status : ℕ) (e : StartFault) → status ≢ 3 → status ≢ 6 → IsUnserved status
    → (P : Damage → Type 0) → (status ≡ 7 → IsDamage e P) → OpensTo store stays contents contents' count start (Err e) → IfSome contents' (λ now. (status ≡ 7) ↔ IsDamaged now)
refused_exactly_now store stays contents contents' count start status e m f (inl three) P told opens = absurd (m three)
refused_exactly_now store stays contents contents' count start status e m f (inr (inl six)) P told opens = absurd (f six)
refused_exactly_now store stays contents contents' count start status (fault.Damaged found) m f (inr (inr seven)) P told opens = damaged_now contents' opens.0.loaded status _ seven opens.0.opens opens.1
refused_exactly_now store stays contents contents' count start status fault.StoreFault m f (inr (inr seven)) P told opens = absurd (told seven)
refused_exactly_now store stays contents contents' count start status fault.NoMemory m f (inr (inr seven)) P told opens = absurd (told seven)

-- what holds of every value holds of the one that is there
pub some_all : {A : Type 0} (o : Option A) (P : A → Type 0) → ((x : A) → P x) → IfSome o P
some_all None P f = tt
some_all (Some x) P f = f x
