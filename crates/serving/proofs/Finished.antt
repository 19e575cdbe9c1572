-- The last answer ends the run.
use Rattle.std.proofs.Common.{◌≡◌, ◌≤◌, ◌<◌, ◌⊎◌, ℕ, true, false, List, ◌++◌, take, length, ap, sym, subst, ◌∙◌, arith, inl, inr, Some, IfSome}
use Rattle.std.specs.declared.option.Option.{Option}
use Rattle.server_specs.specs.Common.{Adds, Line, State}
use Rattle.io_specs.proofs.Calls.{Adds-then}
use Rattle.lens_specs.specs.Common.{Kept}
use Rattle.io_specs.specs.Lines.{whole}
use Rattle.lens_io.specs.declared.cutting.Cut.{Cut}
use Rattle.lens_io.specs.declared.cutting.Cut.TheVariants as cut
use Rattle.lens_io.specs.Asked.{AsksFor}
use Rattle.lens_io.specs.Calls.{Call as Take}
use Rattle.lens_io.specs.declared.told.Offer.{Offer}
use Rattle.lens_io.specs.Cutting.{Asks, Cutter, Cuts, is_last}
use Rattle.lens_io.proofs.Asked.{Asked, asked_end}
use Rattle.lens_io.proofs.Taken.{Taken, Taken-ended, Taken-failed, Taken-spent, ended_all, failed_all, spent_all, if_some, longer}
use Rattle.table_keeper.specs.declared.calls.Call.{Call}
use Rattle.serving.specs.Running.{Serves, status_of}
use Rattle.serving.proofs.Served.{Served}

-- what the source was asked, at a last answer
asked_last : (cutter cutter' : Cutter) (c : Cut) (lines : List Line) (limit : ℕ) (left0 left left' : Option (List ℕ)) (asked0 asked asked' : Option (List Take)) → cutter.limit ≡ limit
    → (t : Taken lines cutter.pending cutter.taken cutter.ended left0 left) → Adds (Asked lines limit t.all cutter.ended) asked0 asked
    → (k : Cuts c cutter.pending cutter'.line cutter'.pending cutter.taken cutter'.taken cutter.limit cutter.ended cutter'.ended left left' asked asked')
    → (all : List ℕ) → all ≡ t.all ++ k.step.came → Adds (AsksFor limit all) asked0 asked'
asked_last cutter cutter' c lines limit left0 left left' asked0 asked asked' limit_is t before k all is =
    Adds-then (Asked lines limit t.all cutter.ended) (Asks cutter.pending cutter.taken cutter.limit cutter.ended k.step.came) (AsksFor limit all) asked0 asked asked'
    (λ first later p q. subst (λ v. AsksFor limit v (first ++ later)) (sym is)
    (asked_end lines cutter.pending k.step.came cutter.taken limit cutter.ended left0 left first later t p
    (subst (λ n. Asks cutter.pending cutter.taken n cutter.ended k.step.came later) limit_is q))) before k.asks

-- The last answer ends the run.
pub finished : (first : State) (limit : ℕ) (c : Cut) (cutter cutter' : Cutter) (server : State) (left0 left left' given0 given : Option (List ℕ)) (asked0 asked asked' : Option (List Take)) (offered0 offered : Option (List Offer)) (count0 count : ℕ) (contents0 contents : Option Kept) (calls0 calls : Option (List Call)) (walked0 walked : ℕ)
    → Served first limit cutter server left0 left given0 given asked0 asked offered0 offered count0 count contents0 contents calls0 calls walked0 walked
    → Cuts c cutter.pending cutter'.line cutter'.pending cutter.taken cutter'.taken cutter.limit cutter.ended cutter'.ended left left' asked asked' → is_last c ≡ true
    → (status : ℕ) → status_of c ≡ Some status → Serves first limit status left0 left' given0 given asked0 asked' offered0 offered count0 count contents0 contents calls0 calls walked0 walked
finished first limit cut.Line cutter cutter' server left0 left left' given0 given asked0 asked asked' offered0 offered count0 count contents0 contents calls0 calls walked0 walked s t last status is = absurd (let no : false ≡ true = last in cc)
finished first limit cut.TooLong cutter cutter' server left0 left left' given0 given asked0 asked asked' offered0 offered count0 count contents0 contents calls0 calls walked0 walked s t last status is = absurd (let no : false ≡ true = last in cc)
finished first limit cut.End cutter cutter' server left0 left left' given0 given asked0 asked asked' offered0 offered count0 count contents0 contents calls0 calls walked0 walked s t last status is =
    let code : 0 ≡ status = cc in
    let found = Taken-ended s.lines cutter.pending cutter'.line cutter'.pending cutter.taken cutter'.taken cutter.limit cutter.ended cutter'.ended left0 left left' s.taken t.step in
    let all : found.0 ≡ s.taken.all ++ t.step.came = ended_all s.lines cutter.pending cutter'.line cutter'.pending cutter.taken cutter'.taken cutter.limit cutter.ended cutter'.ended left0 left left' s.taken t.step in
    subst (λ n. Serves first limit n left0 left' given0 given asked0 asked' offered0 offered count0 count contents0 contents calls0 calls walked0 walked) code (record {
      came = found.0;
      consumed = found.1;
      most = omega (arith, found.2, t.step.most, s.limit_is);
      all_lines = λ _. (found.3, found.4);
      failed_lines = λ h. absurd (omega (arith, h));
      spent_lines = λ h. absurd (omega (arith, h));
      taken = s.lines;
      replies = s.replies;
      last = server;
      session = s.session;
      few = s.few;
      exports = s.exports;
      commits = s.commits;
      stored = s.stored;
      some_lines = λ h. absurd (omega (arith, h));
      all_replies = λ _. s.gave;
      some_replies = λ h. absurd (omega (arith, h));
      in_time = λ h. absurd (omega (arith, h));
      asks = asked_last cutter cutter' cut.End s.lines limit left0 left left' asked0 asked asked' s.limit_is s.taken s.asks t found.0 all;
      asks_in_time = λ h. absurd (omega (arith, h));
      offers = λ _. s.offers;
      offers_until = λ h. absurd (omega (arith, h));
    })
finished first limit cut.Failed cutter cutter' server left0 left left' given0 given asked0 asked asked' offered0 offered count0 count contents0 contents calls0 calls walked0 walked s t last status is =
    let code : 4 ≡ status = cc in
    let found = Taken-failed s.lines cutter.pending cutter'.line cutter'.pending cutter.taken cutter'.taken cutter.limit cutter.ended cutter'.ended left0 left left' s.taken t.step in
    let all : found.0 ≡ s.taken.all ++ t.step.came = failed_all s.lines cutter.pending cutter'.line cutter'.pending cutter.taken cutter'.taken cutter.limit cutter.ended cutter'.ended left0 left left' s.taken t.step in
    subst (λ n. Serves first limit n left0 left' given0 given asked0 asked' offered0 offered count0 count contents0 contents calls0 calls walked0 walked) code (record {
      came = found.0;
      consumed = found.1;
      most = omega (arith, found.2, t.step.most, s.limit_is);
      all_lines = λ h. absurd (omega (arith, h));
      failed_lines = λ _. found.3;
      spent_lines = λ h. absurd (omega (arith, h));
      taken = s.lines;
      replies = s.replies;
      last = server;
      session = s.session;
      few = s.few;
      exports = s.exports;
      commits = s.commits;
      stored = s.stored;
      some_lines = λ h. absurd (omega (arith, h));
      all_replies = λ _. s.gave;
      some_replies = λ h. absurd (omega (arith, h));
      in_time = λ h. absurd (omega (arith, h));
      asks = asked_last cutter cutter' cut.Failed s.lines limit left0 left left' asked0 asked asked' s.limit_is s.taken s.asks t found.0 all;
      asks_in_time = λ h. absurd (omega (arith, h));
      offers = λ _. s.offers;
      offers_until = λ h. absurd (omega (arith, h));
    })
finished first limit cut.Spent cutter cutter' server left0 left left' given0 given asked0 asked asked' offered0 offered count0 count contents0 contents calls0 calls walked0 walked s t last status is =
    let code : 8 ≡ status = cc in
    let found = Taken-spent s.lines cutter.pending cutter'.line cutter'.pending cutter.taken cutter'.taken cutter.limit cutter.ended cutter'.ended left0 left left' s.taken t.step in
    let all : found.0 ≡ s.taken.all ++ t.step.came = spent_all s.lines cutter.pending cutter'.line cutter'.pending cutter.taken cutter'.taken cutter.limit cutter.ended cutter'.ended left0 left left' s.taken t.step in
    subst (λ n. Serves first limit n left0 left' given0 given asked0 asked' offered0 offered count0 count contents0 contents calls0 calls walked0 walked) code (record {
      came = found.0;
      consumed = found.1;
      most = omega (arith, found.2, s.limit_is);
      all_lines = λ h. absurd (omega (arith, h));
      failed_lines = λ h. absurd (omega (arith, h));
      spent_lines = λ _. (found.3 ∙ ap (λ n. whole (take n found.0)) s.limit_is, omega (arith, found.2, s.limit_is));
      taken = s.lines;
      replies = s.replies;
      last = server;
      session = s.session;
      few = s.few;
      exports = s.exports;
      commits = s.commits;
      stored = s.stored;
      some_lines = λ h. absurd (omega (arith, h));
      all_replies = λ _. s.gave;
      some_replies = λ h. absurd (omega (arith, h));
      in_time = λ h. absurd (omega (arith, h));
      asks = asked_last cutter cutter' cut.Spent s.lines limit left0 left left' asked0 asked asked' s.limit_is s.taken s.asks t found.0 all;
      asks_in_time = λ h. absurd (omega (arith, h));
      offers = λ _. s.offers;
      offers_until = λ h. absurd (omega (arith, h));
    })

-- Past the limit the input is longer than that.
pub spent_input : (first : State) (limit most status : ℕ) (left left' given given' : Option (List ℕ)) (asked asked' : Option (List Take)) (offered offered' : Option (List Offer)) (count count' : ℕ) (contents contents' : Option Kept) (calls calls' : Option (List Call)) (walked walked' : ℕ) → limit ≡ most
    → Serves first limit status left left' given given' asked asked' offered offered' count count' contents contents' calls calls' walked walked' → status ≡ 8 → IfSome left (λ bytes. most < length bytes)
spent_input first limit most status left left' given given' asked asked' offered offered' count count' contents contents' calls calls' walked walked' same s is =
    if_some left (λ bytes. length s.came ≤ length bytes) (λ bytes. most < length bytes) (λ bytes h. omega (arith, same, h, (s.spent_lines is).1)) (longer left left' s.came s.consumed)

-- the statuses at a last answer
pub ends_of : (c : Cut) (status : ℕ) → status_of c ≡ Some status → (status ≡ 0) ⊎ ((status ≡ 4) ⊎ ((status ≡ 5) ⊎ (status ≡ 8)))
ends_of cut.Line status is = cc
ends_of cut.TooLong status is = cc
ends_of cut.End status is = inl (cc)
ends_of cut.Failed status is = inr (inl (cc))
ends_of cut.Spent status is = inr (inr (inr (cc)))
