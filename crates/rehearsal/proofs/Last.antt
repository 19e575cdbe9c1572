-- The end of a rehearsal.
use Rattle.std.proofs.Common.{◌≡◌, ◌≤◌, ◌+◌, ℕ, List, [], ◌∷◌, ◌++◌, length, refl, ap, sym, ◌∙◌, arith, count_by}
use Rattle.server_specs.specs.Common.{Line}
use Rattle.rehearsal.specs.Rehearsal.{read_lines}
use Rattle.rehearsal.specs.Rehearsed.{Rehearsed}
use Rattle.rehearsal.specs.Stages.{Point, Passed, Shows, counted}
use Rattle.rehearsal.specs.Summary.{summary, summary_line, last_three, counts_data, rows_data, is_ok, is_refusal}
use Rattle.rehearsal.specs.Walking.{most_looked_in}
use Rattle.rehearsal.specs.declared.tally.Shown.{Shown}
use Rattle.rehearsal.proofs.Joined.{length-replies}
use Rattle.rehearsal.proofs.Points.{Passed-append}

last_of_four : (before : List (List ℕ)) (a b c : List ℕ) → last_three (before ++ a ∷ b ∷ c ∷ []) ≡ a ∷ b ∷ c ∷ []
last_of_four [] a b c = refl
last_of_four (x ∷ []) a b c = refl
last_of_four (x ∷ y ∷ []) a b c = refl
last_of_four (x ∷ y ∷ z ∷ []) a b c = refl
last_of_four (x ∷ y ∷ z ∷ w ∷ before) a b c = last_of_four (y ∷ z ∷ w ∷ before) a b c

-- three replies at the end are the last three
last_three-append : (before replies : List (List ℕ)) → length replies ≡ 3 → last_three (before ++ replies) ≡ replies
last_three-append before [] h = absurd (omega (arith, h))
last_three-append before (a ∷ []) h = absurd (omega (arith, h))
last_three-append before (a ∷ b ∷ []) h = absurd (omega (arith, h))
last_three-append before (a ∷ b ∷ c ∷ []) h = last_of_four before a b c
last_three-append before (a ∷ b ∷ c ∷ d ∷ replies) h = absurd (omega (arith, h))

-- with the reads at its end, the rehearsal is told by its summary
pub Rehearsed-Passed : (a b c : Point) (lines : List Line) (replies : List (List ℕ)) (shown : Shown) (told : List ℕ) → a.tally ≡ record { accepted = 0; refused = 0 } → Passed a lines replies b → Shows b read_lines shown c
    → told ≡ summary_line c.tally.accepted c.tally.refused (rows_data shown.albums shown.tracks shown.stock) c.state.version
    → (done : Rehearsed a.state a.faults (lines ++ read_lines) told c.state c.faults a.calls c.calls a.walked c.walked) × (c.looked ≤ a.looked + most_looked_in a.state done.session.exchanges)
unfolding summary
Rehearsed-Passed a b c lines replies shown told zero p q is =
    let all = Passed-append a b c lines read_lines replies q.0 p q.1 in
    let last : last_three (replies ++ q.0) ≡ q.0 = last_three-append replies q.0 (length-replies b.state b.faults read_lines q.0 c.state c.faults q.1.session) in
    let tally : c.tally ≡ counted (record { accepted = 0; refused = 0 }) (replies ++ q.0) = all.counted_are ∙ ap (λ t. counted t (replies ++ q.0)) zero in
    let accepted : c.tally.accepted ≡ count_by is_ok (replies ++ q.0) = ap (λ t. t.accepted) tally ∙ (omega arith) in
    let refused : c.tally.refused ≡ count_by is_refusal (replies ++ q.0) = ap (λ t. t.refused) tally ∙ (omega arith) in
    let rows : rows_data shown.albums shown.tracks shown.stock ≡ counts_data (last_three (replies ++ q.0)) = sym q.2 ∙ ap counts_data (sym last) in (
      record {
        replies = replies ++ q.0;
        session = all.session;
        found_memory = all.found_memory;
        told_is = is ∙ (λ i. summary_line (accepted i) (refused i) (rows i) c.state.version);
        commits = all.commits;
        few = all.few;
      },
      all.few_looked,
    )
