-- What undo brings back, over a session.
use Rattle.std.proofs.Common.{◌≡◌, ◌∙◌, ◌+◌, ◌-◌, ℕ, zero, suc, get_or, Bool, true, false, cond, List, [], ◌∷◌, ◌++◌, length, take, drop, reverse, Option, Some, None, Result, Ok, is_some, ap, sym, subst, refl, arith, ◌↔◌, nat_eq, slice_get}
use Rattle.plain_values.proofs.Common.{ne_eqb, true≢false, false_from_ne_true, drop-append-le, length-append, reverse-append, take-append-drop, slice_get-get_or, eq_by_cmp, bytes_cmp, eq-eqb}
use Rattle.std.specs.FinMap as finmap
use Rattle.plain_values.specs.SortedSet as set
use Rattle.fd_laws.proofs.Common.{name_total, tied_name}
use Rattle.lens_specs.specs.Common.{TableDelta, Tables, Name, Relation, LeadTo, inverted, with_deltas}
use Rattle.grammar_specs.specs.Common.{Definition, table, view}
use Rattle.grammar_laws.specs.Reading.{reading}
use Rattle.server_specs.specs.Common.{Line, Catalogue, catalogue, judged, State, remember, Answer, told, changed, nothing_to_undo, Request, undo, request, with_defined, accept, undone, answer, answer_request, Replies, answered, not_stored, found_memory, out_of_memory, Exchange, Chain, last_state, last_count, AreStored, CanUndo, Valid}
use Rattle.server_laws.specs.Answers.{IsChange}
use Rattle.server_laws.specs.UndoLaws.{AreIn, Move, stays, made, taken_back, befores_after, move, move_of, move_to, moved, UndoRestores}
use Rattle.server_laws.proofs.Outcomes.{Outcome, is_told, is_refused, is_defined, is_changed, is_undone, outcome, questions_make_nothing}
use Rattle.server_laws.proofs.Led.{IsChangeTo}
use Rattle.lens_laws.proofs.Common.{all_there}
use Rattle.server_laws.proofs.Remembered.{reverse_last, with_new}
use Rattle.server_laws.proofs.Taken.{judged_ok}
use Rattle.server_laws.proofs.Valid.{no_table, valid_chain, valid_step}

-- taken back one after another from these tables, the changes leave the tables before each as they were
abbrev pub Recalls : Tables → List (List TableDelta) → List Tables → Type 0
Recalls db [] befores = Unit {0}
Recalls db (cs ∷ pasts) [] = ⊥
Recalls db (cs ∷ pasts) (b ∷ befores) = AreIn b (with_deltas (inverted cs) db) × Recalls (with_deltas (inverted cs) db) pasts befores

-- so do the first of them
front_recalls : (db : Tables) (xs ys : List (List TableDelta)) (befores : List Tables) → Recalls db (xs ++ ys) befores → Recalls db xs befores
front_recalls db [] ys befores h = tt
front_recalls db (cs ∷ xs) ys [] h = h
front_recalls db (cs ∷ xs) ys (b ∷ befores) h = (h.0, front_recalls (with_deltas (inverted cs) db) xs ys befores h.1)

-- and those that are not the oldest
last_recalls : (db : Tables) (n : ℕ) (past : List (List TableDelta)) (befores : List Tables) → Recalls db (reverse past) befores → Recalls db (reverse (drop n past)) befores
last_recalls db n past befores h = front_recalls db (reverse (drop n past)) (reverse (take n past)) befores
    (subst (λ p. Recalls db p befores) (ap reverse (sym (take-append-drop n past)) ∙ reverse-append (take n past) (drop n past)) h)

-- one more change
recalls_more : (old new : Tables) (cs : List TableDelta) (past : List (List TableDelta)) (befores : List Tables) → LeadTo (inverted cs) new old → Recalls old (reverse past) befores
    → Recalls new (reverse (remember cs past)) (old ∷ befores)
recalls_more old new cs past befores back h =
    last_recalls new (length (past ++ cs ∷ []) - 16) (past ++ cs ∷ []) (old ∷ befores)
    (subst (λ p. Recalls new p (old ∷ befores)) (sym (reverse-append past (cs ∷ [])))
    (λ q _. ap (λ db. finmap.get db q) back.1, subst (λ db. Recalls db (reverse past) befores) (sym back.1) h))

-- ---- a table more

module _ (known : Catalogue) (t : Name) (r : Relation) (absent : (db : Tables) → AreStored known db → is_some (finmap.get db t) ≡ false) where
  still_in : (b db : Tables) → is_some (finmap.get db t) ≡ false → AreIn b db → AreIn b (finmap.insert db t r)
  still_in b db new h q there =
      let other : eq_by_cmp bytes_cmp q t ≡ false = false_from_ne_true _ (λ tie. true≢false (sym there ∙ ap is_some (sym (h q there)) ∙ ap (λ n. is_some (finmap.get db n)) (tied_name q t tie) ∙ new)) in
      finmap.get-insert name_total db t r q ∙ ap (λ c. cond c (Some r) (finmap.get db q)) other ∙ h q there

  recalls_with : (db : Tables) (past : List (List TableDelta)) (befores : List Tables) → AreStored known db → CanUndo known db past → Recalls db past befores → Recalls (finmap.insert db t r) past befores
  recalls_with db [] befores s can h = tt
  recalls_with db (cs ∷ past) [] s can h = h
  recalls_with db (cs ∷ past) (b ∷ befores) s can h =
      let is : with_deltas (inverted cs) (finmap.insert db t r) ≡ finmap.insert (with_deltas (inverted cs) db) t r = with_new t r (inverted cs) db (all_there (inverted cs) db can.0) (absent db s) in (
        subst (AreIn b) (sym is) (still_in b (with_deltas (inverted cs) db) (absent (with_deltas (inverted cs) db) can.1) h.0),
        subst (λ d. Recalls d past befores) (sym is) (recalls_with (with_deltas (inverted cs) db) past befores can.1 can.2 h.1),
      )

-- ---- one answer

-- from one state to the next, by what the request does where it raises the version
abbrev Goes : State → State → Move → List Tables → Type 0
Goes s t m befores = Recalls t.tables (reverse t.past) (moved (move_to s t m) s.tables befores)

-- where the version is the same, nothing becomes of them
still_recalls : (s : State) (m : Move) (befores : List Tables) → Recalls s.tables (reverse s.past) befores → Goes s s m befores
still_recalls s m befores h = subst (λ b. Recalls s.tables (reverse s.past) (moved (cond b stays m) s.tables befores)) (sym (eq-eqb s.version s.version refl)) h

-- where it is one more, what the request does
raised : (s t : State) (m : Move) (befores : List Tables) → t.version ≡ s.version + 1 → Recalls t.tables (reverse t.past) (moved m s.tables befores) → Goes s t m befores
raised s t m befores more h =
    subst (λ b. Recalls t.tables (reverse t.past) (moved (cond b stays m) s.tables befores)) (sym (ap (nat_eq s.version) more ∙ ne_eqb s.version (s.version + 1) (λ e. omega arith))) h

accept_recalls : (s : State) (ds : List TableDelta) (db : Tables) (befores : List Tables) → IsChangeTo s ds db → Recalls s.tables (reverse s.past) befores → Goes s (accept db ds s).1 made befores
accept_recalls s [] db befores c h = still_recalls s made befores h
accept_recalls s (d ∷ ds) db befores c h = raised s (accept db (d ∷ ds) s).1 made befores refl (recalls_more s.tables db (d ∷ ds) s.past befores c.back h)

without_first : (db : Tables) (cs : List TableDelta) (past : List (List TableDelta)) (befores : List Tables) → Recalls db (cs ∷ past) befores → Recalls (with_deltas (inverted cs) db) past (drop 1 befores)
without_first db cs past [] h = absurd h
without_first db cs past (b ∷ befores) h = h.1

defined_recalls : (s : State) → Valid s → (text : List ℕ) (d : Definition) → judged (catalogue s.texts) (reading text) ≡ Ok d → (befores : List Tables) → Recalls s.tables (reverse s.past) befores
    → Goes s (with_defined text d s) stays befores
defined_recalls s v text (table name columns deps P) j befores h =
    let free = (judged_ok (catalogue s.texts) (reading text) (table name columns deps P) j).1.0 in
    raised s (with_defined text (table name columns deps P) s) stays befores refl
    (recalls_with (catalogue s.texts) name (record { columns = columns; rows = set.empty })
    (λ db stored. ap is_some (no_table name (finmap.get (catalogue s.texts) name) (finmap.get db name) free (stored name)))
    s.tables (reverse s.past) befores v.tables v.past h)
defined_recalls s v text (view name expr) j befores h = raised s (with_defined text (view name expr) s) stays befores refl h

undone_recalls : (s : State) (cs : List TableDelta) → slice_get s.past (length s.past - 1) ≡ Some cs → (befores : List Tables) → Recalls s.tables (reverse s.past) befores
    → Goes s (undone (Some cs) s).1 taken_back befores
undone_recalls s cs is befores h =
    raised s (undone (Some cs) s).1 taken_back befores refl (without_first s.tables cs (reverse (take (length s.past - 1) s.past)) befores (subst (λ p. Recalls s.tables p befores) (reverse_last s.past cs is) h))

outcome_recalls : (s : State) → Valid s → {r : Result Request Answer} {t : Answer × State} → Outcome s r t → (befores : List Tables) → Recalls s.tables (reverse s.past) befores → Goes s t.1 (move_of r) befores
outcome_recalls s v {r = r} (is_told q told) befores h = still_recalls s (move_of r) befores h
outcome_recalls s v {r = r} (is_refused refuses) befores h = still_recalls s (move_of r) befores h
outcome_recalls s v (is_defined text d j) befores h = defined_recalls s v text d j befores h
outcome_recalls s v (is_changed ds db makes leads) befores h = subst (λ m. Goes s (accept db ds s).1 m befores) (sym makes) (accept_recalls s ds db befores (leads v) h)
outcome_recalls s v (is_undone cs is) befores h = undone_recalls s cs is befores h

answer_recalls : (s : State) → Valid s → (l : Line) (befores : List Tables) → Recalls s.tables (reverse s.past) befores → Goes s (answer s l).1 (move_of (request l)) befores
answer_recalls s v l befores h = outcome_recalls s v (outcome s l) befores h

-- ---- sessions

step_recalls : (s : State) (count : ℕ) (l : Line) (reply : List ℕ) (t : State) (count' : ℕ) → Valid s → Replies s count l reply t count' → (befores : List Tables) → Recalls s.tables (reverse s.past) befores
    → Goes s t (move_of (request l)) befores
step_recalls s count l reply t count' v r befores h = elim r [
  | found_memory (answered told is) ↦ subst (λ u. Goes s u (move_of (request l)) befores) (sym is) (answer_recalls s v l befores h)
  | out_of_memory short told is ↦ subst (λ u. Goes s u (move_of (request l)) befores) (sym is) (still_recalls s (move_of (request l)) befores h)
  | found_memory (not_stored told is moved grew) ↦ subst (λ u. Goes s u (move_of (request l)) befores) (sym is) (still_recalls s (move_of (request l)) befores h)
]

chain_recalls : (s : State) (count : ℕ) (es : List Exchange) → Valid s → Chain s count es → (befores : List Tables) → Recalls s.tables (reverse s.past) befores
    → Recalls (last_state s es).tables (reverse (last_state s es).past) (befores_after s es befores)
chain_recalls s count [] v c befores h = h
chain_recalls s count (e ∷ es) v c befores h =
    chain_recalls e.state e.count es (valid_step s count e.line e.reply e.state e.count v c.0.replied) c.1 (moved (move s e) s.tables befores)
    (step_recalls s count e.line e.reply e.state e.count v c.0.replied befores h)

-- the part of a chain that comes after some exchanges, and the part before
pub rest_of : (s : State) (count : ℕ) (before rest : List Exchange) → Chain s count (before ++ rest) → Chain (last_state s before) (last_count count before) rest
rest_of s count [] rest c = c
rest_of s count (e ∷ es) rest c = rest_of e.state e.count es rest c.1

pub front_of : (s : State) (count : ℕ) (before rest : List Exchange) → Chain s count (before ++ rest) → Chain s count before
front_of s count [] rest c = tt
front_of s count (e ∷ es) rest c = (c.0, front_of e.state e.count es rest c.1)

-- a move that takes a change back raises the version, and is that of an undo
moved_on : (s t : State) (m : Move) → move_to s t m ≡ taken_back → (nat_eq s.version t.version ≡ false) × (m ≡ taken_back)
moved_on s t m e = by_test (nat_eq s.version t.version) e
  where
    by_test : (b : Bool) → cond b stays m ≡ taken_back → (b ≡ false) × (m ≡ taken_back)
    by_test true e = cc
    by_test false e = (refl, e)

is_undo : (r : Result Request Answer) → move_of r ≡ taken_back → r ≡ Ok undo
is_undo (Ok undo) e = refl
is_undo r e = cc

-- the tables before the last change are first, and an undo brings them back
Restores : State → State → List Tables → Type 0
Restores s t befores = (db : Tables) × (older : List Tables) × (befores ≡ db ∷ older) × AreIn db t.tables

undone_restores : (s : State) → Valid s → (o : Option (List TableDelta)) → slice_get s.past (length s.past - 1) ≡ o → (befores : List Tables) → Recalls s.tables (reverse s.past) befores
    → nat_eq s.version (undone o s).1.version ≡ false → Restores s (undone o s).1 befores
unfolding Restores
undone_restores s v None is befores h later = absurd (true≢false (sym (eq-eqb s.version s.version refl) ∙ later))
undone_restores s v (Some cs) is befores h later = by_list befores (subst (λ p. Recalls s.tables p befores) (reverse_last s.past cs is) h)
  where
    by_list : (bs : List Tables) → Recalls s.tables (cs ∷ reverse (take (length s.past - 1) s.past)) bs
        → (db : Tables) × (older : List Tables) × (bs ≡ db ∷ older) × AreIn db (with_deltas (inverted cs) s.tables)
    by_list [] k = absurd k
    by_list (b ∷ bs) k = (b, bs, refl, k.0)

pub undo_is : (s : State) (l : Line) → request l ≡ Ok undo → answer s l ≡ undone (slice_get s.past (length s.past - 1)) s
unfolding answer
undo_is s l asked = ap (λ q. answer_request q s) asked

-- an undo that raises the version takes a change back
pub move_of_undo : (s t : State) (l : Line) → request l ≡ Ok undo → nat_eq s.version t.version ≡ false → move_to s t (move_of (request l)) ≡ taken_back
move_of_undo s t l asked later = ap (λ b. cond b stays (move_of (request l))) later ∙ ap move_of asked

step_restores : (s : State) (count : ℕ) (l : Line) (reply : List ℕ) (t : State) (count' : ℕ) → Valid s → Replies s count l reply t count' → (befores : List Tables) → Recalls s.tables (reverse s.past) befores
    → move_to s t (move_of (request l)) ≡ taken_back → Restores s t befores
step_restores s count l reply t count' v r befores h taken =
    let w = moved_on s t (move_of (request l)) taken in
    let asked = is_undo (request l) w.1 in
    let stuck : t ≡ s → Restores s t befores = λ same. absurd (true≢false (sym (eq-eqb s.version s.version refl) ∙ ap (λ u. nat_eq s.version u.version) (sym same) ∙ w.0)) in
    elim r [
      | found_memory (answered told is) ↦
          let here : t ≡ (undone (slice_get s.past (length s.past - 1)) s).1 = is ∙ ap (λ a. a.1) (undo_is s l asked) in
          subst (λ u. Restores s u befores) (sym here)
          (undone_restores s v (slice_get s.past (length s.past - 1)) refl befores h (ap (λ u. nat_eq s.version u.version) (sym here) ∙ w.0))
      | out_of_memory short told is ↦ stuck is
      | found_memory (not_stored told is moved grew) ↦ stuck is
    ]

pub undo_restores : UndoRestores
unfolding Restores
undo_restores s count lines replies last count' v none session before after e parts taken =
    let chain = subst (Chain s count) parts session.chain in
    let front = front_of s count before (e ∷ after) chain in
    let here = rest_of s count before (e ∷ after) chain in
    let start : Recalls s.tables (reverse s.past) [] = subst (λ p. Recalls s.tables (reverse p) []) (sym none) tt in
    step_restores (last_state s before) (last_count count before) e.line e.reply e.state e.count (valid_chain s count before v front).1 here.0.replied
    (befores_after s before []) (chain_recalls s count before v front [] start) taken

-- ---- at once

-- the last change that can be undone leads from the tables back to the old ones
record IsBack (s t : State) : Type 0 where
  cs : List TableDelta
  last : slice_get t.past (length t.past - 1) ≡ Some cs
  back : with_deltas (inverted cs) t.tables ≡ s.tables

last_got : {A : Type 0} (n : ℕ) (xs : List A) (y : A) → n ≡ length xs → slice_get (xs ++ y ∷ []) n ≡ Some y
last_got zero [] y e = refl
last_got zero (x ∷ xs) y e = absurd (omega arith)
last_got (suc n) [] y e = absurd (omega arith)
last_got (suc n) (x ∷ xs) y e = last_got n xs y (omega arith)

last_pushed : {A : Type 0} (xs : List A) (y : A) → slice_get (xs ++ y ∷ []) (length (xs ++ y ∷ []) - 1) ≡ Some y
last_pushed xs y = let e = length-append xs (y ∷ []) in last_got (length (xs ++ y ∷ []) - 1) xs y (omega arith)

-- the last change remembered is the new one
pub remembered_last : (cs : List TableDelta) (past : List (List TableDelta)) → slice_get (remember cs past) (length (remember cs past) - 1) ≡ Some cs
remembered_last cs past =
    let e = length-append past (cs ∷ []) in
    let is : remember cs past ≡ drop (length (past ++ cs ∷ []) - 16) past ++ cs ∷ [] = drop-append-le (length (past ++ cs ∷ []) - 16) past (cs ∷ []) (omega arith) in
    ap (λ p. slice_get p (length p - 1)) is ∙ last_pushed (drop (length (past ++ cs ∷ []) - 16) past) cs

accept_back : (s : State) (ds : List TableDelta) (db : Tables) → IsChangeTo s ds db → IsChange (accept db ds s).0 → IsBack s (accept db ds s).1
accept_back s [] db c h = absurd h
accept_back s (d ∷ ds) db c h = record { cs = d ∷ ds; last = remembered_last (d ∷ ds) s.past; back = c.back.1 }

outcome_back : (s : State) → Valid s → {r : Result Request Answer} {t : Answer × State} → Outcome s r t → move_of r ≡ made → IsChange t.0 → IsBack s t.1
outcome_back s v {r = r} (is_told q told) m h = absurd (questions_make_nothing r q m)
outcome_back s v (is_refused refuses) m h = absurd (refuses.change h)
outcome_back s v (is_defined text d j) m h = cc
outcome_back s v (is_changed ds db makes leads) m h = accept_back s ds db (leads v) h
outcome_back s v (is_undone cs is) m h = cc

answer_back : (s : State) → Valid s → (l : Line) → move_of (request l) ≡ made → IsChange (answer s l).0 → IsBack s (answer s l).1
answer_back s v l m h = outcome_back s v (outcome s l) m h

pub undone_at_once : (s : State) → Valid s → (l m : Line) → move_of (request l) ≡ made → IsChange (answer s l).0 → request m ≡ Ok undo → (answer (answer s l).1 m).1.tables ≡ s.tables
undone_at_once s v l m makes h asked =
    let b = answer_back s v l makes h in
    ap (λ a. a.1.tables) (undo_is (answer s l).1 m asked) ∙ ap (λ o. (undone o (answer s l).1).1.tables) b.last ∙ b.back

-- ---- nothing to undo

none_last : {A : Type 0} (xs : List A) → slice_get xs (length xs - 1) ≡ None → xs ≡ []
none_last [] e = refl
none_last {A = A} (x ∷ xs) e =
    let is : slice_get (x ∷ xs) (length (x ∷ xs) - 1) ≡ Some (get_or (x ∷ xs) (length (x ∷ xs) - 1) x) = slice_get-get_or (x ∷ xs) (length (x ∷ xs) - 1) x (omega arith) in
    let clash : ◌≡◌ {A = Option A} None (Some (get_or (x ∷ xs) (length (x ∷ xs) - 1) x)) = sym e ∙ is in cc

nothing_by : (o : Option (List TableDelta)) (s : State) → undone o s ≡ (nothing_to_undo, s) → o ≡ None
nothing_by None s e = refl
nothing_by (Some cs) s e = let f : changed (inverted cs) (s.version + 1) ≡ nothing_to_undo = ap (λ a. a.0) e in cc

pub nothing_told : (s : State) (l : Line) → request l ≡ Ok undo → (answer s l ≡ (nothing_to_undo, s)) ↔ (s.past ≡ [])
nothing_told s l asked = (
  λ e. none_last s.past (nothing_by (slice_get s.past (length s.past - 1)) s (sym (undo_is s l asked) ∙ e)),
  λ none. undo_is s l asked ∙ ap (λ p. undone (slice_get p (length p - 1)) s) none,
)
