-- For each table, the version that changed it last.
use Rattle.std.proofs.Common.{◌≡◌, ◌+◌, ℕ, Bool, true, false, cond, ◌||◌, List, [], ◌∷◌, Option, Some, Result, inl, inr, refl, sym, ap, ◌∙◌}
use Rattle.plain_values.proofs.Common.{cases_Bool, or_from, or_parts, list_any, eq_by_cmp, bytes_cmp}
use Rattle.std.specs.FinMap as finmap
use Rattle.plain_values.specs.SortedSet as set
use Rattle.fd_laws.proofs.Common.{name_total}
use Rattle.lens_specs.specs.Common.{Name, Relation, Tables, TableDelta, LeadTo, inverted}
use Rattle.grammar_specs.specs.Common.{Definition, table, view}
use Rattle.server_specs.specs.Common.{Line, State, Answer, Request, with_defined, accept, with_last, answer, Valid, undone}
use Rattle.server_laws.proofs.Outcomes.{Outcome, is_told, is_refused, is_defined, is_changed, is_undone, outcome}
use Rattle.lens_laws.proofs.Common.{same_is, same_name}
use Rattle.lens_laws.proofs.Moves.{get_other}
use Rattle.server_laws.proofs.Valid.{undo_leads}
use Rattle.server_laws.specs.AnswerLaws.{IsLast}

-- the table is of one of the differences
abbrev is_of : Name → List TableDelta → Bool
is_of q ds = list_any (λ d. eq_by_cmp bytes_cmp q d.table) ds

either : (a b : Bool) (v : ℕ) (o : Option ℕ) → cond a (Some v) (cond b (Some v) o) ≡ cond (b || a) (Some v) o
either true true v o = refl
either true false v o = refl
either false true v o = refl
either false false v o = refl

-- if is_of says no, so does the test by which differences apply
not_of : (q : Name) (ds : List TableDelta) → is_of q ds ≡ false → list_any (λ c. same_name c.table q) ds ≡ false
not_of q [] o = refl
not_of q (d ∷ ds) o = let w = or_parts (eq_by_cmp bytes_cmp q d.table) (is_of q ds) o in or_from (same_name d.table q) _ (same_is d.table q ∙ w.0) (not_of q ds w.1)

get-with_last : (v : ℕ) (ds : List TableDelta) (last : finmap.FinMap bytes_cmp ℕ) (q : Name) → finmap.get (with_last v ds last) q ≡ cond (is_of q ds) (Some v) (finmap.get last q)
get-with_last v [] last q = refl
get-with_last v (d ∷ ds) last q = get-with_last v ds (finmap.insert last d.table v) q ∙ ap (λ o. cond (is_of q ds) (Some v) o) (finmap.get-insert name_total last d.table v q)
    ∙ either (is_of q ds) (eq_by_cmp bytes_cmp q d.table) v (finmap.get last q)

-- what differences that lead to the tables after it change last
led_last : (s t : State) (ds : List TableDelta) → LeadTo ds s.tables t.tables → t.last ≡ with_last t.version ds s.last → (q : Name) → IsLast s t q
led_last s t ds leads is q =
    let last : finmap.get t.last q ≡ cond (is_of q ds) (Some t.version) (finmap.get s.last q) = ap (λ m. finmap.get m q) is ∙ get-with_last t.version ds s.last q in
    elim (cases_Bool (is_of q ds)) [
      | inl i ↦ inl (last ∙ ap (λ c. cond c (Some t.version) (finmap.get s.last q)) i)
      | inr o ↦ inr (last ∙ ap (λ c. cond c (Some t.version) (finmap.get s.last q)) o, ap (λ db. finmap.get db q) (sym leads.1) ∙ get_other ds s.tables q (not_of q ds o))
    ]

stays : (s : State) (q : Name) → IsLast s s q
stays s q = inr (refl, refl)

last_accept : (s : State) (ds : List TableDelta) (db : Tables) → LeadTo ds s.tables db → (q : Name) → IsLast s (accept db ds s).1 q
last_accept s [] db leads q = stays s q
last_accept s (d ∷ ds) db leads q = led_last s (accept db (d ∷ ds) s).1 (d ∷ ds) leads refl q

-- a definition changes the table that it makes
last_defined : (s : State) (text : List ℕ) (d : Definition) (q : Name) → IsLast s (with_defined text d s) q
last_defined s text (view name expr) q = inr (refl, refl)
last_defined s text (table name columns deps P) q =
    let M : Relation = record { columns = columns; rows = set.empty } in
    elim (cases_Bool (eq_by_cmp bytes_cmp q name)) [
      | inl t ↦ inl (finmap.get-insert name_total s.last name (s.version + 1) q ∙ ap (λ c. cond c (Some (s.version + 1)) (finmap.get s.last q)) t)
      | inr o ↦ inr (
        finmap.get-insert name_total s.last name (s.version + 1) q ∙ ap (λ c. cond c (Some (s.version + 1)) (finmap.get s.last q)) o,
        finmap.get-insert name_total s.tables name M q ∙ ap (λ c. cond c (Some M) (finmap.get s.tables q)) o,
      )
    ]

last_outcome : (s : State) → Valid s → {r : Result Request Answer} {t : Answer × State} → Outcome s r t → (q : Name) → IsLast s t.1 q
last_outcome s v (is_told asks told) q = stays s q
last_outcome s v (is_refused refuses) q = stays s q
last_outcome s v (is_defined text d j) q = last_defined s text d q
last_outcome s v (is_changed ds db makes leads) q = last_accept s ds db (leads v).leads q
last_outcome s v (is_undone cs is) q = led_last s (undone (Some cs) s).1 (inverted cs) (undo_leads s cs v is) refl q

pub last_answer : (s : State) (l : Line) → Valid s → (name : Name) → IsLast s (answer s l).1 name
last_answer s l v q = last_outcome s v (outcome s l) q
