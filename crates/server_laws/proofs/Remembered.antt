-- Changes that can be undone: with one more, with one less, and after a definition.
use Rattle.std.proofs.Common.{◌≡◌, ◌∙◌, ◌≤◌, ◌+◌, ◌-◌, ℕ, zero, suc, Bool, true, false, cond, List, [], ◌∷◌, ◌++◌, length, take, drop, get_or, reverse, Option, Some, is_some, ap, sym, subst, refl, arith, slice_get, unwrap_or}
use Rattle.plain_values.proofs.Common.{true≢false, false_from_ne_true, length-drop, reverse-append, take-append-drop, take_more, slice_get-get_or, AllByRecursion, eq_by_cmp, bytes_cmp, take_all}
use Rattle.std.proofs.lemmas.Option.{slice_get_within}
use Rattle.std.specs.FinMap as finmap
use Rattle.fd_laws.proofs.Common.{name_exact, name_total, tied_name}
use Rattle.lens_specs.specs.Common.{AppliesTo, TableDelta, Tables, Name, Relation, AllApply, LeadTo, after, inverted, no_relation, with_deltas, relation_in}
use Rattle.server_specs.specs.Common.{Catalogue, remember, AreStored, CanUndo, IsDifference}
use Rattle.lens_laws.proofs.Common.{AllThere, all_there, still_there}

-- ---- lists

all_dropped : {A : Type 0} (P : A → Type 0) (n : ℕ) (xs : List A) → AllByRecursion P xs → AllByRecursion P (drop n xs)
all_dropped P zero [] h = tt
all_dropped P zero (x ∷ xs) h = h
all_dropped P (suc n) [] h = tt
all_dropped P (suc n) (x ∷ xs) h = all_dropped P n xs h.1

pub all_taken : {A : Type 0} (P : A → Type 0) (n : ℕ) (xs : List A) → AllByRecursion P xs → AllByRecursion P (take n xs)
all_taken P zero [] h = tt
all_taken P zero (x ∷ xs) h = tt
all_taken P (suc n) [] h = tt
all_taken P (suc n) (x ∷ xs) h = (h.0, all_taken P n xs h.1)

all_pushed : {A : Type 0} (P : A → Type 0) (xs : List A) (y : A) → AllByRecursion P xs → P y → AllByRecursion P (xs ++ y ∷ [])
all_pushed P [] y h p = (p, tt)
all_pushed P (x ∷ xs) y h p = (h.0, all_pushed P xs y h.1 p)

-- a list is what is before its last, and its last
split_last : {A : Type 0} (xs : List A) (x : A) → slice_get xs (length xs - 1) ≡ Some x → xs ≡ take (length xs - 1) xs ++ x ∷ []
split_last xs x e =
    let within = slice_get_within xs (length xs - 1) x e in
    let is : Some (get_or xs (length xs - 1) x) ≡ Some x = sym (slice_get-get_or xs (length xs - 1) x within) ∙ e in
    let last : x ≡ get_or xs (length xs - 1) x = cc in
    sym (take_all (length xs - 1 + 1) xs (omega arith)) ∙ take_more xs (length xs - 1) x within ∙ ap (λ y. take (length xs - 1) xs ++ y ∷ []) (sym last)

pub reverse_last : {A : Type 0} (xs : List A) (x : A) → slice_get xs (length xs - 1) ≡ Some x → reverse xs ≡ x ∷ reverse (take (length xs - 1) xs)
reverse_last xs x e = ap reverse (split_last xs x e) ∙ reverse-append (take (length xs - 1) xs) (x ∷ [])

-- ---- one more

-- the first of the changes that can be undone can be
front_undo : (known : Catalogue) (db : Tables) (xs ys : List (List TableDelta)) → CanUndo known db (xs ++ ys) → CanUndo known db xs
front_undo known db [] ys h = tt
front_undo known db (cs ∷ xs) ys h = (h.0, h.1, front_undo known (with_deltas (inverted cs) db) xs ys h.2)

-- so they can without the oldest
last_undo : (known : Catalogue) (db : Tables) (n : ℕ) (past : List (List TableDelta)) → CanUndo known db (reverse past) → CanUndo known db (reverse (drop n past))
last_undo known db n past h = front_undo known db (reverse (drop n past)) (reverse (take n past))
    (subst (CanUndo known db) (ap reverse (sym (take-append-drop n past)) ∙ reverse-append (take n past) (drop n past)) h)

-- at most 16 are remembered
pub few_remembered : (cs : List TableDelta) (past : List (List TableDelta)) → length (remember cs past) ≤ 16
few_remembered cs past = let e = length-drop (length (past ++ cs ∷ []) - 16) (past ++ cs ∷ []) in omega arith

pub differences_remembered : (cs : List TableDelta) (past : List (List TableDelta)) → AllByRecursion IsDifference past → IsDifference cs → AllByRecursion IsDifference (remember cs past)
differences_remembered cs past h d = all_dropped IsDifference (length (past ++ cs ∷ []) - 16) (past ++ cs ∷ []) (all_pushed IsDifference past cs h d)

-- a change that is taken back to tables from which the others can be undone
pub can_undo_more : (known : Catalogue) (old new : Tables) (cs : List TableDelta) (past : List (List TableDelta)) → AreStored known old → LeadTo (inverted cs) new old
    → CanUndo known old (reverse past) → CanUndo known new (reverse (remember cs past))
can_undo_more known old new cs past stored back h =
    last_undo known new (length (past ++ cs ∷ []) - 16) (past ++ cs ∷ [])
    (subst (CanUndo known new) (sym (reverse-append past (cs ∷ [])))
    (back.0, subst (AreStored known) (sym back.1) stored, subst (λ db. CanUndo known db (reverse past)) (sym back.1) h))

-- ---- a table more

module _ (t : Name) (r : Relation) where
  -- the name is not that of a table that is there
  other : (db : Tables) (u : Name) → is_some (finmap.get db u) ≡ true → is_some (finmap.get db t) ≡ false → eq_by_cmp bytes_cmp u t ≡ false
  other db u there new = false_from_ne_true _ (λ tie. true≢false (sym there ∙ ap (λ n. is_some (finmap.get db n)) (tied_name u t tie) ∙ new))

  same_there : (db : Tables) (u : Name) → is_some (finmap.get db u) ≡ true → is_some (finmap.get db t) ≡ false → finmap.get (finmap.insert db t r) u ≡ finmap.get db u
  same_there db u there new = finmap.get-insert name_total db t r u ∙ ap (λ b. cond b (Some r) (finmap.get db u)) (other db u there new)

  cross : (a b : Bool) (x y : Relation) (o : Option Relation) → (a ≡ true → b ≡ false) → cond a (Some x) (cond b (Some y) o) ≡ cond b (Some y) (cond a (Some x) o)
  cross true true x y o h = absurd (true≢false (h refl))
  cross true false x y o h = refl
  cross false b x y o h = refl

  -- one table and then another, or the other way round
  swapped : (db : Tables) (u : Name) (x : Relation) → eq_by_cmp bytes_cmp u t ≡ false → finmap.insert (finmap.insert db t r) u x ≡ finmap.insert (finmap.insert db u x) t r
  swapped db u x apart = finmap.same_map name_total name_exact _ _ (λ q.
      finmap.get-insert name_total (finmap.insert db t r) u x q ∙ ap (λ o. cond (eq_by_cmp bytes_cmp q u) (Some x) o) (finmap.get-insert name_total db t r q)
      ∙ cross (eq_by_cmp bytes_cmp q u) (eq_by_cmp bytes_cmp q t) x r (finmap.get db q) (λ tie. ap (λ n. eq_by_cmp bytes_cmp n t) (tied_name q u tie) ∙ apart)
      ∙ ap (λ o. cond (eq_by_cmp bytes_cmp q t) (Some r) o) (sym (finmap.get-insert name_total db u x q))
      ∙ sym (finmap.get-insert name_total (finmap.insert db u x) t r q))

  absent_after : (db : Tables) (u : Name) (x : Relation) → is_some (finmap.get db u) ≡ true → is_some (finmap.get db t) ≡ false → is_some (finmap.get (finmap.insert db u x) t) ≡ false
  absent_after db u x there new = ap is_some (finmap.get-insert name_total db u x t)
      ∙ ap (λ b. is_some (cond b (Some x) (finmap.get db t))) (false_from_ne_true _ (λ tie. true≢false (sym there ∙ ap (λ n. is_some (finmap.get db n)) (sym (tied_name t u tie)) ∙ new))) ∙ new

  -- differences of other tables leave a new one
  pub with_new : (cs : List TableDelta) (db : Tables) → AllThere cs db → is_some (finmap.get db t) ≡ false → with_deltas cs (finmap.insert db t r) ≡ finmap.insert (with_deltas cs db) t r
  with_new [] db there new = refl
  with_new (c ∷ cs) db there new =
      let x = after (relation_in db c.table) c.delta in
      ap (λ M. with_deltas cs (finmap.insert (finmap.insert db t r) c.table (after M c.delta))) (ap (λ o. unwrap_or o no_relation) (same_there db c.table there.0 new))
      ∙ ap (with_deltas cs) (swapped db c.table x (other db c.table there.0 new))
      ∙ with_new cs (finmap.insert db c.table x) (still_there cs db c.table x there.1) (absent_after db c.table x there.0 new)

  -- and apply beside it
  pub apply_with_new : (cs : List TableDelta) (db : Tables) → AllApply cs db → is_some (finmap.get db t) ≡ false → AllApply cs (finmap.insert db t r)
  apply_with_new [] db all new = tt
  apply_with_new (c ∷ cs) db all new =
      let same = same_there db c.table all.0 new in (
        ap is_some same ∙ all.0,
        subst (λ o. AppliesTo c.delta (unwrap_or o no_relation)) (sym same) all.1,
        all.2,
        apply_with_new cs db all.3 new,
      )

  -- what can be undone can be beside a new table
  pub can_undo_with : (old new : Catalogue) → ((db : Tables) → AreStored old db → AreStored new (finmap.insert db t r)) → ((db : Tables) → AreStored old db → is_some (finmap.get db t) ≡ false)
      → (db : Tables) (past : List (List TableDelta)) → AreStored old db → CanUndo old db past → CanUndo new (finmap.insert db t r) past
  can_undo_with old new stored absent db [] s h = tt
  can_undo_with old new stored absent db (cs ∷ past) s h =
      let none = absent db s in
      let is : with_deltas (inverted cs) (finmap.insert db t r) ≡ finmap.insert (with_deltas (inverted cs) db) t r = with_new (inverted cs) db (all_there (inverted cs) db h.0) none in (
        apply_with_new (inverted cs) db h.0 none,
        subst (AreStored new) (sym is) (stored (with_deltas (inverted cs) db) h.1),
        subst (λ d. CanUndo new d past) (sym is) (can_undo_with old new stored absent (with_deltas (inverted cs) db) past h.1 h.2),
      )

-- ---- a view more

pub can_undo_still : (old new : Catalogue) → ((db : Tables) → AreStored old db → AreStored new db) → (db : Tables) (past : List (List TableDelta)) → CanUndo old db past → CanUndo new db past
can_undo_still old new stored db [] h = tt
can_undo_still old new stored db (cs ∷ past) h = (h.0, stored (with_deltas (inverted cs) db) h.1, can_undo_still old new stored (with_deltas (inverted cs) db) past h.2)
