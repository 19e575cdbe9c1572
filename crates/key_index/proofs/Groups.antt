-- What a change of one group does to the others.
use Rattle.std.proofs.Common.{◌≡◌, [], ◌∷◌, length, ap, sym, ◌∙◌, refl, Bool, true, false, cond, Option, Some, None, unwrap_or, not, ◌&&◌, Result, Ok, Err, IfOk, OnOk, OnErr}
use Rattle.plain_values.proofs.Common.{eq_by_cmp, BTreeMap, and-false, nil_from_length, row_cmp, Row, row_cmp_total, row_cmp-IsAntisymmetric, is_tie}
use Rattle.std.specs.BTreeMap.{get}
use Rattle.plain_values.specs.SortedSet as set
use Rattle.lens_specs.specs.Common.{Rows}
use Rattle.key_index.specs.Key.{Cells, cells_cmp, key_cmp}
use Rattle.key_index.proofs.Keys.{key_tied, same_ties}

pub tied : (key q : Row) → eq_by_cmp row_cmp key q ≡ true → key ≡ q
tied key q e = row_cmp-IsAntisymmetric key q (is_tie (row_cmp key q) e)

-- rows by their keys
abbrev pub Groups : Type 0
Groups = BTreeMap Cells Rows

-- the rows at a key
abbrev pub rows_at : Groups → Cells → Rows
rows_at m q = unwrap_or (get key_cmp m q) set.empty

picked : (b : Bool) (w : Rows) (f : Rows → Rows) (o : Option Rows) → (b ≡ true → w ≡ f (unwrap_or o set.empty))
    → unwrap_or (cond b (Some w) o) set.empty ≡ cond b (f (unwrap_or o set.empty)) (unwrap_or o set.empty)
picked true w f o h = h refl
picked false w f o h = refl

-- the group of the key became what f makes of it
pub through : (f : Rows → Rows) (m n : Groups) (key : Cells) (w : Rows) → w ≡ f (rows_at m key)
    → ((q : Cells) → get key_cmp n q ≡ cond (eq_by_cmp key_cmp key q) (Some w) (get key_cmp m q))
    → (q : Cells) → rows_at n q ≡ cond (eq_by_cmp cells_cmp key q) (f (rows_at m q)) (rows_at m q)
through f m n key w is updates q =
    ap (λ o. unwrap_or o set.empty) (updates q ∙ ap (λ b. cond b (Some w) (get key_cmp m q)) (same_ties key q))
    ∙ picked (eq_by_cmp cells_cmp key q) w f (get key_cmp m q) (λ e. is ∙ ap (λ k. f (rows_at m k)) (key_tied key q e))

either : {A : Type 0} (b : Bool) (x : A) → cond b x x ≡ x
either true x = refl
either false x = refl

-- the group of the key became what it was
pub unchanged : (m n : Groups) (key : Cells) (w : Rows) → w ≡ rows_at m key
    → ((q : Cells) → get key_cmp n q ≡ cond (eq_by_cmp key_cmp key q) (Some w) (get key_cmp m q))
    → (q : Cells) → rows_at n q ≡ rows_at m q
unchanged m n key w is updates q = through (λ s. s) m n key w is updates q ∙ either (eq_by_cmp cells_cmp key q) (rows_at m q)

pub nothing_left : (row : Row) → set.remove (set.empty {R = row_cmp}) row ≡ set.empty
nothing_left row = set.same_set row_cmp_total row_cmp-IsAntisymmetric _ _ (λ q.
    set.contains-remove row_cmp_total set.empty row q
    ∙ ap (λ b. not (eq_by_cmp row_cmp q row) && b) (set.contains-empty row_cmp q)
    ∙ and-false (not (eq_by_cmp row_cmp q row)) ∙ sym (set.contains-empty row_cmp q))

kept : (b : Bool) (s t : Rows) → (b ≡ true → t ≡ s) → s ≡ cond b t s
kept true s t h = sym (h refl)
kept false s t h = refl

-- where a key has no group, there is nothing to take out
pub nothing_taken : (m : Groups) (key : Cells) (row : Row) → get key_cmp m key ≡ None
    → (q : Cells) → rows_at m q ≡ cond (eq_by_cmp cells_cmp key q) (set.remove (rows_at m q) row) (rows_at m q)
nothing_taken m key row nil_from_length q = kept (eq_by_cmp cells_cmp key q) (rows_at m q) (set.remove (rows_at m q) row) (λ e.
    let gone : rows_at m q ≡ set.empty = ap (rows_at m) (sym (key_tied key q e)) ∙ ap (λ o. unwrap_or o set.empty) nil_from_length in
    ap (λ s. set.remove s row) gone ∙ nothing_left row ∙ sym gone)

pub on_ok : {T E P Q : Type 0} (r : Result T E) → (P → Q) → OnOk r P → OnOk r Q
on_ok (Ok x) f p = f p
on_ok (Err e) f p = p

pub if_ok : {T E : Type 0} {P Q : T → Type 0} (r : Result T E) → ((x : T) → P x → Q x) → IfOk r P → IfOk r Q
if_ok (Ok x) f p = f x p
if_ok (Err e) f p = p

pub on_err : {T E P Q : Type 0} (r : Result T E) → (P → Q) → OnErr r P → OnErr r Q
on_err (Ok x) f p = p
on_err (Err e) f p = f p

dropped : (b : Bool) (o : Option Rows) → (b ≡ true → unwrap_or o set.empty ≡ set.empty) → unwrap_or (cond b None o) set.empty ≡ unwrap_or o set.empty
dropped true o h = sym (h refl)
dropped false o h = refl

-- a set of no rows is the empty one
pub no_rows : (s : Rows) → length (set.items s) ≡ 0 → s ≡ set.empty
no_rows s e = sym (set.from_list-items row_cmp_total row_cmp-IsAntisymmetric s) ∙ ap set.from_list (nil_from_length (set.items s) e)

-- a row was taken out of the group of the key, and then the group, which was empty
pub taken_empty : (m n k : Groups) (key : Cells) (row : Row) (w : Rows) → w ≡ set.remove (rows_at m key) row → length (set.items w) ≡ 0
    → ((q : Cells) → get key_cmp n q ≡ cond (eq_by_cmp key_cmp key q) (Some w) (get key_cmp m q))
    → ((q : Cells) → get key_cmp k q ≡ cond (eq_by_cmp key_cmp key q) None (get key_cmp n q))
    → (q : Cells) → rows_at k q ≡ cond (eq_by_cmp cells_cmp key q) (set.remove (rows_at m q) row) (rows_at m q)
taken_empty m n k key row w is no_more put gone q =
    ap (λ o. unwrap_or o set.empty) (gone q)
    ∙ dropped (eq_by_cmp key_cmp key q) (get key_cmp n q)
    (λ tie. ap (λ o. unwrap_or o set.empty) (put q ∙ ap (λ b. cond b (Some w) (get key_cmp m q)) tie) ∙ no_rows w no_more)
    ∙ through (λ s. set.remove s row) m n key w is put q
