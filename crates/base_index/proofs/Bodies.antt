-- What holds of the parts of a table.
use Rattle.std.proofs.Common.{◌≡◌, ℕ, ◌≤◌, ◌+◌, ◌-◌, List, [], ◌∷◌, length, take, ap, sym, ◌∙◌, subst, refl, Bool, true, false, arith, zero, suc, ◌||◌, Option, Some, None, Result, Ok, Err, OnOk, OnErr, if◌then◌else◌}
use Rattle.plain_values.proofs.Common.{AllByRecursion, list_any, IsStrictlySortedBy, eq_by_cmp_equiv, tied_itself, eq_by_cmp, is_eq, Less, take_all, length-map, length-take-le, nil_from_length, false≢true, row_cmp, Row, row_cmp_total}
use Rattle.std.specs.FinMap as finmap
use Rattle.plain_values.specs.SortedSet as set
use Rattle.lens_specs.specs.Common.{Delta, new_view, Rows, has}
use Rattle.key_index.proofs.Common.{AreKeyed, IsTableOf, cols_of, rows_of, set_of, same_itself, same_trans, listed_whole, none_keyed, contained, same_rows, HasMarks, no_row_less, none_back_of, none_behind}
use Rattle.base_index.specs.Parts.{IsCalm, IsWhole, Keeps, Parts, rows_held, rows_next, rows_seen, to_come, to_go}
use Rattle.key_index.specs.declared.index.Index.{Index}
use Rattle.key_index.specs.declared.keyed.Keyed.{Keyed}
use Rattle.key_index.proofs.Whole.{first_indexes}
use Rattle.signed_delta.proofs.Differences.{items_rise}
use Rattle.key_index.proofs.Fronts.{above}

-- nothing is hidden where nothing is held
pub free_hidden : (p : Parts) → IsWhole p → p.held ≡ false → (x : Row) → has p.hidden x ≡ false
free_hidden p w off x = ap (λ s. has s x) (w.free off).hidden ∙ set.contains-empty row_cmp x

pub calm_come : (p : Parts) → IsCalm p → (x : Row) → has (to_come p) x ≡ false
calm_come p calm x = none_behind p.add p.added x (omega (arith, calm.add))

pub calm_go : (p : Parts) → IsCalm p → (x : Row) → has (to_go p) x ≡ false
calm_go p calm x = none_behind p.remove p.removed x (omega (arith, calm.remove))

pub calm_back : (p : Parts) → IsCalm p → (x : Row) → has (set_of p.revive) x ≡ false
calm_back p calm x = none_back_of p.revive x calm.revive

-- where nothing is staged, `settle` makes nothing else
pub calm_next : (p : Parts) → IsCalm p → rows_next p ≡ rows_seen p
calm_next p calm = same_rows _ _ (λ x. grind (arith, contained, calm_come p calm x, calm_go p calm x, calm_back p calm x))

pub kept_itself : (p : Parts) → Keeps p p
kept_itself p = record { seen = refl; held = refl; is_held = refl; columns = refl; cols = same_itself p.indexes }

pub kept_twice : (p q r : Parts) → Keeps p q → Keeps q r → Keeps p r
kept_twice p q r a b = record {
  seen = b.seen ∙ a.seen;
  held = b.held ∙ a.held;
  is_held = b.is_held ∙ a.is_held;
  columns = b.columns ∙ a.columns;
  cols = same_trans p.indexes q.indexes r.indexes a.cols b.cols;
}

-- either way
pub either_ways : {T E A B C D P : Type 0} (r : Result T E) → OnOk r A → OnOk r B → OnErr r C → OnErr r D → (A → B → P) → (C → D → P) → P
either_ways (Ok x) a b c d f g = f a b
either_ways (Err x) a b c d f g = g c d

-- where it is `Ok`, by two facts
pub on_both : {T E A B P : Type 0} (r : Result T E) → OnOk r A → OnOk r B → (A → B → P) → OnOk r P
on_both (Ok x) a b f = f a b
on_both (Err x) a b f = tt

-- without the removed rows and with the added ones
pub changed_next : (rows : Rows) (d : Delta) → set.union (set.difference rows d.remove) d.add ≡ new_view rows d
unfolding new_view
changed_next rows d = refl

-- ---- what is read of them

some_is : (b : Bool) (s t : Rows) → ◌≡◌ {A = Option Rows} (if b then Some s else None) (Some t) → s ≡ t
some_is true s t is = cc
some_is false s t is = cc

not_zero : (n m : ℕ) → (n ≡ 0 → ⊥) → m ≡ n - 1 → m + 1 ≡ n
not_zero zero m some is = absurd (some refl)
not_zero (suc n) m some is = omega arith

-- a row below the others is not among them
lowest : (y : Row) (ys : List Row) → AllByRecursion (λ z. row_cmp y z ≡ Less) ys → set.contains (set_of ys) y ≡ false
lowest y [] all = set.contains-empty row_cmp y
lowest y (z ∷ zs) all =
    let rest = lowest y zs all.1 in
    let low = (eq_by_cmp_equiv row_cmp_total).symm y z ∙ above y z all.0 in
    grind (arith, contained, rest, low)

pub none_hidden : (rows hidden go : Rows) → length (set.items hidden) ≡ 0 → set.difference rows (set.difference hidden go) ≡ rows
none_hidden rows hidden go none = same_rows _ _ (λ x.
    let e : set.contains hidden x ≡ false = set.contains-items hidden x ∙ ap (list_any (eq_by_cmp row_cmp x)) (nil_from_length (set.items hidden) none) in
    grind (arith, contained, e))

row_count : (s : Rows) → finmap.len s ≡ length (set.items s)
row_count s = finmap.len-entries s ∙ sym (length-map (finmap.entries s) (λ e. e.0))

-- one row fewer
fewer : (s : Rows) (x : Row) → has s x ≡ true → length (set.items (set.remove s x)) + 1 ≡ length (set.items s)
unfolding set.remove set.contains
fewer s x there =
    let e = finmap.len-remove row_cmp_total s x in
    let f = ap (λ b. if b then finmap.len s - 1 else finmap.len s) there in
    let some : length (set.items s) ≡ 0 → ⊥ = λ none. false≢true (sym (set.contains-items s x ∙ ap (list_any (eq_by_cmp row_cmp x)) (nil_from_length (set.items s) none)) ∙ there) in
    not_zero (length (set.items s)) (length (set.items (set.remove s x))) some (sym (row_count (set.remove s x)) ∙ e ∙ f ∙ ap (λ n. n - 1) (row_count s))

-- without some of its rows, a set has as many fewer
less_rows : (xs : List Row) (rows : Rows) → IsStrictlySortedBy row_cmp xs → ((x : Row) → has (set_of xs) x ≡ true → has rows x ≡ true)
    → length (set.items (set.difference rows (set_of xs))) + length xs ≡ length (set.items rows)
unfolding IsStrictlySortedBy
less_rows [] rows rise within = omega (arith, ap (λ s. length (set.items s)) (no_row_less rows))
less_rows (y ∷ ys) rows rise within =
    let rest = less_rows ys rows rise.1 (λ x there. within x (grind (arith, contained, there))) in
    let here : has (set.difference rows (set_of ys)) y ≡ true =
    let inside = within y (set.contains-insert row_cmp_total (set_of ys) y y ∙ ap (λ o. is_eq o || set.contains (set_of ys) y) (tied_itself row_cmp_total y)) in
    let apart = lowest y ys rise.0 in grind (arith, contained, inside, apart) in
    let one = fewer (set.difference rows (set_of ys)) y here in
    let same : set.difference rows (set_of (y ∷ ys)) ≡ set.remove (set.difference rows (set_of ys)) y = same_rows _ _ (λ x. grind (arith, contained)) in
    omega (arith, ap (λ s. length (set.items s)) same, one, rest)

pub calm_count : (p : Parts) → IsWhole p → IsCalm p → length (set.items (rows_seen p)) + length (set.items p.hidden) ≡ length (set.items p.rows)
calm_count p w calm =
    let whole : set_of (set.items p.hidden) ≡ p.hidden = listed_whole p.hidden in
    let n = less_rows (set.items p.hidden) p.rows (items_rise p.hidden) (λ x there. w.hidden_there x (ap (λ s. has s x) (sym whole) ∙ there)) in
    let same : rows_seen p ≡ set.difference p.rows (set_of (set.items p.hidden)) = same_rows _ _ (λ x.
    let e = ap (λ s. has s x) whole in grind (arith, contained, e, calm_come p calm x, calm_go p calm x)) in
    omega (arith, ap (λ s. length (set.items s)) same, n)

-- where nothing is staged or held, the rows of the tree are those that readers see
pub calm_seen : (p : Parts) → IsWhole p → IsCalm p → p.held ≡ false → p.rows ≡ rows_seen p
calm_seen p w calm off = same_rows _ _ (λ x. grind (arith, contained, calm_come p calm x, free_hidden p w off x))

-- ---- indexes

module _ (p : Parts) (w : IsWhole p) (calm : IsCalm p) (shown : ℕ) (within : shown ≤ length p.indexes) (all : p.held ≡ true → shown ≡ length p.indexes) where
  keyed_still : (list : List Keyed) → (p.held ≡ false → list ≡ []) → AreKeyed p.indexes list → AreKeyed (take shown p.indexes) list
  keyed_still list none keyed = elim p.held as (λ b. p.held ≡ b → AreKeyed (take shown p.indexes) list) [
    | true ↦ λ on. subst (λ ixs. AreKeyed ixs list) (sym (take_all shown p.indexes (omega (arith, all on)))) keyed
    | false ↦ λ off. none_keyed (take shown p.indexes) list (none off)
  ] refl

  pub cut_whole : IsWhole (record p { indexes = take shown p.indexes })
  cut_whole = record {
    index = first_indexes p.rows p.indexes shown w.index;
    fits = w.fits;
    add = keyed_still p.add (λ off. nil_from_length p.add (calm.add ∙ (w.free off).added)) w.add;
    remove = keyed_still p.remove (λ off. nil_from_length p.remove (calm.remove ∙ (w.free off).removed)) w.remove;
    added = w.added;
    removed = w.removed;
    hidden_there = w.hidden_there;
    hidden_old = w.hidden_old;
    hidden_listed = w.hidden_listed;
    hidden_marked = λ x there. elim p.held as (λ b. p.held ≡ b → HasMarks p.marks (take shown p.indexes) x) [
      | true ↦ λ on. subst (λ ixs. HasMarks p.marks ixs x) (sym (take_all shown p.indexes (omega (arith, all on)))) (w.hidden_marked x there)
      | false ↦ λ off. absurd (false≢true (sym (free_hidden p w off x) ∙ there))
    ] refl;
    going_there = w.going_there;
    going_old = w.going_old;
    going_hidden = w.going_hidden;
    back_hidden = w.back_hidden;
    back_stays = w.back_stays;
    free = λ off. let f = w.free off in record { hidden = f.hidden; added = f.added; removed = f.removed };
  }

module _ (p : Parts) (w : IsWhole p) (calm : IsCalm p) (off : p.held ≡ false) (indexes : List Index) (index : IsTableOf p.rows indexes) where
  pub more_whole : IsWhole (record p { indexes = indexes })
  more_whole = record {
    index = index;
    fits = w.fits;
    add = none_keyed indexes p.add (nil_from_length p.add (calm.add ∙ (w.free off).added));
    remove = none_keyed indexes p.remove (nil_from_length p.remove (calm.remove ∙ (w.free off).removed));
    added = w.added;
    removed = w.removed;
    hidden_there = w.hidden_there;
    hidden_old = w.hidden_old;
    hidden_listed = w.hidden_listed;
    hidden_marked = λ x there. absurd (false≢true (sym (free_hidden p w off x) ∙ there));
    going_there = w.going_there;
    going_old = w.going_old;
    going_hidden = w.going_hidden;
    back_hidden = w.back_hidden;
    back_stays = w.back_stays;
    free = λ _. let f = w.free off in record { hidden = f.hidden; added = f.added; removed = f.removed };
  }

-- the rows at `hold` are those that no change has added since
pub held_rows : (p : Parts) (rows : Rows) → rows_held p ≡ Some rows → set.difference p.rows (rows_of p.add) ≡ rows
held_rows p rows is = some_is p.held (set.difference p.rows (rows_of p.add)) rows is

pub not_held : (p : Parts) → p.held ≡ false → rows_held p ≡ None
not_held p off = ap (λ b. if b then Some (set.difference p.rows (rows_of p.add)) else None) off

is_free : (b : Bool) (s : Rows) → ◌≡◌ {A = Option Rows} (if b then Some s else None) None → b ≡ false
is_free true s is = cc
is_free false s is = refl

pub free_is : (p : Parts) → rows_held p ≡ None → p.held ≡ false
free_is p is = is_free p.held (set.difference p.rows (rows_of p.add)) is

-- all indexes are shown, where none is staged
pub all_shown : (n : ℕ) (indexes : List Index) → n ≤ length indexes → take n (cols_of indexes) ≡ cols_of indexes → n ≡ length indexes
all_shown n indexes within all = omega (arith, ap length all, length-take-le n (cols_of indexes) (omega (arith, length-map indexes (λ index. index.cols))), length-map indexes (λ index. index.cols))
