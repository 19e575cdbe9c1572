-- The parts of a table where rows are listed to be removed or added, and where they are dropped.
use Rattle.std.proofs.Common.{◌≡◌, List, [], ◌∷◌, ◌++◌, length, take, drop, ap, sym, ◌∙◌, subst, refl, true, false, arith, zero, suc, ◌&&◌, ◌||◌, Some, None, if◌then◌else◌}
use Rattle.plain_values.proofs.Common.{list_any, eq_by_cmp, length-append, length-take-le, drop-append-le, nil_from_length, false≢true, row_cmp, Row}
use Rattle.plain_values.specs.SortedSet as set
use Rattle.lens_specs.specs.Common.{Rows, has}
use Rattle.lens_specs.specs.Relation.{Fits}
use Rattle.key_index.proofs.Common.{AreKeyed, HasKeys, IsTableOf, SameCols, rows_of, set_of, all_keep_keys, contained, same_rows, HasMarks, front_keyed, none_behind}
use Rattle.key_index.specs.Lists.{IsListed}
use Rattle.base_index.specs.Parts.{IsCalm, IsWhole, Parts, rows_held, rows_next, rows_seen, to_come, to_go}
use Rattle.key_index.specs.declared.index.Index.{Index}
use Rattle.key_index.specs.declared.keyed.Keyed.{Keyed}
use Rattle.key_index.proofs.Lists.{in_pushed, pushed_keyed}
use Rattle.key_index.proofs.Groups.{tied}
use Rattle.key_index.proofs.RowSets.{at_tie}
use Rattle.key_index.specs.Marks.{AreMarked, StayMarked}
use Rattle.key_index.specs.declared.marks.Marks.{Marks}
use Rattle.key_index.proofs.Marked.{keyed_marks, more_marks, same_marks, tied_marks}
use Rattle.key_index.proofs.Fronts.{in_hidden, in_listed, in_parts, none_back, one_behind}

-- ---- what is staged is dropped

module _ (p : Parts) (w : IsWhole p) (rows : Rows) (indexes : List Index)
    (less : rows ≡ set.difference p.rows (to_come p)) (index : IsTableOf p.rows p.indexes → IsTableOf rows indexes) (cols : SameCols p.indexes indexes) where
  abbrev pub dropped : Parts
  dropped = record p {
    rows = rows;
    hidden = set.difference p.hidden (to_go p);
    indexes = indexes;
    add = take p.added p.add;
    remove = take p.removed p.remove;
    revive = [];
  }

  come_none : (x : Row) → has (to_come dropped) x ≡ false
  come_none x = none_behind (take p.added p.add) p.added x (omega (arith, length-take-le p.added p.add w.added))

  go_none : (x : Row) → has (to_go dropped) x ≡ false
  go_none x = none_behind (take p.removed p.remove) p.removed x (omega (arith, length-take-le p.removed p.remove w.removed))

  pub dropped_calm : IsCalm dropped
  dropped_calm = record {
    add = length-take-le p.added p.add w.added;
    remove = length-take-le p.removed p.remove w.removed;
    revive = refl;
  }

  pub dropped_seen : rows_seen dropped ≡ rows_seen p
  dropped_seen = same_rows _ _ (λ x. let e = ap (λ s. has s x) less in grind (arith, contained, come_none x, go_none x, e))

  pub dropped_next : rows_next dropped ≡ rows_seen p
  dropped_next = same_rows _ _ (λ x. let e = ap (λ s. has s x) less in grind (arith, contained, none_back x, go_none x, e))

  pub dropped_held : rows_held dropped ≡ rows_held p
  dropped_held = ap (λ s. if p.held then Some s else None) (same_rows (set.difference rows (rows_of (take p.added p.add))) (set.difference p.rows (rows_of p.add))
      (λ x. let e = ap (λ s. has s x) less in grind (arith, contained, in_parts p.add p.added x, e)))

  pub dropped_whole : IsWhole dropped
  dropped_whole = record {
    index = index w.index;
    fits = λ x there. w.fits x (let e = ap (λ s. has s x) less in grind (arith, contained, e, there));
    add = all_keep_keys p.indexes indexes (take p.added p.add) cols (front_keyed p.indexes p.add p.added w.add);
    remove = all_keep_keys p.indexes indexes (take p.removed p.remove) cols (front_keyed p.indexes p.remove p.removed w.remove);
    added = omega (arith, length-take-le p.added p.add w.added);
    removed = omega (arith, length-take-le p.removed p.remove w.removed);
    hidden_there = λ x there. let e = ap (λ s. has s x) less in grind (arith, contained, e, there, w.hidden_there x, w.hidden_old x);
    hidden_old = λ x _. come_none x;
    hidden_listed = λ x there. grind (arith, contained, there, w.hidden_listed x, in_parts p.remove p.removed x);
    hidden_marked = λ x there. same_marks p.marks p.indexes indexes x cols (w.hidden_marked x (grind (arith, contained, there)));
    going_there = λ x there. grind (arith, there, go_none x);
    going_old = λ x _. come_none x;
    going_hidden = λ _ x there. grind (arith, there, go_none x);
    back_hidden = λ x there. grind (arith, there, none_back x);
    back_stays = λ x _. go_none x;
    free = λ off. let f = w.free off in record {
      hidden = same_rows _ _ (λ x. let e = ap (λ s. has s x) f.hidden in grind (arith, contained, e));
      added = f.added;
      removed = f.removed;
    };
  }

-- more keys may be marked
pub marked_more : (p : Parts) → IsWhole p → (marks : Marks) → StayMarked p.marks marks → IsWhole (record p { marks = marks })
marked_more p w marks stay = record {
  index = w.index;
  fits = w.fits;
  add = w.add;
  remove = w.remove;
  added = w.added;
  removed = w.removed;
  hidden_there = w.hidden_there;
  hidden_old = w.hidden_old;
  hidden_listed = w.hidden_listed;
  hidden_marked = λ x there. more_marks p.marks marks p.indexes x stay (w.hidden_marked x there);
  going_there = w.going_there;
  going_old = w.going_old;
  going_hidden = w.going_hidden;
  back_hidden = w.back_hidden;
  back_stays = w.back_stays;
  free = λ off. let f = w.free off in record { hidden = f.hidden; added = f.added; removed = f.removed };
}

-- ---- a row to be removed is listed

module _ (p : Parts) (w : IsWhole p) (k : Keyed) (keys : HasKeys p.indexes k) (seen : has (rows_seen p) k.row ≡ true)
    (marks : Marks) (stay : StayMarked p.marks marks) (are : p.held ≡ true → AreMarked marks k.keys.items) where
  abbrev pub with_going : Parts
  with_going = record p { hidden = if p.held then set.insert p.hidden k.row else p.hidden; marks = marks; remove = p.remove ++ k ∷ [] }

  gone_at : (x : Row) → has (to_go with_going) x ≡ (eq_by_cmp row_cmp x k.row || has (to_go p) x)
  gone_at x = one_behind p.remove k p.removed x w.removed

  hidden_at : (x : Row) → has with_going.hidden x ≡ ((p.held && eq_by_cmp row_cmp x k.row) || has p.hidden x)
  hidden_at x = in_hidden p.held p.hidden k.row x

  seen_at : (x : Row) → eq_by_cmp row_cmp x k.row ≡ true → has (rows_seen p) x ≡ true
  seen_at x = at_tie (rows_seen p) k.row x true seen

  pub going_seen : rows_seen with_going ≡ rows_seen p
  going_seen = same_rows _ _ (λ x. grind (arith, contained, gone_at x, hidden_at x, seen_at x))

  pub going_next : rows_next with_going ≡ set.remove (rows_next p) k.row
  going_next = same_rows _ _ (λ x. grind (arith, contained, gone_at x, hidden_at x, seen_at x))

  going_marked : (x : Row) → has with_going.hidden x ≡ true → HasMarks marks p.indexes x
  going_marked x there = elim (eq_by_cmp row_cmp x k.row) as (λ b. eq_by_cmp row_cmp x k.row ≡ b → HasMarks marks p.indexes x) [
    | true ↦ λ tie. elim p.held as (λ b. p.held ≡ b → HasMarks marks p.indexes x) [
      | true ↦ λ on. tied_marks marks p.indexes k.row x tie (keyed_marks marks p.indexes k keys (are on))
      | false ↦ λ off. more_marks p.marks marks p.indexes x stay (w.hidden_marked x (grind (arith, contained, there, hidden_at x, off)))
    ] refl
    | false ↦ λ other. more_marks p.marks marks p.indexes x stay (w.hidden_marked x (grind (arith, contained, there, hidden_at x, other)))
  ] refl

  pub going_whole : IsWhole with_going
  going_whole = record {
    index = w.index;
    fits = w.fits;
    add = w.add;
    remove = pushed_keyed p.indexes p.remove k w.remove keys;
    added = w.added;
    removed = omega (arith, w.removed, length-append p.remove (k ∷ []));
    hidden_there = λ x there. grind (arith, contained, there, hidden_at x, seen_at x, w.hidden_there x);
    hidden_old = λ x there. grind (arith, contained, there, hidden_at x, seen_at x, w.hidden_old x);
    hidden_listed = λ x there. grind (arith, contained, there, hidden_at x, w.hidden_listed x, in_pushed p.remove k x);
    hidden_marked = going_marked;
    going_there = λ x there. grind (arith, contained, there, gone_at x, seen_at x, w.going_there x);
    going_old = λ x there. grind (arith, contained, there, gone_at x, seen_at x, w.going_old x);
    going_hidden = λ on x there. grind (arith, contained, on, there, gone_at x, hidden_at x, w.going_hidden on x);
    back_hidden = λ x there. grind (arith, contained, there, hidden_at x, w.back_hidden x);
    back_stays = λ x there. grind (arith, contained, there, gone_at x, seen_at x, w.back_hidden x, w.back_stays x);
    free = λ off. let f = w.free off in record {
      hidden = ap (λ b. if b then set.insert p.hidden k.row else p.hidden) off ∙ f.hidden;
      added = f.added;
      removed = f.removed;
    };
  }

-- ---- a hidden row is to be shown again

module _ (p : Parts) (w : IsWhole p) (row : Row) (there_now : has p.rows row ≡ true) (unseen : has (rows_seen p) row ≡ false) (absent : has (rows_next p) row ≡ false) where
  abbrev pub with_back : Parts
  with_back = record p { revive = p.revive ++ row ∷ [] }

  back_at : (x : Row) → has (set_of with_back.revive) x ≡ (eq_by_cmp row_cmp x row || has (set_of p.revive) x)
  back_at x = in_listed p.revive row x

  here_at : (x : Row) → eq_by_cmp row_cmp x row ≡ true → has p.rows x ≡ true
  here_at x = at_tie p.rows row x true there_now

  unseen_at : (x : Row) → eq_by_cmp row_cmp x row ≡ true → has (rows_seen p) x ≡ false
  unseen_at x = at_tie (rows_seen p) row x false unseen

  absent_at : (x : Row) → eq_by_cmp row_cmp x row ≡ true → has (rows_next p) x ≡ false
  absent_at x = at_tie (rows_next p) row x false absent

  pub back_next : rows_next with_back ≡ set.insert (rows_next p) row
  back_next = same_rows _ _ (λ x. grind (arith, contained, back_at x, here_at x, unseen_at x, absent_at x, w.hidden_old x, w.going_old x))

  pub back_whole : IsWhole with_back
  back_whole = record {
    index = w.index;
    fits = w.fits;
    add = w.add;
    remove = w.remove;
    added = w.added;
    removed = w.removed;
    hidden_there = w.hidden_there;
    hidden_old = w.hidden_old;
    hidden_listed = w.hidden_listed;
    hidden_marked = w.hidden_marked;
    going_there = w.going_there;
    going_old = w.going_old;
    going_hidden = w.going_hidden;
    free = λ off. let f = w.free off in record { hidden = f.hidden; added = f.added; removed = f.removed };
    back_hidden = λ x there. grind (arith, contained, there, back_at x, here_at x, unseen_at x, absent_at x, w.hidden_old x, w.going_old x, w.back_hidden x);
    back_stays = λ x there. grind (arith, contained, there, back_at x, here_at x, unseen_at x, absent_at x, w.hidden_old x, w.going_old x, w.back_stays x);
  }

-- a row that is neither seen nor to come, nor hidden, is not there
pub not_there : (p : Parts) → IsWhole p → (row : Row) → has (rows_seen p) row ≡ false → has (rows_next p) row ≡ false → has p.hidden row ≡ false → has p.rows row ≡ false
not_there p w row unseen absent shown = grind (arith, contained, unseen, absent, shown, w.going_old row)

-- ---- a row that is not there is put there

pub reindexed : (p : Parts) → IsWhole p → (indexes : List Index) → IsTableOf p.rows indexes → SameCols p.indexes indexes → IsWhole (record p { indexes = indexes })
reindexed p w indexes index cols = record {
  fits = w.fits;
  added = w.added;
  removed = w.removed;
  hidden_there = w.hidden_there;
  hidden_old = w.hidden_old;
  hidden_listed = w.hidden_listed;
  hidden_marked = λ x there. same_marks p.marks p.indexes indexes x cols (w.hidden_marked x there);
  going_there = w.going_there;
  going_old = w.going_old;
  going_hidden = w.going_hidden;
  back_hidden = w.back_hidden;
  back_stays = w.back_stays;
  index = index;
  add = all_keep_keys p.indexes indexes p.add cols w.add;
  remove = all_keep_keys p.indexes indexes p.remove cols w.remove;
  free = λ off. let f = w.free off in record { hidden = f.hidden; added = f.added; removed = f.removed };
}

module _ (p : Parts) (w : IsWhole p) (row : Row) (indexes : List Index) (add : List Keyed) (listed : IsListed indexes row p.add add)
    (index : IsTableOf (set.insert p.rows row) indexes) (cols : SameCols p.indexes indexes) (fit : Fits p.columns row) (unknown : has p.rows row ≡ false) where
  abbrev pub with_row : Parts
  with_row = record p { rows = set.insert p.rows row; indexes = indexes; add = add }

  come_at : (x : Row) → has (to_come with_row) x ≡ (eq_by_cmp row_cmp x row || has (to_come p) x)
  come_at x = ap (λ l. set.contains (rows_of (drop p.added l)) x) listed.list ∙ one_behind p.add listed.keyed p.added x w.added
      ∙ ap (λ r. eq_by_cmp row_cmp x r || has (to_come p) x) listed.same

  added_at : (x : Row) → has (rows_of add) x ≡ (eq_by_cmp row_cmp x row || has (rows_of p.add) x)
  added_at x = ap (λ l. set.contains (rows_of l) x) listed.list ∙ in_pushed p.add listed.keyed x ∙ ap (λ r. eq_by_cmp row_cmp x r || has (rows_of p.add) x) listed.same

  unknown_at : (x : Row) → eq_by_cmp row_cmp x row ≡ true → has p.rows x ≡ false
  unknown_at x = at_tie p.rows row x false unknown

  pub row_seen : rows_seen with_row ≡ rows_seen p
  row_seen = same_rows _ _ (λ x. grind (arith, contained, come_at x, unknown_at x))

  pub row_next : rows_next with_row ≡ set.insert (rows_next p) row
  row_next = same_rows _ _ (λ x. grind (arith, contained, unknown_at x, w.hidden_there x, w.going_there x))

  pub row_held : rows_held with_row ≡ rows_held p
  row_held = ap (λ s. if p.held then Some s else None) (same_rows (set.difference (set.insert p.rows row) (rows_of add)) (set.difference p.rows (rows_of p.add))
      (λ x. grind (arith, contained, added_at x, unknown_at x)))

  pub row_whole : IsWhole with_row
  row_whole = record {
    index = index;
    fits = λ x there. elim (eq_by_cmp row_cmp x row) as (λ b. eq_by_cmp row_cmp x row ≡ b → Fits p.columns x) [
      | true ↦ λ tie. subst (Fits p.columns) (sym (tied x row tie)) fit
      | false ↦ λ other. w.fits x (grind (arith, contained, there, other))
    ] refl;
    add = subst (AreKeyed indexes) (sym listed.list) (pushed_keyed indexes p.add listed.keyed (all_keep_keys p.indexes indexes p.add cols w.add) listed.keys);
    remove = all_keep_keys p.indexes indexes p.remove cols w.remove;
    added = omega (arith, w.added, ap length listed.list, length-append p.add (listed.keyed ∷ []));
    removed = w.removed;
    hidden_there = λ x there. grind (arith, contained, there, w.hidden_there x);
    hidden_old = λ x there. grind (arith, contained, there, come_at x, unknown_at x, w.hidden_there x, w.hidden_old x);
    hidden_listed = w.hidden_listed;
    hidden_marked = λ x there. same_marks p.marks p.indexes indexes x cols (w.hidden_marked x there);
    going_there = λ x there. grind (arith, contained, there, w.going_there x);
    going_old = λ x there. grind (arith, contained, there, come_at x, unknown_at x, w.going_there x, w.going_old x);
    going_hidden = w.going_hidden;
    back_hidden = w.back_hidden;
    back_stays = w.back_stays;
    free = λ off. let f = w.free off in record { hidden = f.hidden; added = f.added; removed = f.removed };
  }

-- ---- rows are put where there is none

none_in : (rows : Rows) (x : Row) → length (set.items rows) ≡ 0 → has rows x ≡ false
none_in rows x none = set.contains-items rows x ∙ ap (list_any (eq_by_cmp row_cmp x)) (nil_from_length (set.items rows) none)

in_appended : (xs ys : List Keyed) (x : Row) → has (rows_of (xs ++ ys)) x ≡ (has (rows_of xs) x || has (rows_of ys) x)
in_appended [] ys x = grind (arith, contained)
in_appended (k ∷ ks) ys x = let rest = in_appended ks ys x in grind (arith, contained, rest)

appended_keyed : (indexes : List Index) (xs ys : List Keyed) → AreKeyed indexes xs → AreKeyed indexes ys → AreKeyed indexes (xs ++ ys)
appended_keyed indexes [] ys all others i d within = others i d within
appended_keyed indexes (k ∷ ks) ys all others zero d within = all 0 d (omega arith)
appended_keyed indexes (k ∷ ks) ys all others (suc i) d within = appended_keyed indexes ks ys (λ j e inside. all (suc j) e (omega arith)) others i d (omega arith)

module _ (p : Parts) (w : IsWhole p) (none : length (set.items p.rows) ≡ 0) (list : List Keyed) (rows : Rows) (indexes : List Index)
    (is : rows_of list ≡ rows) (index : IsTableOf rows indexes) (cols : SameCols p.indexes indexes) (keyed : AreKeyed p.indexes list) (fit : (row : Row) → has rows row ≡ true → Fits p.columns row) where
  abbrev pub with_first : Parts
  with_first = record p { rows = rows; indexes = indexes; add = p.add ++ list }

  no_row : (x : Row) → has p.rows x ≡ false
  no_row x = none_in p.rows x none

  no_hidden : (x : Row) → has p.hidden x ≡ false
  no_hidden x = grind (arith, no_row x, w.hidden_there x)

  no_going : (x : Row) → has (to_go p) x ≡ false
  no_going x = grind (arith, no_row x, w.going_there x)

  all_come : (x : Row) → has (to_come with_first) x ≡ (has (to_come p) x || has rows x)
  all_come x = ap (λ l. has (rows_of l) x) (drop-append-le p.added p.add list w.added) ∙ in_appended (drop p.added p.add) list x ∙ ap (λ s. has (to_come p) x || has s x) is

  all_added : (x : Row) → has (rows_of (p.add ++ list)) x ≡ (has (rows_of p.add) x || has rows x)
  all_added x = in_appended p.add list x ∙ ap (λ s. has (rows_of p.add) x || has s x) is

  pub first_seen : rows_seen with_first ≡ rows_seen p
  first_seen = same_rows _ _ (λ x. grind (arith, contained, all_come x, no_row x, no_hidden x))

  pub first_next : rows_next with_first ≡ set.union (rows_next p) rows
  first_next = same_rows _ _ (λ x. grind (arith, contained, no_row x, no_hidden x, no_going x))

  pub first_held : rows_held with_first ≡ rows_held p
  first_held = ap (λ s. if p.held then Some s else None) (same_rows (set.difference rows (rows_of (p.add ++ list))) (set.difference p.rows (rows_of p.add))
      (λ x. grind (arith, contained, all_added x, no_row x)))

  pub first_whole : IsWhole with_first
  first_whole = record {
    index = index;
    fits = fit;
    add = appended_keyed indexes p.add list (all_keep_keys p.indexes indexes p.add cols w.add) (all_keep_keys p.indexes indexes list cols keyed);
    remove = all_keep_keys p.indexes indexes p.remove cols w.remove;
    added = omega (arith, w.added, length-append p.add list);
    removed = w.removed;
    hidden_there = λ x there. absurd (false≢true (sym (no_hidden x) ∙ there));
    hidden_old = λ x there. absurd (false≢true (sym (no_hidden x) ∙ there));
    hidden_listed = w.hidden_listed;
    hidden_marked = λ x there. absurd (false≢true (sym (no_hidden x) ∙ there));
    going_there = λ x there. absurd (false≢true (sym (no_going x) ∙ there));
    going_old = λ x there. absurd (false≢true (sym (no_going x) ∙ there));
    going_hidden = w.going_hidden;
    back_hidden = w.back_hidden;
    back_stays = w.back_stays;
    free = λ off. let f = w.free off in record { hidden = f.hidden; added = f.added; removed = f.removed };
  }
