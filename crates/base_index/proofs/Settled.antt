-- The parts of a table where what is staged is settled, and where rows are held, kept or taken back.
use Rattle.std.proofs.Common.{◌≡◌, List, [], ◌∷◌, length, take, drop, ap, sym, ◌∙◌, refl, true, false, arith, Some}
use Rattle.plain_values.proofs.Common.{length-take-le, nil_from_length, false≢true, row_cmp, Row}
use Rattle.plain_values.specs.SortedSet as set
use Rattle.lens_specs.specs.Common.{Rows, has}
use Rattle.key_index.proofs.Common.{IsTableOf, SameCols, rows_of, set_of, all_keep_keys, none_keyed, contained, same_rows, front_keyed}
use Rattle.base_index.specs.Parts.{IsCalm, IsWhole, Parts, rows_held, rows_next, rows_seen, to_go}
use Rattle.key_index.specs.declared.index.Index.{Index}
use Rattle.key_index.specs.declared.keyed.Keyed.{Keyed}
use Rattle.key_index.specs.declared.marks.Marks.{Marks}
use Rattle.base_index.proofs.Bodies.{calm_back, calm_come, calm_go, free_hidden}

-- ---- what is staged is present, while the rows are held

module _ (p : Parts) (w : IsWhole p) (on : p.held ≡ true) where
  abbrev pub marked : Parts
  marked = record p { hidden = set.difference p.hidden (set_of p.revive); revive = []; added = length p.add; removed = length p.remove }

  pub marked_calm : IsCalm marked
  marked_calm = record { add = refl; remove = refl; revive = refl }

  pub marked_seen : rows_seen marked ≡ rows_next p
  marked_seen = same_rows _ _ (λ x. grind (arith, contained, calm_come marked marked_calm x, calm_go marked marked_calm x, w.going_hidden on x, w.back_stays x))

  pub marked_whole : IsWhole marked
  marked_whole = record {
    index = w.index;
    fits = w.fits;
    add = w.add;
    remove = w.remove;
    added = omega arith;
    removed = omega arith;
    hidden_there = λ x there. grind (arith, contained, there, w.hidden_there x);
    hidden_old = λ x _. calm_come marked marked_calm x;
    hidden_listed = λ x there. grind (arith, contained, there, w.hidden_listed x);
    hidden_marked = λ x there. w.hidden_marked x (grind (arith, contained, there));
    going_there = λ x there. grind (arith, there, calm_go marked marked_calm x);
    going_old = λ x _. calm_come marked marked_calm x;
    going_hidden = λ _ x there. grind (arith, there, calm_go marked marked_calm x);
    back_hidden = λ x there. grind (arith, there, calm_back marked marked_calm x);
    back_stays = λ x _. calm_go marked marked_calm x;
    free = λ off. absurd (false≢true (sym off ∙ on));
  }

-- ---- what is staged is present, where the rows are not held

module _ (p : Parts) (w : IsWhole p) (off : p.held ≡ false) (rows : Rows) (indexes : List Index)
    (less : rows ≡ set.difference p.rows (to_go p)) (index : IsTableOf p.rows p.indexes → IsTableOf rows indexes) (cols : SameCols p.indexes indexes) where
  abbrev pub taken_out : Parts
  taken_out = record p { rows = rows; indexes = indexes; remove = take p.removed p.remove; add = []; revive = [] }

  pub taken_calm : IsCalm taken_out
  taken_calm = record {
    add = sym (w.free off).added;
    remove = length-take-le p.removed p.remove w.removed;
    revive = refl;
  }

  pub taken_seen : rows_seen taken_out ≡ rows_next p
  taken_seen = same_rows _ _ (λ x. let e = ap (λ s. has s x) less in
      grind (arith, contained, e, calm_come taken_out taken_calm x, calm_go taken_out taken_calm x, free_hidden p w off x))

  pub taken_whole : IsWhole taken_out
  taken_whole = record {
    index = index w.index;
    fits = λ x there. w.fits x (let e = ap (λ s. has s x) less in grind (arith, contained, e, there));
    add = none_keyed indexes [] refl;
    remove = all_keep_keys p.indexes indexes (take p.removed p.remove) cols (front_keyed p.indexes p.remove p.removed w.remove);
    added = omega (arith, (w.free off).added);
    removed = omega (arith, length-take-le p.removed p.remove w.removed);
    hidden_there = λ x there. grind (arith, there, free_hidden p w off x);
    hidden_old = λ x _. calm_come taken_out taken_calm x;
    hidden_listed = λ x there. grind (arith, there, free_hidden p w off x);
    hidden_marked = λ x there. absurd (false≢true (sym (free_hidden p w off x) ∙ there));
    going_there = λ x there. grind (arith, there, calm_go taken_out taken_calm x);
    going_old = λ x _. calm_come taken_out taken_calm x;
    going_hidden = λ _ x there. grind (arith, there, calm_go taken_out taken_calm x);
    back_hidden = λ x there. grind (arith, there, calm_back taken_out taken_calm x);
    back_stays = λ x _. calm_go taken_out taken_calm x;
    free = λ _. let f = w.free off in record { hidden = f.hidden; added = f.added; removed = f.removed };
  }

-- ---- rows are held, where nothing is staged

module _ (p : Parts) (w : IsWhole p) (calm : IsCalm p) (off : p.held ≡ false) where
  abbrev pub holding : Parts
  holding = record p { held = true }

  pub holding_calm : IsCalm holding
  holding_calm = record { add = calm.add; remove = calm.remove; revive = calm.revive }

  pub holding_held : rows_held holding ≡ Some (rows_seen p)
  holding_held = ap Some (same_rows (set.difference p.rows (rows_of p.add)) (rows_seen p)
      (λ x. let none : has (rows_of p.add) x ≡ false = ap (λ l. has (rows_of l) x) (nil_from_length p.add (calm.add ∙ (w.free off).added)) ∙ set.contains-empty row_cmp x in
      grind (arith, contained, none, calm_come p calm x, free_hidden p w off x)))

  pub holding_whole : IsWhole holding
  holding_whole = record {
    index = w.index;
    fits = w.fits;
    add = w.add;
    remove = w.remove;
    added = w.added;
    removed = w.removed;
    hidden_there = w.hidden_there;
    hidden_old = w.hidden_old;
    hidden_listed = w.hidden_listed;
    hidden_marked = w.hidden_marked;
    going_there = w.going_there;
    going_old = w.going_old;
    back_hidden = w.back_hidden;
    back_stays = w.back_stays;
    going_hidden = λ _ x there. grind (arith, there, calm_go p calm x);
    free = λ false_is. absurd (false≢true (sym false_is));
  }

-- ---- rows stand as they are, where nothing is staged

module _ (p : Parts) (w : IsWhole p) (calm : IsCalm p) (rows hidden : Rows) (marks : Marks) (indexes : List Index)
    (less : rows ≡ set.difference p.rows (set.intersection p.hidden (rows_of p.remove))) (shown : hidden ≡ set.difference p.hidden (rows_of p.remove))
    (index : IsTableOf p.rows p.indexes → IsTableOf rows indexes) where
  abbrev pub keeping : Parts
  keeping = record p { rows = rows; hidden = hidden; marks = marks; indexes = indexes; add = []; added = 0; remove = []; removed = 0; held = false }

  pub keeping_calm : IsCalm keeping
  keeping_calm = record { add = refl; remove = refl; revive = calm.revive }

  keeping_none : (x : Row) → has hidden x ≡ false
  keeping_none x = let e = ap (λ s. has s x) shown in grind (arith, contained, e, w.hidden_listed x)

  pub keeping_seen : rows_seen keeping ≡ rows_seen p
  keeping_seen = same_rows _ _ (λ x. let e = ap (λ s. has s x) less in
      grind (arith, contained, e, keeping_none x, w.hidden_listed x, calm_come keeping keeping_calm x, calm_go keeping keeping_calm x, calm_come p calm x, calm_go p calm x))

  pub keeping_whole : IsWhole keeping
  keeping_whole = record {
    index = index w.index;
    fits = λ x there. w.fits x (let e = ap (λ s. has s x) less in grind (arith, contained, e, there));
    add = none_keyed indexes [] refl;
    remove = none_keyed indexes [] refl;
    added = omega arith;
    removed = omega arith;
    hidden_there = λ x there. grind (arith, there, keeping_none x);
    hidden_old = λ x _. calm_come keeping keeping_calm x;
    hidden_listed = λ x there. grind (arith, there, keeping_none x);
    hidden_marked = λ x there. absurd (false≢true (sym (keeping_none x) ∙ there));
    going_there = λ x there. grind (arith, there, calm_go keeping keeping_calm x);
    going_old = λ x _. calm_come keeping keeping_calm x;
    going_hidden = λ _ x there. grind (arith, there, calm_go keeping keeping_calm x);
    back_hidden = λ x there. grind (arith, there, calm_back keeping keeping_calm x);
    back_stays = λ x _. calm_go keeping keeping_calm x;
    free = λ _. record { hidden = same_rows _ _ (λ x. grind (arith, contained, keeping_none x)); added = refl; removed = refl };
  }

-- ---- rows are what they were

module _ (p : Parts) (w : IsWhole p) (rows hidden : Rows) (marks : Marks) (indexes : List Index)
    (less : rows ≡ set.difference p.rows (rows_of (drop 0 p.add))) (none : hidden ≡ set.empty) (index : IsTableOf p.rows p.indexes → IsTableOf rows indexes) where
  abbrev pub going_back : Parts
  going_back = record p { rows = rows; hidden = hidden; marks = marks; indexes = indexes; add = take 0 p.add; added = 0; remove = []; removed = 0; revive = []; held = false }

  none_first : (list : List Keyed) → take 0 list ≡ []
  none_first [] = refl
  none_first (k ∷ ks) = refl

  all_behind : (list : List Keyed) → drop 0 list ≡ list
  all_behind [] = refl
  all_behind (k ∷ ks) = refl

  pub going_back_calm : IsCalm going_back
  going_back_calm = record { add = ap length (none_first p.add); remove = refl; revive = refl }

  hidden_none : (x : Row) → has hidden x ≡ false
  hidden_none x = ap (λ s. has s x) none ∙ set.contains-empty row_cmp x

  pub going_back_seen : rows_seen going_back ≡ set.difference p.rows (rows_of p.add)
  going_back_seen = same_rows _ _ (λ x.
      let e = ap (λ s. has s x) (less ∙ ap (λ l. set.difference p.rows (rows_of l)) (all_behind p.add)) in
      grind (arith, contained, e, hidden_none x, calm_come going_back going_back_calm x))

  pub going_back_whole : IsWhole going_back
  going_back_whole = record {
    index = index w.index;
    fits = λ x there. w.fits x (let e = ap (λ s. has s x) less in grind (arith, contained, e, there));
    add = none_keyed indexes (take 0 p.add) (none_first p.add);
    remove = none_keyed indexes [] refl;
    added = omega arith;
    removed = omega arith;
    hidden_there = λ x there. grind (arith, there, hidden_none x);
    hidden_old = λ x _. calm_come going_back going_back_calm x;
    hidden_listed = λ x there. grind (arith, there, hidden_none x);
    hidden_marked = λ x there. absurd (false≢true (sym (hidden_none x) ∙ there));
    going_there = λ x there. grind (arith, there, calm_go going_back going_back_calm x);
    going_old = λ x _. calm_come going_back going_back_calm x;
    going_hidden = λ _ x there. grind (arith, there, calm_go going_back going_back_calm x);
    back_hidden = λ x there. grind (arith, there, calm_back going_back going_back_calm x);
    back_stays = λ x _. calm_go going_back going_back_calm x;
    free = λ _. record { hidden = none; added = refl; removed = refl };
  }
