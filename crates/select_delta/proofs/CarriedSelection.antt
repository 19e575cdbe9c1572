-- An edit of a selection, carried down.
use Rattle.std.proofs.Common.{◌≡◌, List, [], ◌∷◌, arith, length, map, sym, ap, ◌∙◌, true, refl, Bool, not}
use Rattle.plain_values.proofs.Common.{true≢false, length-map, row_cmp, Row}
use Rattle.plain_values.specs.SortedSet as set
use Rattle.lens_specs.specs.Common.{Columns, Fits, Applies, Delta, diff, Edge, MeetsTree, select_get, Predicate, holds, Rows, has, those, union, revise, revise_row}
use Rattle.lens_laws.proofs.Common.{is_changed, select_delta, in_new_view_added, select_delta_is}
use Rattle.lens_laws.specs.KeyedDeltas.{select_touched}
use Rattle.fd_laws.proofs.Common.{IsTree, from_image, from_those, in_those, same_rel, sets, row_exact, row_total}
use Rattle.signed_delta.specs.Disjoint.{AreApart}
use Rattle.signed_delta.proofs.Differences.{sides_apart}
use Rattle.revision.specs.Near.{HasChanged}
use Rattle.revision.specs.Touching.{all_touched, becomes}
use Rattle.revision.specs.declared.touching.Touched.{Touched}
use Rattle.revision.proofs.Changed.{afters_are, befores_are, touched_is}
use Rattle.select_delta.specs.Selected.{AreSelected, edited, edited_source, with_touched}

-- the sides of a difference have no row in common
pub apart : (M N remove add : Rows) → ◌≡◌ {A = Delta} (record { remove = remove; add = add }) (diff M N) → AreApart remove add
unfolding diff
apart M N remove add is r i =
    ap (λ d. has d.add r) is ∙ sides_apart M N r (ap (λ d. has d.remove r) (sym is) ∙ i)

-- ---- no rows

union_none : (M : Rows) → union M set.empty ≡ M
union_none M = same_rel _ _ (λ r i. let none = set.contains-empty row_cmp r in grind (arith, sets)) (λ r i. grind (arith, sets))

none_revised : (F : List Edge) (L : Rows) (p : Row → Bool) → those p (revise F set.empty L) ≡ set.empty
unfolding revise
none_revised F L p = same_rel _ _
    (λ r i.
    let w = from_those p (revise F set.empty L) r i in
    let v = from_image (λ m. revise_row F m L) set.empty r w.0 in
    absurd (true≢false (sym v.1 ∙ set.contains-empty row_cmp v.0)))
    (λ r i. absurd (true≢false (sym i ∙ set.contains-empty row_cmp r)))

no_member : (M : Rows) → length (set.items M) ≡ 0 → M ≡ set.empty
no_member M none = sym (set.from_list-items row_total row_exact M) ∙ ap set.from_list (no_row (set.items M) none)
  where
    no_row : (rows : List Row) → length rows ≡ 0 → rows ≡ []
    no_row [] none = refl
    no_row (r ∷ rs) none = absurd (omega arith)

-- ---- the rows that the predicate refuses

module _ (F : List Edge) (M L : Rows) (P : Predicate) where
  abbrev refused : Rows → Rows
  refused = those (λ r. not (holds P r))

  -- the hidden rows near the new ones have each that changes
  pub hidden_enough : (near hidden : Rows) → HasChanged F M L near → hidden ≡ refused near → HasChanged F (refused M) L hidden
  hidden_enough near hidden enough is = record {
    within = λ m i. let w = from_those _ near m (ap (λ N. has N m) (sym is) ∙ i) in in_those _ M m (enough.within m w.0) w.1;
    changed = λ m i t. let w = from_those _ M m i in ap (λ N. has N m) is ∙ in_those _ near m (enough.changed m w.0 t) w.1;
    present = λ some m new i. let w = from_those _ M m i in ap (λ N. has N m) is ∙ in_those _ near m (enough.present some m new w.0) w.1;
  }

  -- of these, those that change
  pub touched_hidden : those (is_changed F L) (refused M) ≡ select_touched F (holds P) M L
  unfolding select_touched
  touched_hidden =
      same_rel _ _
      (λ m i. let w = from_those _ (refused M) m i in let v = from_those _ M m w.0 in in_those _ (those (is_changed F L) M) m (in_those _ M m v.0 w.1) v.1)
      (λ m i. let w = from_those _ (those (is_changed F L) M) m i in let v = from_those _ M m w.0 in in_those _ (refused M) m (in_those _ M m v.0 w.1) v.1)
      ∙ ap refused (touched_is F M L)

-- what is edited, and the hidden rows that the added rows revise
module _ (F : List Edge) (M : Rows) (P : Predicate) (d : Delta) (near hidden : Rows) (changes : List Touched) (enough : HasChanged F M d.add near)
    (is : hidden ≡ those (λ r. not (holds P r)) near) (all : (N : Rows) → HasChanged F N d.add hidden → changes ≡ all_touched F N d.add) where
  abbrev T : Rows
  T = select_touched F (holds P) M d.add

  listed : changes ≡ map (becomes F d.add) (set.items T)
  listed = all _ (hidden_enough F M d.add P near hidden enough is) ∙ ap (λ N. map (becomes F d.add) (set.items N)) (touched_hidden F M d.add P)

  -- with rows that change
  pub carried : with_touched P changes d ≡ select_delta F (holds P) M d
  unfolding select_delta
  carried = λ i. record {
    remove = union d.remove (befores_are F T d.add changes listed i);
    add = union d.add (those (λ r. not (holds P r)) (afters_are F T d.add changes listed i));
  }

  -- with none
  pub carried_alone : length changes ≡ 0 → d ≡ select_delta F (holds P) M d
  unfolding select_delta
  carried_alone none =
      let many : length (set.items T) ≡ 0 = sym (length-map (set.items T) (becomes F d.add)) ∙ sym (ap length listed) ∙ none in
      let no_rows : T ≡ set.empty = no_member T many in
      λ i. record {
        remove = (sym (ap (union d.remove) no_rows ∙ union_none d.remove)) i;
        add = (sym (ap (λ N. union d.add (those (λ r. not (holds P r)) (revise F N d.add))) no_rows ∙ ap (union d.add) (none_revised F d.add (λ r. not (holds P r))) ∙ union_none d.add)) i;
      }

-- ---- the law, for an edit that leads to rows of the selection

pub added_fit : (U : Columns) (F : List Edge) (P : Predicate) (M : Rows) (d : Delta) → AreSelected U F P (edited P M d) → (r : Row) → has d.add r ≡ true → Fits U r
added_fit U F P M d view r i = view.columns r (in_new_view_added (select_get (holds P) M) d r i)

module _ (U : Columns) (F : List Edge) (P : Predicate) (M : Rows) (d : Delta) (tree : IsTree F) (fit : (r : Row) → has M r ≡ true → Fits U r) (meets : MeetsTree M F)
    (applies : Applies d (select_get (holds P) M)) (view : AreSelected U F P (edited P M d)) where
  pub is_difference : select_delta F (holds P) M d ≡ diff M (edited_source F P M d)
  unfolding select_get
  is_difference = select_delta_is (record { columns = U; holds = λ _. true; tree = F }) (holds P) tree M d (record { columns = fit; holds = λ r i. refl; meets = meets }) applies view
