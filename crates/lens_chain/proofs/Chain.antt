-- What each node adds to the changes is what its sources add.
use Rattle.std.proofs.Common.{◌≡◌, ◌∙◌, ap, sym, Some}
use Rattle.plain_values.proofs.Common.{same_Some}
use Rattle.plain_values.specs.declared.value.Value.{Value}
use Rattle.lens_specs.specs.Common.{Delta, Lens, Tables, base, select, drop, rename, get, sort_of, view_names, Name, Names, Predicate, holds, Sort, join}
use Rattle.plain_values.specs.declared.join_kind.JoinKind.{JoinKind}
use Rattle.lens_laws.proofs.Common.{table_deltas, left_delta, right_delta, drop_delta, select_delta, rename_delta}
use Rattle.lens_probe.specs.Handed.{to_first, to_second}
use Rattle.lens_probe.specs.Viewed.{Viewed, sides_of, source_of}
use Rattle.lens_chain.specs.Changed.{Changed, with_change, with_changes}
use Rattle.lens_chain.specs.Edits.{edited, over}
use Rattle.lens_chain.proofs.Gathered.{with_both}

-- the view of a source, over the same tables
abbrev pub first_of : Viewed → Lens → Viewed
first_of v C = record v { lens = C; sets = to_first v.lens v.sets }

abbrev pub second_of : Viewed → Lens → Viewed
second_of v C = record v { lens = C; sets = to_second v.lens v.sets }

-- ---- a table

pub in_table : (L : Lens) (t : Name) (s : Sort) (d : Delta) (db : Tables) (m : Changed) → base t s ≡ L → with_change (record { table = t; delta = d }) m ≡ with_changes (table_deltas L d db) m
unfolding table_deltas
in_table L t s d db m is = ap (λ K. with_changes (table_deltas K d db) m) is

-- ---- a selection

module _ (v : Viewed) (P : Predicate) (C : Lens) (is : select P C ≡ v.lens) (s : Viewed) (told : Some s ≡ source_of v) where
  pub select_is : s ≡ first_of v C
  select_is = same_Some s (first_of v C) (told ∙ ap (λ L. source_of (record v { lens = L })) (sym is) ∙ ap (λ L. Some (record v { lens = C; sets = to_first L v.sets })) is)

  pub select_chain : (d change : Delta) (m : Changed) → change ≡ select_delta (sort_of s.lens).tree (holds P) (get s.lens (over s)) d
      → with_changes (table_deltas s.lens change (over s)) m ≡ with_changes (table_deltas v.lens d (over v)) m
  unfolding table_deltas
  select_chain d change m made =
      ap (λ e. with_changes (table_deltas s.lens e (over s)) m) made
      ∙ ap (λ (w : Viewed). with_changes (table_deltas (select P w.lens) d (over w)) m) select_is
      ∙ ap (λ L. with_changes (table_deltas L d (over v)) m) is

-- ---- a relation without one of its columns

module _ (v : Viewed) (A : Name) (X : Names) (a : Value) (C : Lens) (is : drop A X a C ≡ v.lens) (s : Viewed) (told : Some s ≡ source_of v) where
  pub drop_is : s ≡ first_of v C
  drop_is = same_Some s (first_of v C) (told ∙ ap (λ L. source_of (record v { lens = L })) (sym is) ∙ ap (λ L. Some (record v { lens = C; sets = to_first L v.sets })) is)

  pub drop_chain : (d change : Delta) (m : Changed) → change ≡ drop_delta A X a (get s.lens (over s)) d
      → with_changes (table_deltas s.lens change (over s)) m ≡ with_changes (table_deltas v.lens d (over v)) m
  unfolding table_deltas
  drop_chain d change m made =
      ap (λ e. with_changes (table_deltas s.lens e (over s)) m) made
      ∙ ap (λ (w : Viewed). with_changes (table_deltas (drop A X a w.lens) d (over w)) m) drop_is
      ∙ ap (λ L. with_changes (table_deltas L d (over v)) m) is

-- ---- a relation with a new name for a column

module _ (v : Viewed) (A B : Name) (C : Lens) (is : rename A B C ≡ v.lens) (s : Viewed) (told : Some s ≡ source_of v) where
  pub rename_is : s ≡ first_of v C
  rename_is = same_Some s (first_of v C) (told ∙ ap (λ L. source_of (record v { lens = L })) (sym is) ∙ ap (λ L. Some (record v { lens = C; sets = to_first L v.sets })) is)

  pub rename_chain : (d change : Delta) (m : Changed) → change ≡ rename_delta A B d
      → with_changes (table_deltas s.lens change (over s)) m ≡ with_changes (table_deltas v.lens d (over v)) m
  unfolding table_deltas
  rename_chain d change m made =
      ap (λ e. with_changes (table_deltas s.lens e (over s)) m) made
      ∙ ap (λ (w : Viewed). with_changes (table_deltas (rename A B w.lens) d (over w)) m) rename_is
      ∙ ap (λ L. with_changes (table_deltas L d (over v)) m) is

-- ---- a join

module _ (v : Viewed) (kind : JoinKind) (A B : Lens) (is : join kind A B ≡ v.lens) (s : Viewed × Viewed) (told : Some s ≡ sides_of v) where
  pub join_is : s ≡ (first_of v A, second_of v B)
  join_is = same_Some s (first_of v A, second_of v B) (told ∙ ap (λ L. sides_of (record v { lens = L })) (sym is)
      ∙ ap (λ L. Some (record v { lens = A; sets = to_first L v.sets }, record v { lens = B; sets = to_second L v.sets })) is)

  join_over : over s.1 ≡ over s.0
  join_over = ap (λ (w : Viewed × Viewed). over w.1) join_is ∙ sym (ap (λ (w : Viewed × Viewed). over w.0) join_is)

  -- what an edit of the join does to its sides
  abbrev to_left : Delta → Delta
  to_left d =
      let A = s.0.lens in let B = s.1.lens in let db = over s.0 in
      left_delta kind (view_names A) (view_names B) (sort_of A).tree (sort_of B).tree (get A db) (get B db) (edited (join kind A B) db d) d

  abbrev to_right : Delta → Delta
  to_right d =
      let A = s.0.lens in let B = s.1.lens in let db = over s.0 in
      right_delta kind (view_names A) (view_names B) (sort_of A).tree (sort_of B).tree (get A db) (get B db) (edited (join kind A B) db d) d

  pub join_chain : (d left right : Delta) (m n : Changed) → left ≡ to_left d → right ≡ to_right d → n ≡ with_changes (table_deltas s.0.lens left (over s.0)) m
      → with_changes (table_deltas s.1.lens right (over s.1)) n ≡ with_changes (table_deltas v.lens d (over v)) m
  unfolding table_deltas
  join_chain d left right m n made made' first =
      (λ i. with_changes (table_deltas s.1.lens (made' i) (join_over i)) (first i))
      ∙ ap (λ e. with_changes (table_deltas s.1.lens (to_right d) (over s.0)) (with_changes (table_deltas s.0.lens e (over s.0)) m)) made
      ∙ sym (with_both (table_deltas s.0.lens (to_left d) (over s.0)) (table_deltas s.1.lens (to_right d) (over s.0)) m)
      ∙ ap (λ (w : Viewed × Viewed). with_changes (table_deltas (join kind w.0.lens w.1.lens) d (over w.0)) m) join_is
      ∙ ap (λ L. with_changes (table_deltas L d (over v)) m) is
