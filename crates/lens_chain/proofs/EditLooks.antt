-- How many looks an edit of a view takes, and how many rows each node hands down.
use Rattle.std.proofs.Common.{◌≡◌, ◌∙◌, ℕ, ◌+◌, ◌*◌, ◌≤◌, ap, arith, length, refl, subst, sym, List, Ok}
use Rattle.plain_values.proofs.Common.{length-map, mul-le, Contains-append_left, Contains-append_right, nat_list_cmp_total, bytes_cmp, keys_rise}
use Rattle.std.specs.FinMap as finmap
use Rattle.plain_values.specs.SortedSet as set
use Rattle.plain_values.specs.declared.join_kind.JoinKind.{JoinKind}
use Rattle.plain_values.specs.declared.value.Value.{Value}
use Rattle.lens_specs.specs.Common.{Columns, names, Delta, Edge, Lens, select, drop, rename, sort_of, Name, Names, Predicate, Sort, join}
use Rattle.lens_specs.specs.Typing as typing
use Rattle.lens_laws.proofs.Common.{HasKeys, asked, IsTyped, rename_delta, node_work, rows_down, rows_of, size, work, size_some}
use Rattle.lens_laws.specs.Work.{TablesGiveAtMost}
use Rattle.lens_laws.proofs.DeltaCounts.{rename_delta_small}
use Rattle.lens_laws.proofs.Work.{drop_work, join_work, node_within, rename_work, select_work, view_edges_few}
use Rattle.lens_probe.specs.Handed.{to_first, to_second}
use Rattle.lens_probe.specs.Viewed.{FindsAtMost, IsWithin, Viewed}
use Rattle.lens_chain.proofs.Chain.{first_of, second_of}
use Rattle.lens_chain.proofs.Premises.{sort_is, tree_is}

-- ---- trees

names_columns : (U : Columns) → length (set.items (names U)) ≡ finmap.len U
unfolding names
names_columns U = ap length (set.items-from_list nat_list_cmp_total (finmap.keys U) (keys_rise bytes_cmp U)) ∙ length-map (finmap.entries U) (λ e. e.0) ∙ sym (finmap.len-entries U)

-- the tree of a sort with at most 64 columns has at most 64 edges
pub edges_few : (L M : Lens) (s : Sort) (T : List Edge) → IsTyped L → HasKeys L → M ≡ L → typing.sort M ≡ Ok s → T ≡ s.tree → finmap.len s.columns ≤ 64 → length T ≤ 64
edges_few L M s T typed keys same given is few =
    let edges = ap length (tree_is L M s T typed same given is) in
    let all = view_edges_few L typed keys in
    let columns = names_columns (sort_of L).columns in
    let known = ap (λ (k : Sort). finmap.len k.columns) (sort_is L M s typed same given) in
    omega (arith, edges, all, columns, known, few)

-- a number for which the view's look-ups are few bounds them by the view's size
pub within_size : (v : Viewed) (w : ℕ) → FindsAtMost v w → IsWithin v (size v.lens w)
within_size v w few = (w, few, omega arith)

pub join_size : (kind : JoinKind) (A B : Lens) (w : ℕ) → 2 * size A w * size B w ≡ size (join kind A B) w
unfolding size
join_size kind A B w = refl

-- ---- sources

module _ (v : Viewed) (w : ℕ) (few : FindsAtMost v w) where
  select_finds : (P : Predicate) (C : Lens) → select P C ≡ v.lens → FindsAtMost (first_of v C) w
  select_finds P C is =
      subst (λ L. TablesGiveAtMost w (asked C (to_first L v.sets)) v.tables.present.relations) is
      (subst (λ L. TablesGiveAtMost w (asked L v.sets) v.tables.present.relations) (sym is) few)

  drop_finds : (A : Name) (X : Names) (a : Value) (C : Lens) → drop A X a C ≡ v.lens → FindsAtMost (first_of v C) w
  drop_finds A X a C is =
      subst (λ L. TablesGiveAtMost w (asked C (to_first L v.sets)) v.tables.present.relations) is
      (subst (λ L. TablesGiveAtMost w (asked L v.sets) v.tables.present.relations) (sym is) few)

  rename_finds : (A B : Name) (C : Lens) → rename A B C ≡ v.lens → FindsAtMost (first_of v C) w
  rename_finds A B C is =
      subst (λ L. TablesGiveAtMost w (asked C (to_first L v.sets)) v.tables.present.relations) is
      (subst (λ L. TablesGiveAtMost w (asked L v.sets) v.tables.present.relations) (sym is) few)

  join_finds : (kind : JoinKind) (A B : Lens) → join kind A B ≡ v.lens → FindsAtMost (first_of v A) w × FindsAtMost (second_of v B) w
  join_finds kind A B is =
      subst (λ L. TablesGiveAtMost w (asked A (to_first L v.sets)) v.tables.present.relations × TablesGiveAtMost w (asked B (to_second L v.sets)) v.tables.present.relations) is
      (let all : TablesGiveAtMost w (asked (join kind A B) v.sets) v.tables.present.relations = subst (λ L. TablesGiveAtMost w (asked L v.sets) v.tables.present.relations) (sym is) few in (
        λ t C k i. all t C k (Contains-append_left _ _ (t, C) i),
        λ t C k i. all t C k (Contains-append_right _ _ (t, C) i),
      ))

-- ---- sums

-- what a node looks at itself is within the work of the view
pub node_alone : (L : Lens) (d w old new : ℕ) → new ≤ old + node_work d (size L w) → new ≤ old + work L d w
node_alone L d w old new h = let n = node_within L d w in omega (arith, h, n)

select_sum : (P : Predicate) (C : Lens) (d e w old mid new : ℕ) → mid ≤ old + node_work d (size C w) → e ≤ rows_down d (size C w) → new ≤ mid + work C e w → new ≤ old + work (select P C) d w
unfolding size
select_sum P C d e w old mid new h few k =
    let all = select_work P C d e w (node_work d (size C w)) (omega arith) few in
    omega (arith, h, k, all)

drop_sum : (A : Name) (X : Names) (a : Value) (C : Lens) (d e w old mid new : ℕ) → mid ≤ old + node_work d (size C w) → e ≤ rows_down d (size C w) → new ≤ mid + work C e w → new ≤ old + work (drop A X a C) d w
unfolding size
drop_sum A X a C d e w old mid new h few k =
    let all = drop_work A X a C d e w (node_work d (size C w)) (omega arith) few in
    omega (arith, h, k, all)

rename_sum : (A B : Name) (C : Lens) (d e w old new : ℕ) → e ≤ d → new ≤ old + work C e w → new ≤ old + work (rename A B C) d w
rename_sum A B C d e w old new few k =
    let n = size (rename A B C) w in
    let some = size_some (rename A B C) w in
    let grows : d * 1 ≤ d * n = mul-le d 1 d n (omega arith) some in
    let down : e ≤ rows_down d n = omega (arith, few, grows) in
    let all = rename_work A B C d e w 0 (omega arith) down in
    omega (arith, k, all)

join_sum : (kind : JoinKind) (A B : Lens) (d e f w old mid left new : ℕ) → let n = size (join kind A B) w in mid ≤ old + node_work d n → e ≤ rows_down d n → f ≤ rows_down d n
    → left ≤ mid + work A e w → new ≤ left + work B f w → new ≤ old + work (join kind A B) d w
join_sum kind A B d e f w old mid left new h few more k l =
    let all = join_work kind A B d e f w (node_work d (size (join kind A B) w)) (omega arith) few more in
    omega (arith, h, k, l, all)

select_same : (P : Predicate) (C : Lens) (w : ℕ) → size C w ≡ size (select P C) w
unfolding size
select_same P C w = refl

drop_same : (A : Name) (X : Names) (a : Value) (C : Lens) (w : ℕ) → size C w ≡ size (drop A X a C) w
unfolding size
drop_same A X a C w = refl

-- ---- at a selection, whose source s is the view of C

module _ (v : Viewed) (P : Predicate) (C : Lens) (is : select P C ≡ v.lens) (s : Viewed) (at : s ≡ first_of v C) where
  pub selected_finds : (w : ℕ) → FindsAtMost v w → FindsAtMost s w
  selected_finds w few = subst (λ (x : Viewed). FindsAtMost x w) (sym at) (select_finds v w few P C is)

  pub selected_alone : (d w old new : ℕ) → new ≤ old + node_work d (size s.lens w) → new ≤ old + work v.lens d w
  selected_alone d w old new h =
      let same : size s.lens w ≡ size v.lens w = ap (λ (x : Viewed). size x.lens w) at ∙ select_same P C w ∙ ap (λ L. size L w) is in
      node_alone v.lens d w old new (subst (λ n. new ≤ old + node_work d n) same h)

  pub selected_looks : (d e w old mid new : ℕ) → mid ≤ old + node_work d (size s.lens w) → e ≤ rows_down d (size s.lens w) → new ≤ mid + work s.lens e w → new ≤ old + work v.lens d w
  selected_looks d e w old mid new h few k =
      subst (λ L. new ≤ old + work L d w) is
      (select_sum P C d e w old mid new
      (subst (λ (x : Viewed). mid ≤ old + node_work d (size x.lens w)) at h)
      (subst (λ (x : Viewed). e ≤ rows_down d (size x.lens w)) at few)
      (subst (λ (x : Viewed). new ≤ mid + work x.lens e w) at k))

-- ---- at a relation without one of its columns

module _ (v : Viewed) (A : Name) (X : Names) (a : Value) (C : Lens) (is : drop A X a C ≡ v.lens) (s : Viewed) (at : s ≡ first_of v C) where
  pub dropped_finds : (w : ℕ) → FindsAtMost v w → FindsAtMost s w
  dropped_finds w few = subst (λ (x : Viewed). FindsAtMost x w) (sym at) (drop_finds v w few A X a C is)

  pub dropped_alone : (d w old new : ℕ) → new ≤ old + node_work d (size s.lens w) → new ≤ old + work v.lens d w
  dropped_alone d w old new h =
      let same : size s.lens w ≡ size v.lens w = ap (λ (x : Viewed). size x.lens w) at ∙ drop_same A X a C w ∙ ap (λ L. size L w) is in
      node_alone v.lens d w old new (subst (λ n. new ≤ old + node_work d n) same h)

  pub dropped_looks : (d e w old mid new : ℕ) → mid ≤ old + node_work d (size s.lens w) → e ≤ rows_down d (size s.lens w) → new ≤ mid + work s.lens e w → new ≤ old + work v.lens d w
  dropped_looks d e w old mid new h few k =
      subst (λ L. new ≤ old + work L d w) is
      (drop_sum A X a C d e w old mid new
      (subst (λ (x : Viewed). mid ≤ old + node_work d (size x.lens w)) at h)
      (subst (λ (x : Viewed). e ≤ rows_down d (size x.lens w)) at few)
      (subst (λ (x : Viewed). new ≤ mid + work x.lens e w) at k))

-- ---- at a relation with a new name for a column

module _ (v : Viewed) (A B : Name) (C : Lens) (is : rename A B C ≡ v.lens) (s : Viewed) (at : s ≡ first_of v C) where
  pub renamed_finds : (w : ℕ) → FindsAtMost v w → FindsAtMost s w
  renamed_finds w few = subst (λ (x : Viewed). FindsAtMost x w) (sym at) (rename_finds v w few A B C is)

  pub renamed_looks : (d change : Delta) (w old new : ℕ) → change ≡ rename_delta A B d → new ≤ old + work s.lens (rows_of change) w → new ≤ old + work v.lens (rows_of d) w
  renamed_looks d change w old new made k =
      let few = rename_delta_small A B d in
      let same = ap rows_of made in
      subst (λ L. new ≤ old + work L (rows_of d) w) is
      (rename_sum A B C (rows_of d) (rows_of change) w old new (omega (arith, few, same)) (subst (λ (x : Viewed). new ≤ old + work x.lens (rows_of change) w) at k))

-- ---- at a join

module _ (v : Viewed) (kind : JoinKind) (A B : Lens) (is : join kind A B ≡ v.lens) (s : Viewed × Viewed) (at : s ≡ (first_of v A, second_of v B)) where
  pub joined_finds : (w : ℕ) → FindsAtMost v w → FindsAtMost s.0 w × FindsAtMost s.1 w
  joined_finds w few = subst (λ (x : Viewed × Viewed). FindsAtMost x.0 w × FindsAtMost x.1 w) (sym at) (join_finds v w few kind A B is)

  joined : join kind s.0.lens s.1.lens ≡ v.lens
  joined = ap (λ (x : Viewed × Viewed). join kind x.0.lens x.1.lens) at ∙ is

  pub joined_alone : (d w old new : ℕ) → new ≤ old + node_work d (size (join kind s.0.lens s.1.lens) w) → new ≤ old + work v.lens d w
  joined_alone d w old new h = node_alone v.lens d w old new (subst (λ L. new ≤ old + node_work d (size L w)) joined h)

  pub joined_half : (d e w old mid new : ℕ) → let n = size (join kind s.0.lens s.1.lens) w in mid ≤ old + node_work d n → e ≤ rows_down d n → new ≤ mid + work s.0.lens e w → new ≤ old + work v.lens d w
  joined_half d e w old mid new h few k =
      subst (λ L. new ≤ old + work L d w) joined (join_sum kind s.0.lens s.1.lens d e 0 w old mid new new h few (omega arith) k (omega arith))

  pub joined_looks : (d e f w old mid left new : ℕ) → let n = size (join kind s.0.lens s.1.lens) w in mid ≤ old + node_work d n → e ≤ rows_down d n → f ≤ rows_down d n
      → left ≤ mid + work s.0.lens e w → new ≤ left + work s.1.lens f w → new ≤ old + work v.lens d w
  joined_looks d e f w old mid left new h few more k l =
      subst (λ L. new ≤ old + work L d w) joined (join_sum kind s.0.lens s.1.lens d e f w old mid left new h few more k l)
