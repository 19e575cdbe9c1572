-- One difference of tables after another.
use Rattle.std.proofs.Common.{◌≡◌, ◌<◌, ◌+◌, ℕ, drop, get_or, add-one, drop-cons, List, [], ◌∷◌, ◌++◌, length, map, ap, sym, ◌∙◌, subst, refl, Bool, true, false, cond, arith, ◌&&◌, ◌||◌, Option, Some, None, is_some, unwrap_or}
use Rattle.plain_values.proofs.Common.{option_map, AllByRecursion, list_all, list_any, IsStrictlySortedBy, keys_rise, nat_list_cmp_total, eq_by_cmp, is_lt, Ordering, Less, false≢true, or_parts, exact, bytes_cmp}
use Rattle.std.specs.FinMap as finmap
use Rattle.plain_values.specs.SortedSet as set
use Rattle.lens_specs.specs.Common.{AppliesTo, Delta, TableDelta, is_empty, new_view, Tables, Name, Fits, Relation, has, minus, union, AllApply, AreDeltas, LeadTo, after, composed, no_relation, compose_delta, composed_at, delta_for, relation_in}
use Rattle.fd_laws.proofs.Common.{name_itself, tied_name}
use Rattle.lens_specs.specs.TableDeltas.{names_of_both}
use Rattle.lens_laws.proofs.Common.{AllThere, all_there, same_is, same_name}
use Rattle.lens_laws.proofs.Moves.{Apart, EachApplies, IsMove, absent_nothing, empty_is, get_moved, lead_moves, nothing, nothing_applies, nothing_empty, rising_apart, unnamed}
use Rattle.signed_delta.specs.Disjoint.{AreApart}
use Rattle.signed_delta.specs.Tables.{table_delta}
use Rattle.signed_delta.specs.declared.delta.TableDelta.{TableDelta as Told}
use Rattle.edit_batches.proofs.RowSets.{contained, same_rows}

-- ---- one relation

-- the difference of both applies where they apply, the one after the other
pub both_apply : (d e : Delta) (r : Relation) → AppliesTo d r → AppliesTo e (after r d) → AppliesTo (compose_delta d e) r
unfolding new_view
both_apply d e r p q = (
  record {
    removes = λ x there. grind (arith, contained, there, p.0.removes x, q.0.removes x);
    adds = λ x there. grind (arith, contained, there, p.0.adds x, q.0.adds x, p.0.removes x);
  },
  λ x there. elim (has d.add x) as (λ b. has d.add x ≡ b → Fits r.columns x) [
    | true ↦ λ in_d. p.1 x in_d
    | false ↦ λ not_d. q.1 x (grind (arith, contained, there, not_d))
  ] refl,
)

-- and does what they do
pub both_after : (d e : Delta) (r : Relation) → AppliesTo d r → AppliesTo e (after r d) → after r (compose_delta d e) ≡ after (after r d) e
unfolding new_view
both_after d e r p q = ap (λ rows. record r { rows = rows }) (same_rows (new_view r.rows (compose_delta d e)) (new_view (new_view r.rows d) e)
    (λ x. grind (arith, contained, p.0.removes x, p.0.adds x, q.0.removes x, q.0.adds x)))

-- ---- tables by name

moved_relation : (d : Delta) (o : Option Relation) → is_some o ≡ true → unwrap_or (option_map (λ r. after r d) o) no_relation ≡ after (unwrap_or o no_relation) d
moved_relation d None there = cc
moved_relation d (Some r) there = refl

twice : (d e : Delta) (o : Option Relation) → AppliesTo d (unwrap_or o no_relation) → AppliesTo e (after (unwrap_or o no_relation) d)
    → option_map (λ r. after r e) (option_map (λ r. after r d) o) ≡ option_map (λ r. after r (compose_delta d e)) o
twice d e None p q = refl
twice d e (Some r) p q = ap Some (sym (both_after d e r p q))

absent_is : (o : Option Relation) → is_some o ≡ false → o ≡ None
absent_is None absent = refl
absent_is (Some r) absent = cc

pub both_nothing : (d e : Delta) → d ≡ nothing → e ≡ nothing → compose_delta d e ≡ nothing
both_nothing d e p q = (λ i. compose_delta (p i) (q i)) ∙ (λ i. record {
  remove = same_rows (union (minus set.empty set.empty) (minus set.empty set.empty)) set.empty (λ x. grind (arith, contained)) i;
  add = same_rows (union (minus set.empty set.empty) (minus set.empty set.empty)) set.empty (λ x. grind (arith, contained)) i;
})

-- one move after another, of tables that are there
pub both_moves : (f g : Name → Delta) (a b c : Tables) → ((q : Name) → is_some (finmap.get a q) ≡ false → (f q ≡ nothing) × (g q ≡ nothing))
    → IsMove f a b → IsMove g b c → IsMove (λ q. compose_delta (f q) (g q)) a c
both_moves f g a b c none m n q = elim (is_some (finmap.get a q)) as (λ there. is_some (finmap.get a q) ≡ there
    → AppliesTo (compose_delta (f q) (g q)) (relation_in a q) × (finmap.get c q ≡ option_map (λ r. after r (compose_delta (f q) (g q))) (finmap.get a q))) [
      | true ↦ λ there.
          let from : relation_in b q ≡ after (relation_in a q) (f q) = ap (λ o. unwrap_or o no_relation) (m q).1 ∙ moved_relation (f q) (finmap.get a q) there in
          let applies : AppliesTo (g q) (after (relation_in a q) (f q)) = subst (AppliesTo (g q)) from (n q).0 in (
            both_apply (f q) (g q) (relation_in a q) (m q).0 applies,
            (n q).1 ∙ ap (option_map (λ r. after r (g q))) (m q).1
                ∙ twice (f q) (g q) (finmap.get a q) (m q).0 applies,
          )
      | false ↦ λ absent.
          let gone = absent_is (finmap.get a q) absent in
          let none_of = both_nothing (f q) (g q) (none q absent).0 (none q absent).1 in (
            subst (λ d. AppliesTo d (relation_in a q)) (sym none_of) (nothing_applies (relation_in a q)),
            (n q).1 ∙ ap (option_map (λ r. after r (g q))) ((m q).1 ∙ ap (option_map (λ r. after r (f q))) gone)
                ∙ sym (ap (option_map (λ r. after r (compose_delta (f q) (g q)))) gone),
          )
    ] refl

-- ---- lists of differences

pub all_apply : (cs : List TableDelta) (a : Tables) → Apart cs → AllThere cs a → EachApplies cs a → AllApply cs a
all_apply [] a apart there each = tt
all_apply (c ∷ cs) a apart there each = (there.0, each.0, apart.0, all_apply cs a apart.1 there.1 each.1)

-- each of the list is the difference of its table
pub own_each : (cs : List TableDelta) (a : Tables) → Apart cs → ((q : Name) → AppliesTo (delta_for q cs) (relation_in a q)) → EachApplies cs a
own_each [] a apart own = tt
own_each (c ∷ cs) a apart own = (
  subst (λ b. AppliesTo (cond b c.delta (delta_for c.table cs)) (relation_in a c.table)) (name_itself c.table) (own c.table),
  own_each cs a apart.1 (λ q. elim (eq_by_cmp bytes_cmp q c.table) as (λ b. eq_by_cmp bytes_cmp q c.table ≡ b → AppliesTo (cond b c.delta (delta_for q cs)) (relation_in a q) → AppliesTo (delta_for q cs) (relation_in a q)) [
    | true ↦ λ tie _. subst (λ d. AppliesTo d (relation_in a q)) (sym (unnamed cs q (ap (λ n. list_any (λ later. same_name later.table n) cs) (tied_name q c.table tie) ∙ apart.0))) (nothing_applies (relation_in a q))
    | false ↦ λ _ applies. applies
  ] refl (own q)),
)

-- a move whose differences are those of a list is led by it
pub moves_lead : (cs : List TableDelta) (a c : Tables) → Apart cs → AllThere cs a → IsMove (λ q. delta_for q cs) a c → LeadTo cs a c
moves_lead cs a c apart there move = (
  all_apply cs a apart there (own_each cs a apart (λ q. (move q).0)),
  finmap.same_map nat_list_cmp_total exact _ _ (λ q. get_moved cs a apart there q ∙ sym (move q).1),
)

-- ---- what is composed

module _ (ds es : List TableDelta) where
  abbrev pub both_at : Name → Delta
  both_at q = compose_delta (delta_for q ds) (delta_for q es)

  either_nothing : (b : Bool) (d : Delta) → d ≡ nothing → cond b d nothing ≡ nothing
  either_nothing true d e = e
  either_nothing false d e = refl

  chosen : (e b : Bool) (d : Delta) → cond e d (cond b d nothing) ≡ cond (e || b) d nothing
  chosen true b d = refl
  chosen false b d = refl

  pub composed_for : (ts : List Name) (q : Name) → delta_for q (composed_at ts ds es) ≡ cond (list_any (eq_by_cmp bytes_cmp q) ts) (both_at q) nothing
  composed_for [] q = refl
  composed_for (t ∷ ts) q =
      let rest = composed_for ts q in
      elim (is_empty (both_at t)) as (λ b. is_empty (both_at t) ≡ b
      → delta_for q (cond b (composed_at ts ds es) (record { table = t; delta = both_at t } ∷ composed_at ts ds es)) ≡ cond (eq_by_cmp bytes_cmp q t || list_any (eq_by_cmp bytes_cmp q) ts) (both_at q) nothing) [
        | true ↦ λ none. rest ∙ elim (eq_by_cmp bytes_cmp q t) as (λ b. eq_by_cmp bytes_cmp q t ≡ b
            → cond (list_any (eq_by_cmp bytes_cmp q) ts) (both_at q) nothing ≡ cond (b || list_any (eq_by_cmp bytes_cmp q) ts) (both_at q) nothing) [
              | true ↦ λ tie. let is : both_at q ≡ nothing = ap both_at (tied_name q t tie) ∙ empty_is (both_at t) none in
                  either_nothing (list_any (eq_by_cmp bytes_cmp q) ts) (both_at q) is ∙ sym is
              | false ↦ λ _. refl
            ] refl
        | false ↦ λ _. elim (eq_by_cmp bytes_cmp q t) as (λ b. eq_by_cmp bytes_cmp q t ≡ b
            → cond b (both_at t) (delta_for q (composed_at ts ds es)) ≡ cond (b || list_any (eq_by_cmp bytes_cmp q) ts) (both_at q) nothing) [
              | true ↦ λ tie. ap both_at (sym (tied_name q t tie))
              | false ↦ λ _. rest
            ] refl
      ] refl

  any-both : (p : Name → Bool) (xs ys : List Name) → list_any p (xs ++ ys) ≡ (list_any p xs || list_any p ys)
  any-both p [] ys = refl
  any-both p (x ∷ xs) ys = elim (p x) as (λ b. (b || list_any p (xs ++ ys)) ≡ ((b || list_any p xs) || list_any p ys)) [ true ↦ refl | false ↦ any-both p xs ys ]

  named : (q : Name) (cs : List TableDelta) → list_any (eq_by_cmp bytes_cmp q) (map (λ c. c.table) cs) ≡ list_any (λ c. same_name c.table q) cs
  named q [] = refl
  named q (c ∷ cs) = λ i. sym (same_is c.table q) i || named q cs i

  pub composed_is : (q : Name) → delta_for q (composed ds es) ≡ both_at q
  composed_is q =
      let names = map (λ c. c.table) ds ++ map (λ c. c.table) es in
      let among : list_any (eq_by_cmp bytes_cmp q) (names_of_both ds es) ≡ (list_any (λ c. same_name c.table q) ds || list_any (λ c. same_name c.table q) es) =
      sym (set.contains-items (set.from_list {R = bytes_cmp} names) q) ∙ set.contains-from_list nat_list_cmp_total names q
      ∙ any-both (eq_by_cmp bytes_cmp q) (map (λ c. c.table) ds) (map (λ c. c.table) es) ∙ (λ i. named q ds i || named q es i) in
      composed_for (names_of_both ds es) q ∙ ap (λ b. cond b (both_at q) nothing) among
      ∙ elim (list_any (λ c. same_name c.table q) ds || list_any (λ c. same_name c.table q) es) as (λ b. (list_any (λ c. same_name c.table q) ds || list_any (λ c. same_name c.table q) es) ≡ b → cond b (both_at q) nothing ≡ both_at q) [
        | true ↦ λ _. refl
        | false ↦ λ none. let parts = or_parts (list_any (λ c. same_name c.table q) ds) (list_any (λ c. same_name c.table q) es) none in
            sym (both_nothing (delta_for q ds) (delta_for q es) (unnamed ds q parts.0) (unnamed es q parts.1))
      ] refl

  -- what is composed is of tables that are there
  pub composed_there : (ts : List Name) (a : Tables) → ((q : Name) → is_some (finmap.get a q) ≡ false → both_at q ≡ nothing) → AllThere (composed_at ts ds es) a
  composed_there [] a none = tt
  composed_there (t ∷ ts) a none = elim (is_empty (both_at t)) as (λ b. is_empty (both_at t) ≡ b
      → AllThere (cond b (composed_at ts ds es) (record { table = t; delta = both_at t } ∷ composed_at ts ds es)) a) [
        | true ↦ λ _. composed_there ts a none
        | false ↦ λ some. (
          elim (is_some (finmap.get a t)) as (λ b. is_some (finmap.get a t) ≡ b → b ≡ true) [
            | true ↦ λ _. refl
            | false ↦ λ absent. absurd (false≢true (sym some ∙ ap is_empty (none t absent) ∙ nothing_empty))
          ] refl,
          composed_there ts a none,
        )
      ] refl

  less_is : (o : Ordering) → o ≡ Less → is_lt o ≡ true
  less_is o e = ap is_lt e

  above_first : (t : Name) (ts : List Name) → AllByRecursion (λ u. bytes_cmp t u ≡ Less) ts → list_all (λ later. is_lt (bytes_cmp t later.table)) (composed_at ts ds es) ≡ true
  above_first t [] all = refl
  above_first t (u ∷ ts) all = elim (is_empty (both_at u)) as (λ b. list_all (λ later. is_lt (bytes_cmp t later.table)) (cond b (composed_at ts ds es) (record { table = u; delta = both_at u } ∷ composed_at ts ds es)) ≡ true) [
    | true ↦ above_first t ts all.1
    | false ↦ λ i. less_is (bytes_cmp t u) all.0 i && above_first t ts all.1 i
  ]

  -- what is composed is by rising names, and none of it is empty
  pub composed_deltas : (ts : List Name) → IsStrictlySortedBy bytes_cmp ts → AreDeltas (composed_at ts ds es)
  unfolding IsStrictlySortedBy
  composed_deltas [] rise = tt
  composed_deltas (t ∷ ts) rise = elim (is_empty (both_at t)) as (λ b. is_empty (both_at t) ≡ b
      → AreDeltas (cond b (composed_at ts ds es) (record { table = t; delta = both_at t } ∷ composed_at ts ds es))) [
        | true ↦ λ _. composed_deltas ts rise.1
        | false ↦ λ some. (some, above_first t ts rise.0, composed_deltas ts rise.1)
      ] refl

map_there : (d : Delta) (o : Option Relation) → is_some (option_map (λ r. after r d) o) ≡ is_some o
map_there d None = refl
map_there d (Some r) = refl

-- what is composed leads where both do
pub composed_lead : (ds es : List TableDelta) (a b c : Tables) → LeadTo ds a b → LeadTo es b c → LeadTo (composed ds es) a c
composed_lead ds es a b c first second =
    let m = lead_moves ds a b first in
    let n = lead_moves es b c second in
    let none : (q : Name) → is_some (finmap.get a q) ≡ false → (delta_for q ds ≡ nothing) × (delta_for q es ≡ nothing) = λ q absent. (
      absent_nothing ds a (all_there ds a first.0) q absent,
      absent_nothing es b (all_there es b second.0) q (ap is_some (m q).1 ∙ map_there (delta_for q ds) (finmap.get a q) ∙ absent),
    ) in
    let move = both_moves (λ q. delta_for q ds) (λ q. delta_for q es) a b c none m n in
    moves_lead (composed ds es) a c (rising_apart (composed ds es) (composed_deltas ds es (names_of_both ds es) (keys_rise bytes_cmp (set.from_list {R = bytes_cmp} (map (λ c. c.table) ds ++ map (λ c. c.table) es)))))
    (composed_there ds es (names_of_both ds es) a (λ q absent. both_nothing (delta_for q ds) (delta_for q es) (none q absent).0 (none q absent).1))
    (λ q. (
      subst (λ d. AppliesTo d (relation_in a q)) (sym (composed_is ds es q)) (move q).0,
      (move q).1 ∙ ap (λ d. option_map (λ r. after r d) (finmap.get a q)) (sym (composed_is ds es q)),
    ))

pub composed_are : (ds es : List TableDelta) → AreDeltas (composed ds es)
composed_are ds es = composed_deltas ds es (names_of_both ds es) (keys_rise bytes_cmp (set.from_list {R = bytes_cmp} (map (λ c. c.table) ds ++ map (λ c. c.table) es)))

-- the difference of a table in what is left of the list
pub delta_at : (list : List Told) (i : ℕ) (x : Told) (q : Name) → i < length list → x ≡ get_or list i x
    → delta_for q (map table_delta (drop i list)) ≡ cond (same_name x.table q) x.delta (delta_for q (map table_delta (drop (i + 1) list)))
delta_at list i x q l e =
    ap (λ rest. delta_for q (map table_delta rest)) (drop-cons list i x l ∙ (λ j. sym e j ∷ drop (sym (add-one i) j) list))
    ∙ ap (λ b. cond b x.delta (delta_for q (map table_delta (drop (i + 1) list)))) (sym (same_is x.table q))

-- no row is both removed and added by two differences
pub pair_apart : (d e : Delta) → AreApart d.remove d.add → AreApart e.remove e.add → AreApart (compose_delta d e).remove (compose_delta d e).add
pair_apart d e p q row there = grind (arith, contained, there, p row, q row)

nil_after : (cs : List TableDelta) → cs ++ [] ≡ cs
nil_after [] = refl
nil_after (c ∷ cs) = ap (λ l. c ∷ l) (nil_after cs)

-- where no name is left, no more is composed
pub no_more : (cs ds es : List TableDelta) (ts : List Name) → ts ≡ [] → cs ++ composed_at ts ds es ≡ cs
no_more cs ds es ts none = ap (λ l. cs ++ composed_at l ds es) none ∙ nil_after cs
