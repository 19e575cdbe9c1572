-- The rows near new ones are enough: revision changes none of the others.
use Rattle.std.proofs.Common.{◌≡◌, ◌≢◌, ℕ, ◌+◌, ◌*◌, ◌<◌, length, get_or, drop, List, [], ◌∷◌, ◌++◌, refl, sym, ap, ◌∙◌, Bool, true, false, cond, inl, inr, flat_map}
use Rattle.plain_values.proofs.Common.{list_any, eq_by_cmp, and_parts, cases_Bool, not-true, true≢false, false_from_ne_true, drop_more, row_cmp, Row, absurd_false, from_append, from_flat_map, in_append_left, in_append_right, in_flat_map, any_from}
use Rattle.std.proofs.Math.Nat.{mul_right_comm}
use Rattle.plain_values.specs.SortedSet as set
use Rattle.lens_specs.specs.Common.{Edge, Meets, MeetsTree, Rows, has, minus, those, along, revise_row, agree}
use Rattle.lens_laws.proofs.Common.{find_by, is_changed}
use Rattle.fd_laws.proofs.Common.{Among, from_minus, from_those, in_minus, in_those, same_rel, agree_back, agree_itself, agree_on, row_itself, row_total, tied_row, paste_same, along_cases}
use Rattle.row_sets.specs.Members.{is_in}
use Rattle.revision.specs.Near.{HasChanged, is_like, near_along, near_from}

-- ---- the rows near one new row, edge by edge

-- those of one edge more
pub near_more : (T : List Edge) (i : ℕ) (e : Edge) (M : Rows) (p : Row) (rows : List Row) → i < length T → e ≡ get_or T i e
    → near_from (drop (i + 1) T) M p (near_along e M p rows) ≡ near_from (drop i T) M p rows
unfolding near_from
near_more T i e M p rows below here = ap (λ es. near_from es M p rows) (ap (λ k. k ∷ drop (i + 1) T) here ∙ sym (drop_more T i e below))

-- those of all edges
pub near_done : (T : List Edge) (M : Rows) (p : Row) (rows : List Row) → T ≡ [] → rows ≡ near_from T M p rows
unfolding near_from
near_done T M p rows none = sym (ap (λ es. near_from es M p rows) none)

-- with a row like p at the edge, or with those found
pub as_they_were : (e : Edge) (M : Rows) (p : Row) (rows : List Row) (b : Bool) → b ≡ list_any (is_like e p) rows → b ≡ true → rows ≡ near_along e M p rows
as_they_were e M p rows b is t = ap (λ b. cond b rows (rows ++ set.items (find_by e.left p M))) (sym t ∙ is)

pub with_found : (e : Edge) (M : Rows) (p : Row) (rows : List Row) (b : Bool) → b ≡ list_any (is_like e p) rows → b ≡ false
    → rows ++ set.items (find_by e.left p M) ≡ near_along e M p rows
with_found e M p rows b is f = ap (λ b. cond b rows (rows ++ set.items (find_by e.left p M))) (sym f ∙ is)

-- ---- where revision changes a row

-- a row that revision changes agrees with a new row on the left side of an edge, and not on its right side
pub record ChangesAt (T : List Edge) (L : Rows) (m : Row) : Type 0 where
  pub edge : Edge
  pub among : Among edge T
  pub row : Row
  pub there : has L row ≡ true
  pub left : agree edge.left m row ≡ true
  pub right : agree edge.right m row ≡ false

behind : (e : Edge) (es : List Edge) (L : Rows) (m : Row) → ChangesAt es L m → ChangesAt (e ∷ es) L m
behind e es L m w = record { edge = w.edge; among = inr w.among; row = w.row; there = w.there; left = w.left; right = w.right }

pub changes_at : (T : List Edge) (L : Rows) (m : Row) → (revise_row T m L ≡ m → ⊥) → ChangesAt T L m
unfolding revise_row
changes_at [] L m apart = absurd (apart refl)
changes_at (e ∷ es) L m apart =
    let later : along e m L ≡ m → ChangesAt (e ∷ es) L m = λ stays. behind e es L m (changes_at es L m (λ is. apart (ap (λ r. revise_row es r L) stays ∙ is))) in
    elim (along_cases e m L) [
      | inl t ↦ elim (cases_Bool (agree e.right m t.0)) [
        | inl same ↦ later (t.3 ∙ paste_same m e.right t.0 same)
        | inr other ↦ record { edge = e; among = inl refl; row = t.0; there = t.1; left = t.2; right = other }
      ]
      | inr k ↦ later k.1
    ]

pub apart_from : (T : List Edge) (L : Rows) (m : Row) → is_changed T L m ≡ true → revise_row T m L ≡ m → ⊥
apart_from T L m t is = true≢false (sym (row_itself m) ∙ ap (λ r. eq_by_cmp row_cmp r m) (sym is) ∙ not-true _ t)

-- ---- that the rows near the new ones are among those, and enough

abbrev same : Row → Row → Bool
same = eq_by_cmp row_cmp

module _ (M : Rows) (p : Row) where
  stays_along : (e : Edge) (rows : List Row) (m : Row) → is_in rows m ≡ true → is_in (near_along e M p rows) m ≡ true
  stays_along e rows m i = elim (list_any (is_like e p) rows) as (λ b. is_in (cond b rows (rows ++ set.items (find_by e.left p M))) m ≡ true) [
    | true ↦ i
    | false ↦ in_append_left same tied_row row_itself m rows _ i
  ]

  stays_from : (es : List Edge) (rows : List Row) (m : Row) → is_in rows m ≡ true → is_in (near_from es M p rows) m ≡ true
  unfolding near_from
  stays_from [] rows m i = i
  stays_from (e ∷ es) rows m i = stays_from es (near_along e M p rows) m (stays_along e rows m i)

  -- each is a row of the relation
  abbrev Own : List Row → Type 0
  Own rows = (m : Row) → is_in rows m ≡ true → has M m ≡ true

  own_along : (e : Edge) (rows : List Row) → Own rows → Own (near_along e M p rows)
  own_along e rows own m = elim (list_any (is_like e p) rows) as (λ b. is_in (cond b rows (rows ++ set.items (find_by e.left p M))) m ≡ true → has M m ≡ true) [
    | true ↦ own m
    | false ↦ λ i. elim (from_append same tied_row row_itself m rows _ i) [
      | inl j ↦ own m j
      | inr j ↦ (from_those (agree e.left p) M m (set.contains-items (find_by e.left p M) m ∙ j)).0
    ]
  ]

  own_from : (es : List Edge) (rows : List Row) → Own rows → Own (near_from es M p rows)
  unfolding near_from
  own_from [] rows own = own
  own_from (e ∷ es) rows own = own_from es (near_along e M p rows) (own_along e rows own)

  -- one that agrees with p on the left side and not on the right is found at the edge: where another is like p there, it would be so too
  found_along : (e : Edge) (rows : List Row) → Meets M e.left e.right → Own rows → (m : Row) → has M m ≡ true → agree e.left m p ≡ true → agree e.right m p ≡ false
      → is_in (near_along e M p rows) m ≡ true
  found_along e rows meets own m im left right =
      elim (list_any (is_like e p) rows) as (λ b. list_any (is_like e p) rows ≡ b → is_in (cond b rows (rows ++ set.items (find_by e.left p M))) m ≡ true) [
        | true ↦ λ some.
            let w = any_from same tied_row row_itself (is_like e p) rows some in
            let like = and_parts (agree e.left w.0 p) (agree e.right w.0 p) w.2 in
            let alike = meets m w.0 im (own w.0 w.1) (agree_on e.left m p w.0 left (agree_back e.left w.0 p like.0)) in
            absurd_false _ (agree_on e.right m w.0 p alike like.1) right
        | false ↦ λ _. in_append_right same tied_row row_itself m rows _
            (sym (set.contains-items (find_by e.left p M) m) ∙ in_those (agree e.left p) M m im (agree_back e.left m p left))
      ] refl

  found_from : (es : List Edge) (rows : List Row) → MeetsTree M es → Own rows → (e : Edge) → Among e es → (m : Row) → has M m ≡ true
      → agree e.left m p ≡ true → agree e.right m p ≡ false → is_in (near_from es M p rows) m ≡ true
  unfolding near_from
  found_from [] rows meets own e i m im left right = absurd i
  found_from (k ∷ ks) rows meets own e i m im left right = elim i [
    | inl is ↦ stays_from ks (near_along k M p rows) m (found_along k rows meets.0 own m im
        (ap (λ z. agree z.left m p) (sym is) ∙ left) (ap (λ z. agree z.right m p) (sym is) ∙ right))
    | inr j ↦ found_from ks (near_along k M p rows) meets.1 (own_along k rows own) e j m im left right
  ]

  -- p itself is found at the first edge, if it is there
  present_from : (T : List Edge) → length T ≢ 0 → has M p ≡ true → is_in (near_from T M p []) p ≡ true
  unfolding near_from
  present_from [] some im = absurd (some refl)
  present_from (e ∷ es) some im = stays_from es (near_along e M p []) p
      (in_append_right same tied_row row_itself p [] _ (sym (set.contains-items (find_by e.left p M) p) ∙ in_those (agree e.left p) M p im (agree_itself e.left p)))

none_own : (M : Rows) (m : Row) → is_in [] m ≡ true → has M m ≡ true
none_own M m i = absurd (true≢false (sym i))

-- the set of the rows near the new ones
pub near_enough : (T : List Edge) (M L near : Rows) (list : List Row) → MeetsTree M T
    → list ≡ flat_map (λ p. near_from T M p []) (set.items L) → near ≡ set.from_list list → HasChanged T M L near
near_enough T M L near list meets all is =
    let f = λ (p : Row). near_from T M p [] in
    let in_list : (m : Row) → has near m ≡ is_in (flat_map f (set.items L)) m =
    λ m. ap (λ N. has N m) is ∙ set.contains-from_list row_total list m ∙ ap (λ rows. is_in rows m) all in
    record {
      within = λ m i.
          let w = from_flat_map same tied_row row_itself same tied_row row_itself f (set.items L) m (sym (in_list m) ∙ i) in
          own_from M w.0 T [] (none_own M) m w.2;
      changed = λ m im t.
          let w = changes_at T L m (apart_from T L m t) in
          in_list m ∙ in_flat_map same tied_row row_itself same tied_row row_itself f (set.items L) w.row m (sym (set.contains-items L w.row) ∙ w.there)
          (found_from M w.row T [] meets (none_own M) w.edge w.among m im w.left w.right);
      present = λ some m new im.
          in_list m ∙ in_flat_map same tied_row row_itself same tied_row row_itself f (set.items L) m m (sym (set.contains-items L m) ∙ new) (present_from M m T some im);
    }

-- rows of the relation that have the changed ones have no others that are changed
pub changed_among : (T : List Edge) (M L N : Rows) → HasChanged T M L N → those (is_changed T L) N ≡ those (is_changed T L) M
changed_among T M L N h = same_rel _ _
    (λ m i. let w = from_those (is_changed T L) N m i in in_those (is_changed T L) M m (h.within m w.0) w.1)
    (λ m i. let w = from_those (is_changed T L) M m i in in_those (is_changed T L) N m (h.changed m w.0 w.1) w.1)

-- the new rows that are not among them are those that the relation lacks
pub new_among : (T : List Edge) (M L N : Rows) → HasChanged T M L N → length T ≢ 0 → minus L N ≡ minus L M
new_among T M L N h some = same_rel _ _
    (λ m i. let w = from_minus L N m i in in_minus L M m w.0 (false_from_ne_true _ (λ im. absurd_false _ (h.present some m w.0 im) w.1)))
    (λ m i. let w = from_minus L M m i in in_minus L N m w.0 (false_from_ne_true _ (λ k. absurd_false _ (h.within m k) w.1)))

-- ---- how many looks

-- so many for each new row and each edge
pub turned : (n P t : ℕ) → n * t * P ≡ n * P * t
turned n P t = mul_right_comm n t P
