-- The rows near the new ones, edge by edge: they are enough too.
use Rattle.std.proofs.Common.{◌≡◌, ◌≢◌, ℕ, ◌+◌, ◌<◌, length, get_or, drop, List, [], ◌∷◌, refl, sym, ap, ◌∙◌, true, false, inl, inr, Option, Some, None, not}
use Rattle.plain_values.proofs.Common.{cases_Bool, true≢false, drop_more, row_cmp, Row, absurd_false}
use Rattle.plain_values.specs.SortedSet as set
use Rattle.lens_specs.specs.Common.{Edge, Meets, MeetsTree, Rows, first_row, has, union, agree}
use Rattle.lens_laws.proofs.Common.{found, found_each, is_changed, touched, from_found_each, in_found_each}
use Rattle.lens_laws.proofs.Deltas.{in_touched, from_found}
use Rattle.fd_laws.proofs.Common.{Among, from_those, from_union, in_those, in_union_left, in_union_right, agree_back, agree_itself, agree_on, first_some}
use Rattle.revision.specs.Near.{HasChanged, agrees_with, is_like_first, near_through, unlike}
use Rattle.revision.proofs.Near.{apart_from, changes_at}

-- ---- that they are enough

in_found : (T : List Edge) (M L : Rows) (m : Row) → has M m ≡ true → is_changed T L m ≡ true → has (found T M L) m ≡ true
unfolding touched
in_found T M L m im t = (from_those (is_changed T L) (found T M L) m (in_touched T M L m im (apart_from T L m t))).0

found_present : (T : List Edge) (M L : Rows) → length T ≢ 0 → (m : Row) → has L m ≡ true → has M m ≡ true → has (found T M L) m ≡ true
unfolding found
found_present [] M L some m new im = absurd (some refl)
found_present (e ∷ es) M L some m new im = in_union_left _ _ m (in_found_each e.left M (set.items L) m m (sym (set.contains-items L m) ∙ new) im (agree_itself e.left m))

pub found_enough : (T : List Edge) (M L near : Rows) → near ≡ found T M L → HasChanged T M L near
found_enough T M L near is = record {
  within = λ m i. from_found T M L m (ap (λ N. has N m) (sym is) ∙ i);
  changed = λ m im t. ap (λ N. has N m) is ∙ in_found T M L m im t;
  present = λ some m new im. ap (λ N. has N m) is ∙ found_present T M L some m new im;
}

-- ---- the rows near the new ones, through the edges in turn

-- those of one edge more
pub through_more : (T : List Edge) (i : ℕ) (e : Edge) (M L N some all : Rows) → i < length T → e ≡ get_or T i e
    → some ≡ found_each e.left M (set.items (unlike e N L)) → all ≡ union N some → near_through (drop (i + 1) T) M L all ≡ near_through (drop i T) M L N
unfolding near_through
through_more T i e M L N some all below here is both =
    ap (near_through (drop (i + 1) T) M L) (both ∙ ap (union N) is)
    ∙ ap (λ es. near_through es M L N) (ap (λ k. k ∷ drop (i + 1) T) here ∙ sym (drop_more T i e below))

-- those of all edges
pub through_all : (T : List Edge) (M L N : Rows) → T ≡ [] → N ≡ near_through T M L N
unfolding near_through
through_all T M L N none = sym (ap (λ es. near_through es M L N) none)

module _ (M L : Rows) where
  stays_through : (es : List Edge) (N : Rows) (m : Row) → has N m ≡ true → has (near_through es M L N) m ≡ true
  unfolding near_through
  stays_through [] N m i = i
  stays_through (e ∷ es) N m i = stays_through es _ m (in_union_left N _ m i)

  -- each is a row of the relation
  abbrev Own : Rows → Type 0
  Own N = (m : Row) → has N m ≡ true → has M m ≡ true

  own_more : (e : Edge) (N : Rows) → Own N → Own (union N (found_each e.left M (set.items (unlike e N L))))
  own_more e N own m i = elim (from_union N _ m i) [
    | inl j ↦ own m j
    | inr j ↦ from_found_each e.left M (set.items (unlike e N L)) m j
  ]

  own_through : (es : List Edge) (N : Rows) → Own N → Own (near_through es M L N)
  unfolding near_through
  own_through [] N own = own
  own_through (e ∷ es) N own = own_through es _ (own_more e N own)

  -- where a near row is like p at the edge, each row that agrees with p on the left side agrees with it on the right side
  like_alike : (e : Edge) (N : Rows) → Meets M e.left e.right → Own N → (m p : Row) → has M m ≡ true → agree e.left m p ≡ true
      → (o : Option Row) → first_row (agree e.left p) N ≡ o → agrees_with e.right p o ≡ true → agree e.right m p ≡ true
  like_alike e N meets own m p im left None is like = absurd (true≢false (sym like))
  like_alike e N meets own m p im left (Some q) is like =
      let w = first_some (agree e.left p) N q is in
      agree_on e.right m q p (meets m q im (own q w.0) (agree_on e.left m p q left w.1)) like

  -- one that agrees with p on the left side and not on the right is found at the edge
  found_more : (e : Edge) (N : Rows) → Meets M e.left e.right → Own N → (m p : Row) → has M m ≡ true → has L p ≡ true → agree e.left m p ≡ true → agree e.right m p ≡ false
      → has (union N (found_each e.left M (set.items (unlike e N L)))) m ≡ true
  found_more e N meets own m p im ip left right = elim (cases_Bool (is_like_first e N p)) [
    | inl like ↦ absurd_false _ (like_alike e N meets own m p im left (first_row (agree e.left p) N) refl like) right
    | inr other ↦
        let there : has (unlike e N L) p ≡ true = in_those (λ r. not (is_like_first e N r)) L p ip (ap not other) in
        in_union_right N _ m (in_found_each e.left M (set.items (unlike e N L)) p m (sym (set.contains-items (unlike e N L) p) ∙ there) im (agree_back e.left m p left))
  ]

  found_through : (es : List Edge) (N : Rows) → MeetsTree M es → Own N → (e : Edge) → Among e es → (m p : Row) → has M m ≡ true → has L p ≡ true
      → agree e.left m p ≡ true → agree e.right m p ≡ false → has (near_through es M L N) m ≡ true
  unfolding near_through
  found_through [] N meets own e i m p im ip left right = absurd i
  found_through (k ∷ ks) N meets own e i m p im ip left right = elim i [
    | inl is ↦ stays_through ks _ m (found_more k N meets.0 own m p im ip
        (ap (λ z. agree z.left m p) (sym is) ∙ left) (ap (λ z. agree z.right m p) (sym is) ∙ right))
    | inr j ↦ found_through ks _ meets.1 (own_more k N own) e j m p im ip left right
  ]

-- of no rows none is like another
none_like : (e : Edge) (p : Row) (o : Option Row) → first_row (agree e.left p) set.empty ≡ o → agrees_with e.right p o ≡ false
none_like e p None is = refl
none_like e p (Some q) is = absurd (true≢false (sym (first_some (agree e.left p) set.empty q is).0 ∙ set.contains-empty row_cmp q))

through_present : (T : List Edge) (M L : Rows) → length T ≢ 0 → (m : Row) → has L m ≡ true → has M m ≡ true → has (near_through T M L set.empty) m ≡ true
unfolding near_through
through_present [] M L some m new im = absurd (some refl)
through_present (e ∷ es) M L some m new im =
    let there : has (unlike e set.empty L) m ≡ true = in_those (λ r. not (is_like_first e set.empty r)) L m new (ap not (none_like e m (first_row (agree e.left m) set.empty) refl)) in
    stays_through M L es _ m
    (in_union_right set.empty _ m (in_found_each e.left M (set.items (unlike e set.empty L)) m m (sym (set.contains-items (unlike e set.empty L) m) ∙ there) im (agree_itself e.left m)))

pub through_enough : (T : List Edge) (M L near : Rows) → MeetsTree M T → near ≡ near_through T M L set.empty → HasChanged T M L near
through_enough T M L near meets is =
    let none : (m : Row) → has set.empty m ≡ true → has M m ≡ true = λ m i. absurd (true≢false (sym i ∙ set.contains-empty row_cmp m)) in
    record {
      within = λ m i. own_through M L T set.empty none m (ap (λ N. has N m) (sym is) ∙ i);
      changed = λ m im t.
          let w = changes_at T L m (apart_from T L m t) in
          ap (λ N. has N m) is ∙ found_through M L T set.empty meets none w.edge w.among m w.row im w.there w.left w.right;
      present = λ some m new im. ap (λ N. has N m) is ∙ through_present T M L some m new im;
    }
