-- When no name is left to take up, the names are the closure.
use Rattle.std.proofs.Common.{◌≡◌, ℕ, zero, suc, ◌+◌, ◌<◌, ◌≤◌, Bool, true, false, List, [], ◌∷◌, ◌++◌, length, get_or, take, refl, sym, ap, ◌∙◌, subst, inl, inr, nat_eq, arith, ◌≢◌, ◌&&◌, filter, not}
use Rattle.plain_values.proofs.Common.{count_by, list_any, eq_by_cmp, is_eq, eqb-true, eq-eqb, false≢true, or_cases, or_left, or_right, get_or_default, length-take, take-take, take_more, list_any_at, bytes_cmp, in_head, same_bool}
use Rattle.plain_values.specs.SortedSet as set
use Rattle.fd_laws.proofs.Common.{closure_is, name_exact, name_itself, name_total, tied_name}
use Rattle.lens_specs.specs.Common.{Name, Names, Within, is_among, AllEdges, Edge, closure, IsClosed}
use Rattle.fd_closure.specs.Arrival.{AllIn, HaveAll, IsOnce}
use Rattle.fd_closure.specs.Entries.{Entry, entries_from}
use Rattle.fd_closure.specs.Lacks.{uses}
use Rattle.fd_closure.specs.Sides.{IsFull}
use Rattle.fd_closure.proofs.Counting.{lacking, lacks_less, unseen, unseen_less}
use Rattle.fd_closure.proofs.Counts.{count_none, none_counted}
use Rattle.fd_closure.proofs.Indexes.{entry_itself, from_entries, in_entries, same_entry, tied_entry}

edges_from : (P : Edge → Type 0) (F : List Edge) → ((d : ℕ) (e : Edge) → d < length F → P (get_or F d e)) → AllEdges P F
edges_from P [] h = tt
edges_from P (e ∷ es) h = (h 0 e (omega arith), edges_from P es (λ d k l. h (suc d) k (omega arith)))

edge_at : (P : Edge → Type 0) (F : List Edge) → AllEdges P F → (d : ℕ) (e : Edge) → d < length F → P (get_or F d e)
edge_at P [] h d e l = absurd (omega arith)
edge_at P (x ∷ xs) h zero e l = h.0
edge_at P (x ∷ xs) h (suc d) e l = edge_at P xs h.1 d e (omega arith)

some_name : (ns : List Name) → length ns ≢ 0 → (c : Name) × (is_among c ns ≡ true)
some_name [] ne = absurd (ne refl)
some_name (n ∷ ns) ne = (n, in_head (eq_by_cmp bytes_cmp) tied_name name_itself n ns)

here_and : (b a : Bool) → b ≡ true → (b && not a) ≡ false → a ≡ true
here_and true true h e = refl
here_and true false h e = cc
here_and false a h e = cc

not_lacking : (b a : Bool) → (b ≡ true → a ≡ true) → (b && not a) ≡ false
not_lacking true a h = ap not (h refl)
not_lacking false a h = refl

module _ (F : List Edge) (index : List Entry) (members : (e : Entry) → list_any (same_entry e) index ≡ list_any (same_entry e) (entries_from 0 F)) where
  -- an edge that lacks nothing has its left side among the names
  pub left_there : (ns : List Name) (d : ℕ) (e : Edge) → d < length F → count_by (lacking ns d) index ≡ 0 → HaveAll ns (get_or F d e).left
  left_there ns d e l z c i =
      let there : list_any (same_entry (c, d)) index ≡ true = members (c, d) ∙ in_entries F 0 d d e c (omega arith) l i in
      here_and (nat_eq d d) (is_among c ns) (eq-eqb d d refl) (count_none same_entry tied_entry entry_itself (lacking ns d) index z (c, d) there)

  -- and the other way round
  lacks_none : (ns : List Name) (d : ℕ) → ((e : Edge) → HaveAll ns (get_or F d e).left) → count_by (lacking ns d) index ≡ 0
  lacks_none ns d all = none_counted same_entry tied_entry entry_itself (lacking ns d) index (λ x i.
      let w = from_entries F 0 x (sym (members x) ∙ i) in
      not_lacking (nat_eq x.1 d) (is_among x.0 ns) (λ t.
      let place : x.1 ≡ d = eqb-true x.1 d t in
      let same : w.0 ≡ d = omega (arith, w.2) in
      let e : Edge = record { left = set.empty; right = set.empty } in
      all e x.0 (ap (λ q. set.contains (get_or F q e).left x.0) (sym same) ∙ w.3 e)))

  -- at first each edge lacks something
  pub lacks_some : (d : ℕ) (e : Edge) → d < length F → IsFull (get_or F d e) → count_by (lacking [] d) index ≢ 0
  lacks_some d e l full z =
      let w = some_name (set.items (get_or F d e).left) full.0 in
      false≢true (left_there [] d e l z w.0 (set.contains-items (get_or F d e).left w.0 ∙ w.1))

  -- the right side of an edge that lacks nothing lies in the closure
  pub right_within : (X : Names) (ns : List Name) (d : ℕ) (e : Edge) → d < length F → AllIn ns (closure X F) → count_by (lacking ns d) index ≡ 0 → Within (get_or F d e).right (closure X F)
  right_within X ns d e l inside z =
      edge_at (λ k. Within k.left (closure X F) → Within k.right (closure X F)) F (closure_is X F).closed d e l (λ c i. inside c (left_there ns d e l z c i))

  -- names that have X, lie in the closure, and have the right side of each edge that lacks nothing
  pub finished : (X : Names) (ns : List Name) → HaveAll ns X → AllIn ns (closure X F)
      → ((d : ℕ) (e : Edge) → d < length F → count_by (lacking ns d) index ≡ 0 → HaveAll ns (get_or F d e).right) → set.from_list ns ≡ closure X F
  finished X ns given inside ready =
      let D = set.from_list {R = bytes_cmp} ns in
      let has : (c : Name) → set.contains D c ≡ is_among c ns = set.contains-from_list name_total ns in
      let closed : IsClosed D F = edges_from (λ k. Within k.left D → Within k.right D) F
      (λ d e l w c i. has c ∙ ready d e l (lacks_none ns d (λ k c i. sym (has c) ∙ w c (ap (λ q. set.contains q.left c) (get_or_default F d e k l) ∙ i))) c i) in
      set.same_set name_total name_exact D (closure X F) (λ c. same_bool _ _
      (λ i. inside c (sym (has c) ∙ i))
      ((closure_is X F).least D (λ c i. has c ∙ given c i) closed c))

pub among_front : (ns : List Name) (k : ℕ) (c : Name) → is_among c (take k ns) ≡ true → is_among c ns ≡ true
among_front ns zero c i = absurd (false≢true i)
among_front [] (suc k) c i = i
among_front (n ∷ ns) (suc k) c i = elim (or_cases (eq_by_cmp bytes_cmp c n) (is_among c (take k ns)) i) [
  | inl t ↦ or_left (eq_by_cmp bytes_cmp c n) (is_among c ns) t
  | inr j ↦ or_right (eq_by_cmp bytes_cmp c n) (is_among c ns) (among_front ns k c j)
]

-- ---- the name at the place k is taken up

module _ (ns : List Name) (k : ℕ) (n : Name) (once : IsOnce ns) (l : k < length ns) (is : n ≡ get_or ns k n) where
  new_name : is_among n (take k ns) ≡ false
  new_name = ap (λ c. is_among c (take k ns)) is ∙ once k n l

  pub front_more : take (k + 1) ns ≡ take k ns ++ n ∷ []
  front_more = take_more ns k n l ∙ ap (λ c. take k ns ++ c ∷ []) (sym is)

  pub front_same : (ms : List Name) → take (length ns) ms ≡ ns → take (k + 1) ms ≡ take (k + 1) ns
  front_same ms h = sym (take-take (k + 1) (length ns) ms (omega arith)) ∙ ap (take (k + 1)) h

  -- what the edge at d lacks goes down by its entries of the name
  pub counts_before : (index es : List Entry) (d m : ℕ) → es ≡ filter (λ e. is_eq (bytes_cmp e.0 n)) index → m ≡ count_by (lacking (take k ns) d) index → uses es d ≤ m
  counts_before index es d m here h =
      let less = lacks_less index (take k ns) n d new_name in
      let same : uses es d ≡ uses (filter (λ e. is_eq (bytes_cmp e.0 n)) index) d = ap (λ l. uses l d) here in
      omega arith

  pub counts_after : (index es : List Entry) (d m p : ℕ) → es ≡ filter (λ e. is_eq (bytes_cmp e.0 n)) index → m ≡ count_by (lacking (take k ns) d) index → p + uses es d ≡ m
      → p ≡ count_by (lacking (take (k + 1) ns) d) index
  counts_after index es d m p here h sum =
      let less = lacks_less index (take k ns) n d new_name in
      let same : uses es d ≡ uses (filter (λ e. is_eq (bytes_cmp e.0 n)) index) d = ap (λ l. uses l d) here in
      let after : p ≡ count_by (lacking (take k ns ++ n ∷ []) d) index = omega arith in
      after ∙ ap (λ l. count_by (lacking l d) index) (sym front_more)

  -- and one name of the set less is unseen
  pub unseen_more : (C : Names) → AllIn ns C → unseen C (take (k + 1) ns) < unseen C (take k ns)
  unseen_more C inside =
      let there : is_among n ns ≡ true = list_any_at (eq_by_cmp bytes_cmp n) ns k n l (ap (eq_by_cmp bytes_cmp n) (sym is) ∙ name_itself n) in
      subst (λ l. unseen C l < unseen C (take k ns)) (sym front_more) (unseen_less C (take k ns) n (inside n there) new_name)

pub place_in : (ns ms : List Name) (k : ℕ) → k < length ns → take (length ns) ms ≡ ns → k + 1 ≤ length ms
place_in ns ms k l h = omega (arith, ap length h, length-take (length ns) ms)
