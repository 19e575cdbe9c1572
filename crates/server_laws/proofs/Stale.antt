-- The last change of a lens, and which changes are stale.
use Rattle.std.proofs.Common.{◌≡◌, ◌≤◌, true, false, ℕ, List, [], ◌∷◌, Option, Some, None, inl, inr, sym, ap, refl, ◌∙◌, arith, nat_lt, max, unwrap_or, IfSome}
use Rattle.plain_values.proofs.Common.{or_cases, or_from, or_parts, true≢false, ltb-false, eq_by_cmp, bytes_cmp, in_head, in_tail}
use Rattle.std.proofs.lemmas.Bool.{le-ltb}
use Rattle.std.specs.FinMap as finmap
use Rattle.plain_values.specs.SortedSet as set
use Rattle.fd_laws.proofs.Common.{name_itself, tied_name}
use Rattle.lens_specs.specs.Common.{Name, is_among, Lens, tables_of}
use Rattle.server_specs.specs.Common.{State, last_change, latest, changed_at, is_stale, Valid}

latest_at_least : (last : finmap.FinMap bytes_cmp ℕ) (q : Name) (ts : List Name) → is_among q ts ≡ true → last_change last q ≤ latest last ts
latest_at_least last q [] i = absurd (true≢false (sym i))
latest_at_least last q (t ∷ ts) i = elim (or_cases (eq_by_cmp bytes_cmp q t) (is_among q ts) i) [
  | inl is ↦ let e : last_change last q ≡ last_change last t = ap (last_change last) (tied_name q t is) in omega arith
  | inr j ↦ let h = latest_at_least last q ts j in omega arith
]

pub last_is_greatest : (s : State) (L : Lens) (q : Name) → set.contains (tables_of L) q ≡ true → last_change s.last q ≤ changed_at s L
last_is_greatest s L q i = latest_at_least s.last q (set.items (tables_of L)) (sym (set.contains-items (tables_of L) q) ∙ i)

-- where the tables have the same last changes, so have the lists of them
pub latest_same : (m n : finmap.FinMap bytes_cmp ℕ) (ts : List Name) → ((q : Name) → is_among q ts ≡ true → finmap.get m q ≡ finmap.get n q) → latest m ts ≡ latest n ts
latest_same m n [] h = refl
latest_same m n (t ∷ ts) h =
    let here : last_change m t ≡ last_change n t = ap (λ o. unwrap_or o 0) (h t (in_head (eq_by_cmp bytes_cmp) tied_name name_itself t ts)) in
    ap (λ v. max v (latest m ts)) here ∙ ap (max (last_change n t)) (latest_same m n ts (λ q i. h q (in_tail (eq_by_cmp bytes_cmp) tied_name name_itself q t ts i)))

-- what is not stale rests on a version no earlier than the last change
pub not_after : (t : State) (L : Lens) (v : ℕ) → is_stale t L (Some v) ≡ false → changed_at t L ≤ v
not_after t L v h = ltb-false v (changed_at t L) (or_parts (nat_lt v (changed_at t L)) (nat_lt t.version v) h).0

-- ---- the present version

past_change : (o : Option ℕ) (v : ℕ) → IfSome o (λ version. version ≤ v) → unwrap_or o 0 ≤ v
past_change None v h = omega arith
past_change (Some w) v h = h

latest_past : (last : finmap.FinMap bytes_cmp ℕ) (v : ℕ) → ((q : Name) → IfSome (finmap.get last q) (λ version. version ≤ v)) → (ts : List Name) → latest last ts ≤ v
latest_past last v past [] = omega arith
latest_past last v past (t ∷ ts) =
    let here = past_change (finmap.get last t) v (past t) in
    let rest = latest_past last v past ts in
    omega arith

pub present_fresh : (s : State) → Valid s → (L : Lens) → is_stale s L (Some s.version) ≡ false
present_fresh s v L =
    let no_later = latest_past s.last s.version v.versions (set.items (tables_of L)) in
    or_from (nat_lt s.version (changed_at s L)) (nat_lt s.version s.version) (le-ltb s.version (changed_at s L) no_later) (le-ltb s.version s.version (omega arith))
