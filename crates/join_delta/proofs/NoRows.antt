-- What sets without rows leave as it was.
use Rattle.std.proofs.Common.{◌≡◌, List, [], ◌∷◌, length, refl, sym, ap, ◌∙◌, false, true, inl, inr, arith}
use Rattle.plain_values.proofs.Common.{list_any, eq_by_cmp, and_parts, cases_Bool, eqb-true, row_cmp, Row, absurd_false}
use Rattle.plain_values.specs.SortedSet as set
use Rattle.lens_specs.specs.Common.{Delta, is_empty, new_view, Edge, MeetsTree, Names, Rows, has, minus, union, revise, revise_row}
use Rattle.lens_laws.proofs.Common.{found_each, merge_delta, touched, from_touched}
use Rattle.fd_laws.proofs.Common.{from_minus, from_union, in_minus, in_union_left, in_union_right, same_rel, from_revise, revise_own}

none_listed : (rows : List Row) (r : Row) → length rows ≡ 0 → list_any (eq_by_cmp row_cmp r) rows ≡ false
none_listed [] r none = refl
none_listed (x ∷ xs) r none = absurd (omega arith)

pub has_none : (M : Rows) (r : Row) → length (set.items M) ≡ 0 → has M r ≡ false
has_none M r none = set.contains-items M r ∙ none_listed (set.items M) r none

pub minus_none : (M N : Rows) → length (set.items N) ≡ 0 → minus M N ≡ M
minus_none M N none = same_rel _ M (λ r i. (from_minus M N r i).0) (λ r i. in_minus M N r i (has_none N r none))

pub union_none : (M N : Rows) → length (set.items N) ≡ 0 → union M N ≡ M
union_none M N none = same_rel _ M
    (λ r i. elim (from_union M N r i) [ inl j ↦ j | inr j ↦ absurd_false _ j (has_none N r none) ])
    (λ r i. in_union_left M N r i)

-- a change without rows leaves each row
pub unchanged : (M : Rows) (d : Delta) → is_empty d ≡ true → new_view M d ≡ M
unfolding new_view
unchanged M d none =
    let w = and_parts _ _ none in
    union_none (minus M d.remove) d.add (eqb-true _ _ w.1) ∙ minus_none M d.remove (eqb-true _ _ w.0)

-- a merge that revises no row adds those that are not there
none_touched : (F : List Edge) (M A gone new : Rows) → ((m : Row) → has (touched F M A) m ≡ true → ⊥) → new ≡ minus A M → gone ≡ set.empty
    → ◌≡◌ {A = Delta} (record { remove = gone; add = new }) (merge_delta F M A)
unfolding merge_delta
none_touched F M A gone new same rest is =
    let removed : gone ≡ touched F M A = is ∙ same_rel _ _ (λ r i. absurd_false _ i (set.contains-empty _ r)) (λ r i. absurd (same r i)) in
    let added : new ≡ union (revise F (touched F M A) A) (minus A M) = rest ∙ same_rel _ _
    (λ r i. in_union_right _ (minus A M) r i)
    (λ r i. elim (from_union _ (minus A M) r i) [
      | inl j ↦ let w = from_revise F (touched F M A) A r j in absurd (same w.0 w.1)
      | inr j ↦ j
    ]) in
    λ i. record { remove = removed i; add = added i }

-- a merge with rows that are all there changes nothing
pub nothing_new : (F : List Edge) (M A gone new : Rows) → MeetsTree M F → new ≡ minus A M → length (set.items new) ≡ 0 → gone ≡ set.empty
    → ◌≡◌ {A = Delta} (record { remove = gone; add = new }) (merge_delta F M A)
nothing_new F M A gone new meets rest none is =
    let lacks : (a : Row) → has (minus A M) a ≡ false = λ a. ap (λ N. has N a) (sym rest) ∙ has_none new a none in
    let there : (a : Row) → has A a ≡ true → has M a ≡ true = λ a i. elim (cases_Bool (has M a)) [
      | inl t ↦ t
      | inr f ↦ absurd_false _ (in_minus A M a i f) (lacks a)
    ] in
    none_touched F M A gone new (λ m i. let w = from_touched F M A m i in w.1 (revise_own F M A m meets there w.0)) rest is

-- and so does one with no rows in place of them
pub all_there : (F : List Edge) (M A gone new : Rows) → MeetsTree M F → ((a : Row) → has A a ≡ true → has M a ≡ true) → new ≡ set.empty → gone ≡ set.empty
    → ◌≡◌ {A = Delta} (record { remove = gone; add = new }) (merge_delta F M A)
all_there F M A gone new meets there none is =
    let rest : new ≡ minus A M = none ∙ same_rel _ _ (λ r i. absurd_false _ i (set.contains-empty _ r)) (λ r i. let w = from_minus A M r i in absurd_false _ (there r w.0) w.1) in
    none_touched F M A gone new (λ m i. let w = from_touched F M A m i in w.1 (revise_own F M A m meets there w.0)) rest is

-- a merge without dependencies revises no row
pub no_edges : (F : List Edge) (M A gone new : Rows) → length F ≡ 0 → new ≡ minus A M → gone ≡ set.empty
    → ◌≡◌ {A = Delta} (record { remove = gone; add = new }) (merge_delta F M A)
unfolding revise_row
no_edges [] M A gone new none rest is = none_touched [] M A gone new (λ m i. (from_touched [] M A m i).1 refl) rest is
no_edges (e ∷ F) M A gone new none rest is = absurd (omega arith)

-- no rows, nothing found by them
pub union_found : (C : Names) (M P : Rows) (ls : List Row) → length ls ≡ 0 → union P (found_each C M ls) ≡ P
union_found C M P [] none = same_rel _ P
    (λ r i. elim (from_union P set.empty r i) [ inl j ↦ j | inr j ↦ absurd_false _ j (set.contains-empty _ r) ])
    (λ r i. in_union_left P set.empty r i)
union_found C M P (l ∷ ls) none = absurd (omega arith)
