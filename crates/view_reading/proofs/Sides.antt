-- A test that is made on the rows of the sides of a join, before they are joined.
use Rattle.std.proofs.Common.{◌≡◌, ◌∙◌, Bool, ap, cond, inl, inr, refl, subst, sym, true, false, ◌||◌}
use Rattle.plain_values.proofs.Common.{and_from, cases_Bool, false≢true, or_cases, Row}
use Rattle.plain_values.specs.SortedSet as set
use Rattle.lens_specs.specs.Common.{Names, Rows, has, those, agree, paste, natural}
use Rattle.fd_laws.proofs.Common.{name_total, from_those, in_join, in_those, same_rel, agree_at, agree_back, agree_from, from_join, agree-paste, at-paste_in, at-paste_out}
use Rattle.lens_laws.specs.Shapes.{Sees}

-- a pair has what its left row has, since both rows have the same in the shared columns
agree-left : (U V : Names) (m n : Row) → agree (set.intersection U V) m n ≡ true → agree U m (paste m V n) ≡ true
agree-left U V m n same = agree_from U m (paste m V n) (λ c i. elim (cases_Bool (set.contains V c)) [
  | inl t ↦ agree_at (set.intersection U V) m n same c (set.contains-intersection name_total U V c ∙ and_from _ _ i t) ∙ sym (at-paste_in m V n c t)
  | inr f ↦ sym (at-paste_out m V n c f)
])

module _ (p : Row → Bool) where
  -- the rows of a side that are tested, or all of them
  abbrev tested : Bool → Rows → Rows
  tested is M = cond is (those p M) M

  pub was_there : (is : Bool) (M : Rows) (r : Row) → has (tested is M) r ≡ true → has M r ≡ true
  was_there true M r h = (from_those p M r h).0
  was_there false M r h = h

  stays : (is : Bool) (M : Rows) (r : Row) → has M r ≡ true → (is ≡ true → p r ≡ true) → has (tested is M) r ≡ true
  stays true M r h passes = in_those p M r h (passes refl)
  stays false M r h passes = h

  -- the pairs that pass are the same where a side whose columns decide the test is tested first
  pub tested_first : (U V : Names) (M N : Rows) (left right : Bool) → (left ≡ true → Sees p U) → (right ≡ true → Sees p V)
      → those p (natural U V (tested left M) (tested right N)) ≡ those p (natural U V M N)
  tested_first U V M N left right sees_left sees_right =
      let S = set.intersection U V in
      same_rel _ _
      (λ q i. let w = from_those p (natural U V (tested left M) (tested right N)) q i in
      let v = from_join S V (tested left M) (tested right N) q w.0 in
      in_those p (natural U V M N) q
      (subst (λ r. has (natural U V M N) r ≡ true) (sym v.5) (in_join S V M N v.0 v.1 (was_there left M v.0 v.2) (was_there right N v.1 v.3) v.4))
      w.1)
      (λ q i. let w = from_those p (natural U V M N) q i in
      let v = from_join S V M N q w.0 in
      let pair = paste v.0 V v.1 in
      let passes : p pair ≡ true = ap p (sym v.5) ∙ w.1 in
      let mine = stays left M v.0 v.2 (λ is. sees_left is v.0 pair (agree-left U V v.0 v.1 v.4) ∙ passes) in
      let other = stays right N v.1 v.3 (λ is. sees_right is v.1 pair (agree_back V pair v.1 (agree-paste v.0 V v.1)) ∙ passes) in
      in_those p (natural U V (tested left M) (tested right N)) q
      (subst (λ r. has (natural U V (tested left M) (tested right N)) r ≡ true) (sym v.5) (in_join S V (tested left M) (tested right N) v.0 v.1 mine other v.4))
      w.1)

  passed : (is : Bool) (M : Rows) (r : Row) → is ≡ true → has (tested is M) r ≡ true → p r ≡ true
  passed true M r _ h = (from_those p M r h).1
  passed false M r is h = absurd (false≢true is)

  -- where a side is tested, each pair passes
  pub pairs_pass : (U V : Names) (M N : Rows) (left right : Bool) → (left || right) ≡ true → (left ≡ true → Sees p U) → (right ≡ true → Sees p V)
      → those p (natural U V (tested left M) (tested right N)) ≡ natural U V (tested left M) (tested right N)
  pairs_pass U V M N left right some sees_left sees_right =
      let S = set.intersection U V in
      let pairs = natural U V (tested left M) (tested right N) in
      same_rel _ _ (λ q i. (from_those p pairs q i).0)
      (λ q i. let v = from_join S V (tested left M) (tested right N) q i in
      let pair = paste v.0 V v.1 in
      let passes : p pair ≡ true = elim (or_cases left right some) [
        | inl is ↦ sym (sees_left is v.0 pair (agree-left U V v.0 v.1 v.4)) ∙ passed left M v.0 is v.2
        | inr is ↦ sym (sees_right is v.1 pair (agree_back V pair v.1 (agree-paste v.0 V v.1))) ∙ passed right N v.1 is v.3
      ] in
      in_those p pairs q i (ap p v.5 ∙ passes))
