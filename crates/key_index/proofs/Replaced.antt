-- Indexes that are gone through one after another, where one is replaced by another of the same columns.
use Rattle.std.proofs.Common.{◌≡◌, ◌+◌, ◌<◌, ◌≤◌, ℕ, List, length, set as put_at, ap, sym, ◌∙◌, subst, arith, ⊎_elim, slice_index_or}
use Rattle.plain_values.proofs.Common.{get_or-set_other, get_or-set_same, cases_lt}
use Rattle.std.proofs.lemmas.List.{length-set}
use Rattle.key_index.specs.Lists.{SameCols}
use Rattle.key_index.specs.declared.index.Index.{Index}

module _ (old now : List Index) (i : ℕ) (x : Index) (low : i < length old) (same : SameCols old now) (cols : x.cols ≡ (slice_index_or now i x).cols) where
  here : (d : Index) → slice_index_or (put_at now i x) i d ≡ x
  here d = get_or-set_same now i x d (omega (arith, low, same.many))

  before : (j : ℕ) (d : Index) → j < i → slice_index_or (put_at now i x) j d ≡ slice_index_or now j d
  before j d p = get_or-set_other now i j x d (λ e. omega (arith, p, e))

  behind : (j : ℕ) (d : Index) → i < j → slice_index_or (put_at now i x) j d ≡ slice_index_or now j d
  behind j d p = get_or-set_other now i j x d (λ e. omega (arith, p, e))

  pub same_more : SameCols old (put_at now i x)
  same_more = record {
    many = length-set now i x ∙ same.many;
    each = λ j d e within. ⊎_elim (λ p. ap (λ y. y.cols) (before j d p) ∙ same.each j d e within)
        (λ p. ⊎_elim (λ q. ap (λ y. y.cols) (behind j d q) ∙ same.each j d e within)
        (λ q. (let is : i ≡ j = omega (arith, p, q) in
        subst (λ n. (slice_index_or (put_at now i x) n d).cols ≡ (slice_index_or old n e).cols) is (ap (λ y. y.cols) (here d) ∙ cols ∙ same.each i x e low)))
        (cases_lt i j)) (cases_lt j i);
  }

  -- what held of the first ones holds of one more
  pub done_more : (P : ℕ → Index → Index → Type 0) → ((j : ℕ) (d e : Index) → j < i → P j (slice_index_or old j d) (slice_index_or now j e))
      → ((d : Index) → P i (slice_index_or old i d) x) → (j : ℕ) (d e : Index) → j < i + 1 → P j (slice_index_or old j d) (slice_index_or (put_at now i x) j e)
  done_more P done this j d e below = ⊎_elim (λ p. subst (P j (slice_index_or old j d)) (sym (before j e p)) (done j d e p))
      (λ p. (let is : i ≡ j = omega (arith, p, below) in
      subst (λ n. P n (slice_index_or old n d) (slice_index_or (put_at now i x) n e)) is (subst (P i (slice_index_or old i d)) (sym (here e)) (this d)))) (cases_lt j i)

  -- and the others stay
  pub left_more : ((j : ℕ) (d e : Index) → i ≤ j → j < length old → slice_index_or now j e ≡ slice_index_or old j d)
      → (j : ℕ) (d e : Index) → i + 1 ≤ j → j < length old → slice_index_or (put_at now i x) j e ≡ slice_index_or old j d
  left_more left j d e above within = behind j e (omega (arith, above)) ∙ left j d e (omega (arith, above)) within
