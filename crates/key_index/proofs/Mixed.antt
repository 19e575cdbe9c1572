-- Indexes of which some have a row and the others do not.
use Rattle.std.proofs.Common.{◌≡◌, ◌<◌, ◌≤◌, ℕ, List, [], ◌∷◌, length, set as put_at, sym, subst, arith, zero, suc, ◌⊎◌, ⊎_elim, inl, inr, slice_index_or, Result, Ok, Err, OnErr}
use Rattle.plain_values.proofs.Common.{cases_lt, Row}
use Rattle.plain_values.specs.SortedSet as set
use Rattle.lens_specs.specs.Common.{Rows}
use Rattle.key_index.specs.Index.{group_at, IsIndexOf, IsPut}
use Rattle.key_index.specs.Key.{Cells}
use Rattle.key_index.specs.Lists.{IsMixed, IsTableOf, SameCols, HasKeys}
use Rattle.key_index.specs.declared.index.Index.{Index}
use Rattle.key_index.specs.declared.keyed.Keyed.{Keyed}
use Rattle.key_index.proofs.Put.{index_put, index_same}

-- the first i indexes were put into
pub half_put : (rows : Rows) (keyed : Keyed) (old now : List Index) (i : ℕ) → HasKeys old keyed → SameCols old now
    → ((j : ℕ) (d e : Index) (k : Cells) → j < i → IsPut (slice_index_or keyed.keys.items j k) keyed.row (slice_index_or old j d) (slice_index_or now j e))
    → ((j : ℕ) (d e : Index) → i ≤ j → j < length old → slice_index_or now j e ≡ slice_index_or old j d)
    → IsTableOf rows old → IsMixed rows keyed.row now
half_put rows keyed old now i keys same done left was j d within =
    let inside : j < length old = omega (arith, same.many) in
    ⊎_elim
    (λ p. inr (index_put rows keyed.row (slice_index_or old j d) (slice_index_or now j d) (same.each j d d inside)
    (subst (λ key. IsPut key keyed.row (slice_index_or old j d) (slice_index_or now j d)) (keys.each j d [] inside) (done j d d [] p)) (was j d inside)))
    (λ p. inl (subst (IsIndexOf rows) (sym (left j d d p inside)) (was j d inside)))
    (cases_lt j i)

-- one index was written over by one of the same groups
pub set_mixed : (rows : Rows) (row : Row) (now : List Index) (i : ℕ) (x : Index) → x.cols ≡ (slice_index_or now i x).cols
    → ((q : Cells) → group_at x q ≡ group_at (slice_index_or now i x) q) → IsMixed rows row now → IsMixed rows row (put_at now i x)
set_mixed rows row [] i x cols same mixed j d within = absurd (omega arith)
set_mixed rows row (y ∷ ys) zero x cols same mixed zero d within =
    ⊎_elim (λ is. inl (index_same rows y x cols same is)) (λ is. inr (index_same (set.insert rows row) y x cols same is)) (mixed 0 d (omega arith))
set_mixed rows row (y ∷ ys) zero x cols same mixed (suc j) d within = mixed (suc j) d (omega arith)
set_mixed rows row (y ∷ ys) (suc i) x cols same mixed zero d within = mixed 0 d (omega arith)
set_mixed rows row (y ∷ ys) (suc i) x cols same mixed (suc j) d within =
    set_mixed rows row ys i x cols same (λ n e inside. mixed (suc n) e (omega arith)) j d (omega arith)

pub on_err_of : {T E P : Type 0} (r : Result T E) → P → OnErr r P
on_err_of (Ok x) p = tt
on_err_of (Err e) p = p
