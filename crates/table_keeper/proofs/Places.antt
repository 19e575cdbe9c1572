-- What a search by name finds in tables in rising order of names.
use Rattle.std.proofs.Common.{◌≡◌, ℕ, ◌<◌, ◌≤◌, zero, suc, arith, List, [], ◌∷◌, length, get_or, refl, sym, ap, subst, Result, Ok, Err, is_ok}
use Rattle.plain_values.proofs.Common.{insert, IsStrictlySortedBy, IsSearchInRange, IsBinarySearchResult, IsNonDecreasingBy, ordering_index, Less, Equal, Greater, bytes_cmp}
use Rattle.lens_specs.specs.Relation.{Name}
use Rattle.row_sets.proofs.Places.{searched, put_rises}
use Rattle.table_keeper.specs.Changes.{names_of}
use Rattle.table_keeper.specs.Places.{Rise, is_named}
use Rattle.table_keeper.specs.declared.keeper.KeptTable.{KeptTable}
use Rattle.table_keeper.proofs.ByName.{name_total, length_names}

at_names : (P : Name → Type 0) (ts : List KeptTable) (i : ℕ) → i < length ts → ((d : KeptTable) → P (get_or ts i d).table) → (n : Name) → P (get_or (names_of ts) i n)
at_names P [] i l h n = absurd (omega arith)
at_names P (t ∷ ts) zero l h n = h t
at_names P (t ∷ ts) (suc i) l h n = at_names P ts i (omega arith) h n

name_at : (ts : List KeptTable) (i : ℕ) (d : KeptTable) → get_or (names_of ts) i d.table ≡ (get_or ts i d).table
name_at [] i d = refl
name_at (t ∷ ts) zero d = refl
name_at (t ∷ ts) (suc i) d = name_at ts i d

rank_rises : (ts : List KeptTable) (q : Name) → IsNonDecreasingBy (λ n. ordering_index (bytes_cmp n q)) (names_of ts) → IsNonDecreasingBy (λ t. ordering_index (bytes_cmp t.table q)) ts
rank_rises ts q h i j d a l =
    let here : ordering_index (bytes_cmp (get_or (names_of ts) i d.table) q) ≡ ordering_index (bytes_cmp (get_or ts i d).table q) = ap (λ n. ordering_index (bytes_cmp n q)) (name_at ts i d) in
    let there : ordering_index (bytes_cmp (get_or (names_of ts) j d.table) q) ≡ ordering_index (bytes_cmp (get_or ts j d).table q) = ap (λ n. ordering_index (bytes_cmp n q)) (name_at ts j d) in
    let rise : ordering_index (bytes_cmp (get_or (names_of ts) i d.table) q) ≤ ordering_index (bytes_cmp (get_or (names_of ts) j d.table) q) = h i j d.table a (omega (arith, length_names ts)) in
    omega arith

-- a search of the tables by name is one of the names
pub by_name : (ts : List KeptTable) (q : Name) (r : Result ℕ ℕ) → IsSearchInRange r (length ts) → IsBinarySearchResult (λ t. bytes_cmp t.table q) ts r → IsBinarySearchResult (λ n. bytes_cmp n q) (names_of ts) r
by_name ts q (Ok i) l h = at_names (λ n. bytes_cmp n q ≡ Equal) ts i l h
by_name ts q (Err i) l h = λ rise. let p = h (rank_rises ts q rise) in (
  (λ k n a b. at_names (λ n. bytes_cmp n q ≡ Less) ts k (omega arith) (λ d. p.0 k d a b) n),
  (λ k n a b. at_names (λ n. bytes_cmp n q ≡ Greater) ts k (omega (arith, length_names ts)) (λ d. p.1 k d a (omega (arith, length_names ts))) n),
)

in_names : (ts : List KeptTable) (r : Result ℕ ℕ) → IsSearchInRange r (length ts) → IsSearchInRange r (length (names_of ts))
in_names ts r l = subst (IsSearchInRange r) (sym (length_names ts)) l

-- it is found where its name is
pub found_is : (ts : List KeptTable) (q : Name) (r : Result ℕ ℕ) → Rise ts → IsSearchInRange r (length ts) → IsBinarySearchResult (λ n. bytes_cmp n q) (names_of ts) r → is_ok r ≡ is_named (names_of ts) q
found_is ts q r s l h = searched name_total (names_of ts) q r s (in_names ts r l) h

-- a new name in its place keeps the order
pub gap_rises : (ts : List KeptTable) (q : Name) (i : ℕ) → Rise ts → i ≤ length ts → IsBinarySearchResult (λ n. bytes_cmp n q) (names_of ts) (Err i) → IsStrictlySortedBy bytes_cmp (insert (names_of ts) i q)
gap_rises ts q i s l h = put_rises name_total (names_of ts) q i s (in_names ts (Err i) l) h
