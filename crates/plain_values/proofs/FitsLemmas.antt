-- What fits where.
use Rattle.std.proofs.Common.{◌≡◌, ℕ, List, [], ◌∷◌, sym, ap, ◌∙◌, subst, refl, Bool, true, false, cond, inl, inr, length, arith, suc, nat_eq, ◌↔◌, ◌&&◌, IsTrue, is_some, Option, Some, None}
use Rattle.std.proofs.lemmas.Bool.{cases_Bool, and_parts, and_from}
use Rattle.std.proofs.lemmas.Bool.Decides.{eqb_tells}
use Rattle.std.specs.List.{list_all, zip}
use Rattle.std.specs.List.Sorted.{IsStrictlySortedBy}
use Rattle.std.specs.Ordering.{eq_by_cmp, is_eq}
use Rattle.std.specs.Cmp.{tied_itself}
use Rattle.std.specs.Cmp.Lexicographic.{nat_list_cmp_total, pointwise, bytes_decides}
use Rattle.std.specs.FinMap as finmap
use Rattle.std.proofs.Math.Bool.{and-false}
use Rattle.plain_values.specs.Columns.{Columns, Fits, fits_at}
use Rattle.plain_values.specs.Order.{bytes_cmp}
use Rattle.plain_values.specs.Row.{pair_fits, Row}
use Rattle.plain_values.specs.SortedMap.{keys_of, keys_rise}
use Rattle.plain_values.specs.SortedSet as set
use Rattle.plain_values.specs.declared.value.Kind.{Kind}
use Rattle.plain_values.specs.declared.value.Value.{Value}
use Rattle.plain_values.proofs.ColumnsLemmas.{nothing_above}
use Rattle.plain_values.proofs.Maps.{exact}
use Rattle.plain_values.proofs.Tests.{is_tie}

-- ---- one column

-- what fits is there where the column is
pub fits_some : (o : Option Value) (k : Option Kind) → fits_at o k ≡ true → is_some o ≡ is_some k
fits_some None None h = refl
fits_some None (Some k) h = cc
fits_some (Some v) None h = cc
fits_some (Some v) (Some k) h = refl

-- nothing is where no column is
pub fits_nowhere : (o : Option Value) (k : Option Kind) → k ≡ None → fits_at o k ≡ true → o ≡ None
fits_nowhere None k e h = refl
fits_nowhere (Some v) None e h = cc
fits_nowhere (Some v) (Some k) e h = cc

-- nothing fits where no column is
pub none_fits : (o : Option Value) (k : Option Kind) → o ≡ None → k ≡ None → fits_at o k ≡ true
none_fits o k e f = λ i. fits_at (e i) (f i)

-- if a value fits in a column, an equal value fits in a column of an equal kind
pub fits_same : (o p : Option Value) (k j : Option Kind) → o ≡ p → k ≡ j → fits_at o k ≡ true → fits_at p j ≡ true
fits_same o p k j e f h = (λ i. fits_at (sym e i) (sym f i)) ∙ h

-- of two values, each in a column that it fits, the chosen one fits in the chosen column
pub fits_cond : (b : Bool) (o p : Option Value) (k j : Option Kind) → (b ≡ true → fits_at o k ≡ true) → (b ≡ false → fits_at p j ≡ true) → fits_at (cond b o p) (cond b k j) ≡ true
fits_cond true o p k j h g = h refl
fits_cond false o p k j h g = g refl

-- two values that fit in one column
pub fits_either : (b : Bool) (o p : Option Value) (k : Option Kind) → fits_at o k ≡ true → fits_at p k ≡ true → fits_at (cond b o p) k ≡ true
fits_either true o p k h g = h
fits_either false o p k h g = g

-- ---- whole rows, walked along their columns

module _ (q : List ℕ) (p : List ℕ × Value) (c : List ℕ × Kind) (o : Option Value) (k : Option Kind) where
  -- where the first pair fits, and what the others have fits, all fits
  fits_more : pair_fits p c ≡ true → fits_at o k ≡ true → fits_at (cond (eq_by_cmp bytes_cmp q p.0) (Some p.1) o) (cond (eq_by_cmp bytes_cmp q c.0) (Some c.1) k) ≡ true
  fits_more h rest =
      let w = and_parts _ _ h in
      let name : p.0 ≡ c.0 = (bytes_decides p.0 c.0).0 w.0 in
      (λ i. fits_at (cond (eq_by_cmp bytes_cmp q (name i)) (Some p.1) o) (cond (eq_by_cmp bytes_cmp q c.0) (Some c.1) k))
      ∙ fits_cond (eq_by_cmp bytes_cmp q c.0) (Some p.1) o (Some c.1) k (λ _. w.1) (λ _. rest)

-- lists of one length, compared pair by pair
pub pointwise_zip : {A B : Type 0} (R : A → B → Bool) (xs : List A) (ys : List B) → length xs ≡ length ys → pointwise R xs ys ≡ list_all (λ e. R e.0 e.1) (zip xs ys)
pointwise_zip R [] [] e = refl
pointwise_zip R [] (y ∷ ys) e = absurd (omega (arith, e))
pointwise_zip R (x ∷ xs) [] e = absurd (omega (arith, e))
pointwise_zip R (x ∷ xs) (y ∷ ys) e = ap (λ b. R x y && b) (pointwise_zip R xs ys (omega (arith, e)))

pub eqb_other : (m n : ℕ) → (m ≡ n → ⊥) → nat_eq m n ≡ false
eqb_other m n h = elim (eqb_tells m n) [
  | inl same ↦ absurd (h same.1)
  | inr other ↦ other.0
]

-- lists of two lengths are not alike
pub pointwise_apart : {A B : Type 0} (R : A → B → Bool) (xs : List A) (ys : List B) → (length xs ≡ length ys → ⊥) → pointwise R xs ys ≡ false
pointwise_apart R [] [] h = absurd (h refl)
pointwise_apart R [] (y ∷ ys) h = refl
pointwise_apart R (x ∷ xs) [] h = refl
pointwise_apart R (x ∷ xs) (y ∷ ys) h = ap (λ b. R x y && b) (pointwise_apart R xs ys (λ e. h (ap suc e))) ∙ and-false (R x y)

walked_fits : (ps : List (List ℕ × Value)) (cs : List (List ℕ × Kind)) → pointwise pair_fits ps cs ≡ true
    → (q : List ℕ) → fits_at (finmap.find bytes_cmp q ps) (finmap.find bytes_cmp q cs) ≡ true
walked_fits [] [] h q = refl
walked_fits [] (c ∷ cs) h q = cc
walked_fits (p ∷ ps) [] h q = cc
walked_fits (p ∷ ps) (c ∷ cs) h q =
    let w = and_parts (pair_fits p c) (pointwise pair_fits ps cs) h in
    fits_more q p c _ _ w.0 (walked_fits ps cs w.1 q)

itself : (q : List ℕ) → eq_by_cmp bytes_cmp q q ≡ true
itself q = ap is_eq (tied_itself nat_list_cmp_total q)

-- the first pair fits
first_fits : (p : List ℕ × Value) (c : List ℕ × Kind) (o : Option Value) (k : Option Kind) → p.0 ≡ c.0
    → fits_at (cond (eq_by_cmp bytes_cmp p.0 p.0) (Some p.1) o) (cond (eq_by_cmp bytes_cmp p.0 c.0) (Some c.1) k) ≡ true → pair_fits p c ≡ true
first_fits p c o k name h = and_from _ _ ((bytes_decides p.0 c.0).1 name)
    ((λ i. fits_at (cond (sym (itself p.0) i) (Some p.1) o) (cond (sym (ap (eq_by_cmp bytes_cmp p.0) (sym name) ∙ itself p.0) i) (Some c.1) k)) ∙ h)

module _ (p : List ℕ × Value) (ps : List (List ℕ × Value)) (c : List ℕ × Kind) (cs : List (List ℕ × Kind)) where
  rest_fits : IsStrictlySortedBy bytes_cmp (p.0 ∷ keys_of ps) → IsStrictlySortedBy bytes_cmp (c.0 ∷ keys_of cs) → p.0 ≡ c.0
      → ((q : List ℕ) → fits_at (finmap.find bytes_cmp q (p ∷ ps)) (finmap.find bytes_cmp q (c ∷ cs)) ≡ true)
      → (q : List ℕ) → fits_at (finmap.find bytes_cmp q ps) (finmap.find bytes_cmp q cs) ≡ true
  unfolding IsStrictlySortedBy
  rest_fits rise over name h q = elim (cases_Bool (eq_by_cmp bytes_cmp q p.0)) [
    | inl t ↦
        let key : q ≡ p.0 = exact q p.0 (is_tie (bytes_cmp q p.0) t) in
        none_fits _ _ (ap (λ n. finmap.find bytes_cmp n ps) key ∙ nothing_above p.0 ps rise.0) (ap (λ n. finmap.find bytes_cmp n cs) (key ∙ name) ∙ nothing_above c.0 cs over.0)
    | inr f ↦
        (λ i. fits_at (cond (sym f i) (Some p.1) (finmap.find bytes_cmp q ps)) (cond (sym (ap (eq_by_cmp bytes_cmp q) (sym name) ∙ f) i) (Some c.1) (finmap.find bytes_cmp q cs)))
        ∙ h q
  ]

fits_walked : (ps : List (List ℕ × Value)) (cs : List (List ℕ × Kind)) → keys_of ps ≡ keys_of cs → IsStrictlySortedBy bytes_cmp (keys_of ps) → IsStrictlySortedBy bytes_cmp (keys_of cs)
    → ((q : List ℕ) → fits_at (finmap.find bytes_cmp q ps) (finmap.find bytes_cmp q cs) ≡ true) → pointwise pair_fits ps cs ≡ true
unfolding IsStrictlySortedBy
fits_walked [] [] e rise over h = refl
fits_walked [] (c ∷ cs) e rise over h = cc
fits_walked (p ∷ ps) [] e rise over h = cc
fits_walked (p ∷ ps) (c ∷ cs) e rise over h =
    let name : p.0 ≡ c.0 = cc in
    let names : keys_of ps ≡ keys_of cs = cc in
    and_from _ _ (first_fits p c _ _ name (h p.0)) (fits_walked ps cs names rise.1 over.1 (rest_fits p ps c cs rise over name h))

-- a row has the names of the columns that it fits
pub fits_keys : (U : Columns) (r : Row) → Fits U r → finmap.keys r ≡ finmap.keys U
fits_keys U r fit =
    let same = set.same_set nat_list_cmp_total exact (set.from_list (finmap.keys r)) (set.from_list (finmap.keys U)) (λ c.
    set.contains-from_list nat_list_cmp_total (finmap.keys r) c ∙ sym (finmap.contains_key-keys r c) ∙ fits_some (finmap.get r c) (finmap.get U c) (fit c)
    ∙ finmap.contains_key-keys U c ∙ sym (set.contains-from_list nat_list_cmp_total (finmap.keys U) c)) in
    sym (set.items-from_list nat_list_cmp_total (finmap.keys r) (keys_rise bytes_cmp r)) ∙ ap set.items same ∙ set.items-from_list nat_list_cmp_total (finmap.keys U) (keys_rise bytes_cmp U)

fits_is : (U : Columns) (r : Row) → IsTrue (pointwise pair_fits (finmap.entries r) (finmap.entries U)) ↔ Fits U r
fits_is U r = (
  λ walked c. fits_same _ _ _ _ (sym (finmap.get-entries r c)) (sym (finmap.get-entries U c)) (walked_fits (finmap.entries r) (finmap.entries U) walked c),
  λ fit. fits_walked (finmap.entries r) (finmap.entries U) (fits_keys U r fit) (keys_rise bytes_cmp r) (keys_rise bytes_cmp U)
      (λ q. fits_same _ _ _ _ (finmap.get-entries r q) (finmap.get-entries U q) (fit q)),
)

-- a row fits the columns where the walk along both says so
pub fits_along : (U : Columns) (r : Row) (ps : List (List ℕ × Value)) (cs : List (List ℕ × Kind)) → ps ≡ finmap.entries r → cs ≡ finmap.entries U → IsTrue (pointwise pair_fits ps cs) ↔ Fits U r
fits_along U r ps cs e f = subst (λ b. IsTrue b ↔ Fits U r) (λ i. pointwise pair_fits (sym e i) (sym f i)) (fits_is U r)
