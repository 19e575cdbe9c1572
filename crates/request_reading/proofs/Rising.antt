-- Names that rise strictly, among others that do.
use Rattle.std.proofs.Common.{◌≡◌, ◌∙◌, ◌≤◌, List, [], ◌∷◌, length, ap, sym, refl, arith, Bool, true, false, ◌||◌}
use Rattle.plain_values.proofs.Common.{Ordering, Less, Equal, Greater, is_eq, ordering_reverse, nat_list_cmp_total, texts_ties, AllByRecursion, list_any, IsStrictlySortedBy, bytes_eq-Decides, bytes_cmp}
use Rattle.lens_specs.specs.Relation.{Name}
use Rattle.server_specs.specs.Common.{is_key}

-- whether the name is among these
abbrev pub is_in : List Name → Name → Bool
is_in names k = list_any (is_key k) names

-- all of the first are among the second
abbrev pub AllIn : List Name → List Name → Type 0
AllIn xs ys = AllByRecursion (λ x. is_in ys x ≡ true) xs

-- those that are not the first are among the others
all_later : (y : Name) (ys xs : List Name) → AllByRecursion (λ x. is_key x y ≡ false) xs → AllIn xs (y ∷ ys) → AllIn xs ys
all_later y ys [] apart h = tt
all_later y ys (x ∷ xs) apart h = (ap (λ b. b || is_in ys x) (sym apart.0) ∙ h.0, all_later y ys xs apart.1 h.1)

not_tied : (o : Ordering) → is_eq o ≡ true → o ≡ Less → ⊥
not_tied Less e h = cc
not_tied Equal e h = cc
not_tied Greater e h = cc

not_below : (o p : Ordering) → o ≡ ordering_reverse p → p ≡ Less → o ≡ Less → ⊥
not_below o Less e h is = cc
not_below o Equal e h is = cc
not_below o Greater e h is = cc

-- what is above x is not y, where y is not above x
none_is : (x y : Name) (xs : List Name) → (bytes_cmp x y ≡ Less → ⊥) → AllByRecursion (λ z. bytes_cmp x z ≡ Less) xs → AllByRecursion (λ z. is_key z y ≡ false) xs
none_is x y [] not_less above = tt
none_is x y (z ∷ xs) not_less above = (
  elim (is_key z y) as (λ b. is_key z y ≡ b → b ≡ false) [
    | true ↦ λ e. absurd (not_less (ap (bytes_cmp x) (sym ((bytes_eq-Decides z y).0 e)) ∙ above.0))
    | false ↦ λ e. refl
  ] refl,
  none_is x y xs not_less above.1,
)

-- what is among names above y is above y
above_all : (x y : Name) (ys : List Name) → AllByRecursion (λ z. bytes_cmp y z ≡ Less) ys → is_in ys x ≡ true → bytes_cmp y x ≡ Less
above_all x y [] above h = cc
above_all x y (z ∷ ys) above h =
    elim (is_key x z) as (λ b. is_key x z ≡ b → bytes_cmp y x ≡ Less) [
      | true ↦ λ e. ap (bytes_cmp y) ((bytes_eq-Decides x z).0 e) ∙ above.0
      | false ↦ λ e. above_all x y ys above.1 (ap (λ b. b || is_in ys x) (sym e) ∙ h)
    ] refl

-- the first is not among the others: all are
skipped : (x y : Name) (xs ys : List Name) → IsStrictlySortedBy bytes_cmp (x ∷ xs) → IsStrictlySortedBy bytes_cmp (y ∷ ys) → AllIn (x ∷ xs) (y ∷ ys) → is_key x y ≡ false → AllIn (x ∷ xs) ys
unfolding IsStrictlySortedBy
skipped x y xs ys up over h e =
    let there : is_in ys x ≡ true = ap (λ b. b || is_in ys x) (sym e) ∙ h.0 in
    let above : bytes_cmp y x ≡ Less = above_all x y ys over.0 there in
    (there, all_later y ys xs (none_is x y xs (not_below (bytes_cmp x y) (bytes_cmp y x) (nat_list_cmp_total.antisymm x y) above) up.0) h.1)

-- the first is the first: the others are among the others
matched : (x y : Name) (xs ys : List Name) → IsStrictlySortedBy bytes_cmp (x ∷ xs) → AllIn (x ∷ xs) (y ∷ ys) → is_key x y ≡ true → AllIn xs ys
unfolding IsStrictlySortedBy
matched x y xs ys up h e = all_later y ys xs (none_is x y xs (not_tied (bytes_cmp x y) (sym (texts_ties x y) ∙ e)) up.0) h.1

rest_rises : (x : Name) (xs : List Name) → IsStrictlySortedBy bytes_cmp (x ∷ xs) → IsStrictlySortedBy bytes_cmp xs
unfolding IsStrictlySortedBy
rest_rises x xs h = h.1

-- no more are among them than they are
fits : (ys xs : List Name) → IsStrictlySortedBy bytes_cmp xs → IsStrictlySortedBy bytes_cmp ys → AllIn xs ys → length xs ≤ length ys
fits ys [] up over h = omega arith
fits [] (x ∷ xs) up over h =
    let none : false ≡ true = h.0 in
    cc
fits (y ∷ ys) (x ∷ xs) up over h =
    elim (is_key x y) as (λ b. is_key x y ≡ b → length (x ∷ xs) ≤ length (y ∷ ys)) [
      | true ↦ λ e.
          let less : length xs ≤ length ys = fits ys xs (rest_rises x xs up) (rest_rises y ys over) (matched x y xs ys up h e) in
          omega (arith, less)
      | false ↦ λ e.
          let less : length (x ∷ xs) ≤ length ys = fits ys (x ∷ xs) up (rest_rises y ys over) (skipped x y xs ys up over h e) in
          omega (arith, less)
    ] refl

-- as many that are among them are all of them
pub same_names : (ys xs : List Name) → IsStrictlySortedBy bytes_cmp xs → IsStrictlySortedBy bytes_cmp ys → AllIn xs ys → length ys ≤ length xs → xs ≡ ys
same_names [] [] up over h count = refl
same_names (y ∷ ys) [] up over h count = absurd (omega (arith, count))
same_names [] (x ∷ xs) up over h count =
    let none : false ≡ true = h.0 in
    cc
same_names (y ∷ ys) (x ∷ xs) up over h count =
    elim (is_key x y) as (λ b. is_key x y ≡ b → x ∷ xs ≡ y ∷ ys) [
      | true ↦ λ e.
          let same : x ≡ y = (bytes_eq-Decides x y).0 e in
          let rest : xs ≡ ys = same_names ys xs (rest_rises x xs up) (rest_rises y ys over) (matched x y xs ys up h e) (omega (arith, count)) in
          (λ i. same i ∷ rest i)
      | false ↦ λ e.
          let less : length (x ∷ xs) ≤ length ys = fits ys (x ∷ xs) up (rest_rises y ys over) (skipped x y xs ys up over h e) in
          absurd (omega (arith, less, count))
    ] refl

in_more : (y : Name) (ys xs : List Name) → AllIn xs ys → AllIn xs (y ∷ ys)
in_more y ys [] h = tt
in_more y ys (x ∷ xs) h =
    (elim (is_key x y) as (λ b. (b || is_in ys x) ≡ true) [ true ↦ refl | false ↦ h.0 ], in_more y ys xs h.1)

-- names are among themselves
pub all_in_self : (xs : List Name) → AllIn xs xs
all_in_self [] = tt
all_in_self (x ∷ xs) = (ap (λ b. b || is_in xs x) ((bytes_eq-Decides x x).1 refl), in_more x xs xs (all_in_self xs))
