-- Laws of lists, by a test for membership: `list_any (same x) xs` says that x stands in xs.
use Rattle.std.proofs.Common.{◌≡◌, Bool, true, false, cond, not, ◌||◌, ◌&&◌, List, [], ◌∷◌, ◌++◌, Some, None, refl, sym, ap, ◌∙◌, subst, map, ◌⊎◌, inl, inr}
use Rattle.std.proofs.lemmas.Bool.{and_parts, and_from, cases_Bool, or_cases, true≢false, false≢true, or_left, or_right}
use Rattle.std.proofs.lemmas.List.Folds.{list_any-append}
use Rattle.std.specs.List.{list_any, list_all, find, filter, flat_map}

pub absurd_false : {P : Type 0} (b : Bool) → b ≡ true → b ≡ false → P
absurd_false b t f = absurd (true≢false (sym t ∙ f))

module _ {K : Type 0} (same : K → K → Bool) (exact : (x y : K) → same x y ≡ true → x ≡ y) (itself : (x : K) → same x x ≡ true) where
  abbrev pub In : K → List K → Type 0
  In x xs = list_any (same x) xs ≡ true

  pub in_head : (x : K) (xs : List K) → In x (x ∷ xs)
  in_head x xs = or_left _ _ (itself x)

  pub in_tail : (x y : K) (xs : List K) → In x xs → In x (y ∷ xs)
  in_tail x y xs h = or_right _ _ h

  pub in_cons : (x y : K) (xs : List K) → In x (y ∷ xs) → (x ≡ y) ⊎ In x xs
  in_cons x y xs h = elim (or_cases _ _ h) [ inl e ↦ inl (exact x y e) | inr e ↦ inr e ]

  pub find_some : (p : K → Bool) (xs : List K) (l : K) → find p xs ≡ Some l → In l xs × (p l ≡ true)
  find_some p [] l e = cc
  find_some p (x ∷ xs) l e =
      elim (cases_Bool (p x)) [
        | inl t ↦ let is : x ≡ l = (let f : cond (p x) (Some x) (find p xs) ≡ Some l = e in let g = rw t at f in cc) in
            (subst (λ k. In k (x ∷ xs)) is (in_head x xs), subst (λ k. p k ≡ true) is t)
        | inr t ↦ let f : cond (p x) (Some x) (find p xs) ≡ Some l = e in
            let r = find_some p xs l (rw t at f) in (in_tail l x xs r.0, r.1)
      ]

  pub find_none : (p : K → Bool) (xs : List K) → find p xs ≡ None → (l : K) → In l xs → p l ≡ false
  find_none p [] e l i = cc
  find_none p (x ∷ xs) e l i =
      elim (cases_Bool (p x)) [
        | inl t ↦ let f : cond (p x) (Some x) (find p xs) ≡ None = e in let g = rw t at f in cc
        | inr t ↦ let f : cond (p x) (Some x) (find p xs) ≡ None = e in
            elim (in_cons l x xs i) [ inl is ↦ ap p is ∙ t | inr j ↦ find_none p xs (rw t at f) l j ]
      ]

  pub any_at : (p : K → Bool) (xs : List K) (x : K) → In x xs → p x ≡ true → list_any p xs ≡ true
  any_at p [] x i t = absurd (false≢true i)
  any_at p (y ∷ xs) x i t = elim (in_cons x y xs i) [
    | inl is ↦ or_left _ _ (ap p (sym is) ∙ t)
    | inr j ↦ or_right _ _ (any_at p xs x j t)
  ]

  pub any_from : (p : K → Bool) (xs : List K) → list_any p xs ≡ true → (x : K) × In x xs × (p x ≡ true)
  any_from p [] e = absurd (false≢true e)
  any_from p (y ∷ xs) e = elim (or_cases _ _ e) [
    | inl t ↦ (y, in_head y xs, t)
    | inr j ↦ let r = any_from p xs j in (r.0, in_tail r.0 y xs r.1, r.2)
  ]

  pub all_from : (p : K → Bool) (xs : List K) → ((x : K) → In x xs → p x ≡ true) → list_all p xs ≡ true
  all_from p [] h = refl
  all_from p (x ∷ xs) h = and_from _ _ (h x (in_head x xs)) (all_from p xs (λ y i. h y (in_tail y x xs i)))

  pub all_at : (p : K → Bool) (xs : List K) → list_all p xs ≡ true → (x : K) → In x xs → p x ≡ true
  all_at p [] e x i = cc
  all_at p (y ∷ xs) e x i =
      let both = and_parts (p y) (list_all p xs) e in
      elim (in_cons x y xs i) [ inl is ↦ ap p is ∙ both.0 | inr j ↦ all_at p xs both.1 x j ]

  pub in_filter : (p : K → Bool) (xs : List K) (x : K) → In x xs → p x ≡ true → In x (filter p xs)
  in_filter p [] x i t = i
  in_filter p (y ∷ xs) x i t =
      elim (p y) as (λ b. p y ≡ b → In x (cond b (y ∷ filter p xs) (filter p xs))) [
        | true ↦ λ e. elim (in_cons x y xs i) [ inl is ↦ rw (← is) (in_head x _) | inr j ↦ in_tail x y _ (in_filter p xs x j t) ]
        | false ↦ λ e. elim (in_cons x y xs i) [ inl is ↦ absurd (true≢false (sym t ∙ ap p is ∙ e)) | inr j ↦ in_filter p xs x j t ]
      ] refl

  pub from_filter : (p : K → Bool) (xs : List K) (x : K) → In x (filter p xs) → In x xs × (p x ≡ true)
  from_filter p [] x i = absurd (false≢true i)
  from_filter p (y ∷ xs) x i =
      elim (p y) as (λ b. p y ≡ b → In x (cond b (y ∷ filter p xs) (filter p xs)) → In x (y ∷ xs) × (p x ≡ true)) [
        | true ↦ λ e j. elim (in_cons x y _ j) [
          | inl is ↦ (rw (← is) (in_head x xs), ap p is ∙ e)
          | inr k ↦ let r = from_filter p xs x k in (in_tail x y xs r.0, r.1)
        ]
        | false ↦ λ e j. let r = from_filter p xs x j in (in_tail x y xs r.0, r.1)
      ] refl i

  pub in_append_left : (x : K) (xs ys : List K) → In x xs → In x (xs ++ ys)
  in_append_left x xs ys i = list_any-append (same x) xs ys ∙ or_left _ _ i

  pub in_append_right : (x : K) (xs ys : List K) → In x ys → In x (xs ++ ys)
  in_append_right x xs ys i = list_any-append (same x) xs ys ∙ or_right _ _ i

  pub from_append : (x : K) (xs ys : List K) → In x (xs ++ ys) → In x xs ⊎ In x ys
  from_append x xs ys i = or_cases _ _ (sym (list_any-append (same x) xs ys) ∙ i)

-- lists of two kinds
module _ {K L : Type 0} (same : K → K → Bool) (exact : (x y : K) → same x y ≡ true → x ≡ y) (itself : (x : K) → same x x ≡ true)
    (like : L → L → Bool) (exact' : (x y : L) → like x y ≡ true → x ≡ y) (itself' : (x : L) → like x x ≡ true) where
  pub in_map : (f : K → L) (xs : List K) (x : K) → list_any (same x) xs ≡ true → list_any (like (f x)) (map f xs) ≡ true
  in_map f [] x i = absurd (false≢true i)
  in_map f (y ∷ xs) x i =
      elim (in_cons same exact itself x y xs i) [
        | inl is ↦ or_left _ _ (ap (λ k. like (f k) (f y)) is ∙ itself' (f y))
        | inr j ↦ or_right _ _ (in_map f xs x j)
      ]

  pub from_map : (f : K → L) (xs : List K) (q : L) → list_any (like q) (map f xs) ≡ true → (x : K) × (list_any (same x) xs ≡ true) × (q ≡ f x)
  from_map f [] q i = absurd (false≢true i)
  from_map f (y ∷ xs) q i =
      elim (in_cons like exact' itself' q (f y) (map f xs) i) [
        | inl is ↦ (y, in_head same exact itself y xs, is)
        | inr j ↦ let r = from_map f xs q j in (r.0, in_tail same exact itself r.0 y xs r.1, r.2)
      ]

  pub in_flat_map : (f : K → List L) (xs : List K) (x : K) (q : L) → list_any (same x) xs ≡ true → list_any (like q) (f x) ≡ true → list_any (like q) (flat_map f xs) ≡ true
  in_flat_map f [] x q i j = absurd (false≢true i)
  in_flat_map f (y ∷ xs) x q i j =
      elim (in_cons same exact itself x y xs i) [
        | inl is ↦ in_append_left like exact' itself' q (f y) (flat_map f xs) (subst (λ k. list_any (like q) (f k) ≡ true) is j)
        | inr k ↦ in_append_right like exact' itself' q (f y) (flat_map f xs) (in_flat_map f xs x q k j)
      ]

  pub from_flat_map : (f : K → List L) (xs : List K) (q : L) → list_any (like q) (flat_map f xs) ≡ true → (x : K) × (list_any (same x) xs ≡ true) × (list_any (like q) (f x) ≡ true)
  from_flat_map f [] q i = absurd (false≢true i)
  from_flat_map f (y ∷ xs) q i =
      elim (from_append like exact' itself' q (f y) (flat_map f xs) i) [
        | inl j ↦ (y, in_head same exact itself y xs, j)
        | inr j ↦ let r = from_flat_map f xs q j in (r.0, in_tail same exact itself r.0 y xs r.1, r.2)
      ]

-- if none is found that passes, all fail
pub none_found : {A : Type 0} (p : A → Bool) (xs : List A) → find p xs ≡ None → list_all (λ x. not (p x)) xs ≡ true
none_found p [] e = refl
none_found p (x ∷ xs) e = elim (p x) as (λ b. cond b (Some x) (find p xs) ≡ None → (not b && list_all (λ y. not (p y)) xs) ≡ true) [
  | true ↦ λ some. cc
  | false ↦ λ none. none_found p xs none
] e
