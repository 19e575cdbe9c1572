-- What is made of the parts of a list.
use Rattle.std.proofs.Common.{◌≡◌, ℕ, ◌-◌, Bool, true, false, cond, List, [], ◌∷◌, ◌++◌, Some, None, length, map, nat_lt, slice_get, take, drop, ap, sym, ◌∙◌, refl, zero, suc}
use Rattle.plain_values.proofs.Common.{option_map, length-map, map-append, take-map}
use Rattle.circular_buffer.specs.Buffer.{keep_last}

drop_mapped : {A B : Type 0} (f : A → B) (n : ℕ) (xs : List A) → map f (drop n xs) ≡ drop n (map f xs)
drop_mapped f zero [] = refl
drop_mapped f zero (x ∷ xs) = refl
drop_mapped f (suc n) [] = refl
drop_mapped f (suc n) (x ∷ xs) = drop_mapped f n xs

-- all but the last
pub front_mapped : {A B : Type 0} (f : A → B) (xs : List A) → map f (take (length xs - 1) xs) ≡ take (length (map f xs) - 1) (map f xs)
front_mapped f xs = sym (take-map f (length xs - 1) xs) ∙ ap (λ n. take (n - 1) (map f xs)) (sym (length-map xs f))

-- the last ones, with one more
pub last_mapped : {A B : Type 0} (f : A → B) (n : ℕ) (xs : List A) (x : A) → map f (keep_last n (xs ++ x ∷ [])) ≡ keep_last n (map f xs ++ f x ∷ [])
last_mapped f n xs x =
    drop_mapped f (length (xs ++ x ∷ []) - n) (xs ++ x ∷ [])
    ∙ ap (λ k. drop (k - n) (map f (xs ++ x ∷ []))) (sym (length-map (xs ++ x ∷ []) f))
    ∙ ap (keep_last n) (map-append f xs (x ∷ []))

choice_mapped : {A B : Type 0} (f : A → B) (b : Bool) (y : A) → option_map f (cond b None (Some y)) ≡ cond b None (Some (f y))
choice_mapped f true y = refl
choice_mapped f false y = refl

-- the first of a list with one more, unless the list has fewer than 16
pub first_mapped : {A B : Type 0} (f : A → B) (xs : List A) (x : A) → option_map f (cond (nat_lt (length xs) 16) None (slice_get (xs ++ x ∷ []) 0)) ≡ cond (nat_lt (length (map f xs)) 16) None (slice_get (map f xs) 0)
first_mapped f [] x = refl
first_mapped f (y ∷ ys) x =
    choice_mapped f (nat_lt (suc (length ys)) 16) y ∙ ap (λ n. cond (nat_lt (suc n) 16) None (Some (f y))) (sym (length-map ys f))
