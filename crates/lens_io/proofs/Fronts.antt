-- What a sink has taken, and what of the input was served, one call after another.
use Rattle.std.proofs.Common.{◌≡◌, ◌≤◌, ◌+◌, ℕ, List, [], ◌++◌, take, drop, length, ap, sym, ◌∙◌, refl, subst, append_assoc, arith, ◌∷◌, ◌-◌, length-drop, None, Some}
use Rattle.std.specs.declared.option.Option.{Option}
use Rattle.std.specs.Io.KnownBytes.{Appends}
use Rattle.std.proofs.Math.Seq.{take-add}
use Rattle.std.proofs.lemmas.List.{take_all}

append_nil : (xs : List ℕ) → xs ≡ xs ++ []
append_nil [] = refl
append_nil (x ∷ xs) = ap (λ l. x ∷ l) (append_nil xs)

pub Appends-nil : (known : Option (List ℕ)) → Appends known known []
Appends-nil None = tt
Appends-nil (Some xs) = append_nil xs

pub Appends-more : (a b c : Option (List ℕ)) (bytes : List ℕ) (i n : ℕ) → Appends a b (take i bytes) → Appends b c (take n (drop i bytes)) → Appends a c (take (i + n) bytes)
Appends-more None b c bytes i n p q = tt
Appends-more (Some xs) None c bytes i n p q = absurd p
Appends-more (Some xs) (Some ys) None bytes i n p q = absurd q
Appends-more (Some xs) (Some ys) (Some zs) bytes i n p q =
    q ∙ ap (λ v. v ++ take n (drop i bytes)) p ∙ append_assoc xs (take i bytes) (take n (drop i bytes)) ∙ ap (λ v. xs ++ v) (sym (take-add i n bytes))

-- the rest of a slice from an index on
pub rest_is : (bytes : List ℕ) (at : ℕ) → take (length bytes - at) (drop at bytes) ≡ drop at bytes
rest_is bytes at = take_all (length bytes - at) (drop at bytes) (omega (arith, length-drop at bytes))

pub within_rest : (bytes : List ℕ) (at n : ℕ) → at ≤ length bytes → n ≤ length (take (length bytes - at) (drop at bytes)) → at + n ≤ length bytes
within_rest bytes at n h p = let q : n ≤ length (drop at bytes) = subst (λ v. n ≤ length v) (rest_is bytes at) p in omega (arith, length-drop at bytes)
