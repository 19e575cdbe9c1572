-- The keys of the entries that pass.
use Rattle.std.proofs.Common.{◌≡◌, List, [], ◌∷◌, ap, refl, Bool, true, false, cond, ◌∙◌, filter}
use Rattle.plain_values.specs.SortedMap.{keys_of}

module _ {K X : Type 0} (p : K → Bool) where
  one : (e : K × X) (es : List (K × X)) (b : Bool) → keys_of (cond b (e ∷ es) es) ≡ cond b (e.0 ∷ keys_of es) (keys_of es)
  one e es true = refl
  one e es false = refl

  pub keys_of-filter : (es : List (K × X)) → keys_of (filter (λ f. p f.0) es) ≡ filter p (keys_of es)
  keys_of-filter [] = refl
  keys_of-filter (e ∷ es) = one e (filter (λ f. p f.0) es) (p e.0) ∙ ap (λ ks. cond (p e.0) (e.0 ∷ ks) ks) (keys_of-filter es)
