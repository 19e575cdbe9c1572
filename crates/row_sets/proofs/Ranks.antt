-- Rows behind ranks have the members that the rows have.
use Rattle.std.proofs.Common.{◌≡◌, ◌∙◌, List, [], ◌∷◌, ap, refl, sym, map, ◌||◌, Bool, IsPermutation}
use Rattle.plain_values.proofs.Common.{list_any, list_any-IsPermutation}

module _ {X Y : Type 0} (f : X → Y) (p : Y → Bool) where
  any_map : (xs : List X) → list_any p (map f xs) ≡ list_any (λ x. p (f x)) xs
  any_map [] = refl
  any_map (x ∷ xs) = ap (λ b. p (f x) || b) (any_map xs)

  -- what is behind is among them as before, where they were only moved
  pub moved_behind : (before : List Y) (ranked moved : List X) (after : List Y) → map f ranked ≡ before → IsPermutation ranked moved → after ≡ map f moved → list_any p after ≡ list_any p before
  moved_behind before ranked moved after is permuted out =
      ap (list_any p) out ∙ any_map moved ∙ sym (list_any-IsPermutation (λ x. p (f x)) ranked moved permuted) ∙ sym (any_map ranked) ∙ ap (list_any p) is
