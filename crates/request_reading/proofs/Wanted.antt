-- The names of the members of a request.
use Rattle.std.proofs.Common.{◌≡◌, ℕ, List, [], ◌∷◌, Bor, map, ap, refl, ◌||◌}
use Rattle.plain_values.proofs.Common.{list_any}
use Rattle.server_specs.specs.Common.{Wanted, is_wanted, is_key}
use Rattle.request_reading.specs.RequestKinds.{is_among, names_of}

-- a name among them is that of a wanted member
pub among_names : (ws : List Wanted) → is_among (names_of ws) ≡ is_wanted ws
among_names ws = λ i k. one k ws i where
  one : (k : List ℕ) (ws : List Wanted) → is_among (names_of ws) k ≡ is_wanted ws k
  one k [] = refl
  one k (w ∷ ws) = ap (λ b. is_key k w.name || b) (one k ws)

-- the names behind their references
pub among_borrowed : (k : List ℕ) (names : List (Bor (List ℕ))) → list_any (λ name. is_key k name.now) names ≡ is_among (map (λ name. name.now) names) k
among_borrowed k [] = refl
among_borrowed k (name ∷ names) = ap (λ b. is_key k name.now || b) (among_borrowed k names)
