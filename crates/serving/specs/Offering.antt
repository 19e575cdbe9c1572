-- How replies are offered to a sink.
use Rattle.std.specs.Prelude.{◌≡◌, ◌++◌, ℕ, List, [], ◌∷◌, length}
use Rattle.lens_io.specs.Calls.{OffersAll, OffersRest}
use Rattle.lens_io.specs.declared.told.Offer.{Offer}

-- each reply was offered whole, and then what was left of it, until all of it was taken
abbrev pub OffersEach : List (List ℕ) → List Offer → Type 0
OffersEach [] offers = offers ≡ []
OffersEach (reply ∷ replies) offers = (first : List Offer) × (later : List Offer) × (offers ≡ first ++ later) × OffersAll (length reply) first × OffersEach replies later

-- so was each reply before the last, and the last one was offered in the same way, until the sink failed
abbrev pub OffersUntil : List (List ℕ) → List Offer → Type 0
OffersUntil replies offers = (before : List (List ℕ)) × (reply : List ℕ) × (first : List Offer) × (later : List Offer)
    × (replies ≡ before ++ reply ∷ []) × (offers ≡ first ++ later) × OffersEach before first × OffersRest (length reply) later
