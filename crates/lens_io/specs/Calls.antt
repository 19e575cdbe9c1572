-- The calls of a source and of a sink, with the words that say what one call does.
use Rattle.std.specs.Prelude.{◌≡◌, ◌≢◌, ◌-◌, ℕ, List, [], ◌∷◌, take, length, map, flat_map, Vec, Option, None, Some, Result, MatchResult}
use Rattle.std.specs.declared.alloc.Global.{Global}
pub use Rattle.std.specs.Io.{ReadsAtMost}
pub use Rattle.std.specs.Io.KnownBytes.{ReadConsumes, WriteAppends}
pub use Rattle.io_specs.specs.Calls.{Adds}
pub use Rattle.io_specs.specs.Faults.{Rose}
pub use Rattle.lens_io.specs.declared.told.Offer.{Offer}
use Rattle.lens_io.specs.declared.told.Take.{Take}

-- One call of a source: the room that it was given, and the bytes that came; none come at the end of the input and at a fault.
pub record Call : Type 0 where
  pub room : ℕ
  pub came : List ℕ

-- the bytes that these calls brought, one after another
abbrev pub brought : List Call → List ℕ
brought calls = flat_map (λ call. call.came) calls

-- known calls are followed by this one
abbrev pub AddsCall : Option (List Call) → Option (List Call) → ℕ → List ℕ → Type 0
AddsCall old new room came = Adds (λ more. more ≡ record { room = room; came = came } ∷ []) old new

-- known calls are followed by the one that had this result and filled this room
abbrev pub AddsTake : {E : Type 0} → Option (List Call) → Option (List Call) → Result ℕ E → List ℕ → Type 0
AddsTake old new result into = MatchResult result (λ n. AddsCall old new (length into) (take n into)) (λ _. AddsCall old new (length into) [])

-- known calls of a sink are followed by the one that was handed so many bytes, and took so many of them
abbrev pub AddsOffer : Option (List Offer) → Option (List Offer) → ℕ → ℕ → Type 0
AddsOffer old new size took = Adds (λ more. more ≡ record { size = size; took = took } ∷ []) old new

-- known calls of a sink are followed by the one that was handed this piece and had this result; a fault takes none of it
abbrev pub AddsGive : {E : Type 0} → Option (List Offer) → Option (List Offer) → Result ℕ E → List ℕ → Type 0
AddsGive old new result piece = MatchResult result (λ n. AddsOffer old new (length piece) n) (λ _. AddsOffer old new (length piece) 0)

-- So many bytes were left, and each call was handed all that were left then. One that took none was the last.
abbrev pub OffersRest : ℕ → List Offer → Type 0
OffersRest left [] = Unit {0}
OffersRest left (offer ∷ offers) = (offer.size ≡ left) × (offers ≢ [] → offer.took ≢ 0) × OffersRest (left - offer.took) offers

-- So many bytes were left, each call was handed all that were left then and took some of them, and none is left in the end.
abbrev pub OffersAll : ℕ → List Offer → Type 0
OffersAll left [] = left ≡ 0
OffersAll left (offer ∷ offers) = (offer.size ≡ left) × (offer.took ≢ 0) × OffersAll (left - offer.took) offers

-- ---- lists of calls in memory

-- a call that is kept in memory
abbrev pub call_of : Take → Call
call_of t = record { room = t.room; came = t.came.items }

-- the calls of a source that are kept, if there is still a list of them
abbrev pub calls_kept : Option (Vec Take Global) → Option (List Call)
calls_kept None = None
calls_kept (Some takes) = Some (map call_of takes.items)

-- the calls of a sink that are kept, if there is still a list of them
abbrev pub offers_kept : Option (Vec Offer Global) → Option (List Offer)
offers_kept None = None
offers_kept (Some offers) = Some offers.items
