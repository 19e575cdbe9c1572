-- The calls of a sink that was handed what was left, one after another.
use Rattle.std.proofs.Common.{◌≡◌, ◌≢◌, ◌-◌, ℕ, List, [], ◌∷◌, ◌++◌, subst, sym, refl, Option}
use Rattle.io_specs.specs.Calls.{Adds}
use Rattle.io_specs.proofs.Calls.{Adds-none, Adds-then, Adds-weaker}
use Rattle.lens_io.specs.Calls.{AddsOffer, OffersAll, OffersRest}
use Rattle.lens_io.specs.declared.told.Offer.{Offer}

-- So many bytes were left at first, and so many are left: calls that offer the rest from here on do so from the first one on, and so do those that offer all of it.
pub record Offering (first left : ℕ) (old new : Option (List Offer)) : Type 0 where
  pub follows : (end : Option (List Offer)) → Adds (OffersRest left) new end → Adds (OffersRest first) old end
  pub follows_all : (end : Option (List Offer)) → Adds (OffersAll left) new end → Adds (OffersAll first) old end

pub Offering-nil : (first left : ℕ) (known : Option (List Offer)) → left ≡ first → Offering first left known known
Offering-nil first left known is = subst (λ n. Offering first n known known) (sym is) (record { follows = λ end h. h; follows_all = λ end h. h })

-- no call is made any longer
pub Offering-end : (first left : ℕ) (old new : Option (List Offer)) → Offering first left old new → Adds (OffersRest first) old new
Offering-end first left old new o = o.follows new (Adds-none (OffersRest left) new tt)

-- nor is it where nothing is left
pub Offering-all : (first left : ℕ) (old new : Option (List Offer)) → Offering first left old new → left ≡ 0 → Adds (OffersAll first) old new
Offering-all first left old new o none = o.follows_all new (Adds-none (OffersAll left) new none)

one_more : (left took : ℕ) (mid new end : Option (List Offer)) → took ≢ 0 → AddsOffer mid new left took → Adds (OffersRest (left - took)) new end → Adds (OffersRest left) mid end
one_more left took mid new end some call rest =
    Adds-then (λ more. more ≡ record { size = left; took = took } ∷ []) (OffersRest (left - took)) (OffersRest left) mid new end
    (λ first later is h. subst (λ v. OffersRest left (v ++ later)) (sym is) (refl, λ _. some, h)) call rest

one_more_of_all : (left took : ℕ) (mid new end : Option (List Offer)) → took ≢ 0 → AddsOffer mid new left took → Adds (OffersAll (left - took)) new end → Adds (OffersAll left) mid end
one_more_of_all left took mid new end some call rest =
    Adds-then (λ more. more ≡ record { size = left; took = took } ∷ []) (OffersAll (left - took)) (OffersAll left) mid new end
    (λ first later is h. subst (λ v. OffersAll left (v ++ later)) (sym is) (refl, some, h)) call rest

-- one call more was handed what was left, and took some of it
pub Offering-more : (first left left' took : ℕ) (old mid new : Option (List Offer)) → Offering first left old mid → AddsOffer mid new left took → took ≢ 0 → left' ≡ left - took
    → Offering first left' old new
Offering-more first left left' took old mid new o call some is =
    subst (λ n. Offering first n old new) (sym is) (record { follows = λ end h. o.follows end (one_more left took mid new end some call h); follows_all = λ end h. o.follows_all end (one_more_of_all left took mid new end some call h) })

-- one call more was handed what was left, and took none: it is the last
pub Offering-last : (first left : ℕ) (old mid new : Option (List Offer)) → Offering first left old mid → AddsOffer mid new left 0 → Adds (OffersRest first) old new
Offering-last first left old mid new o call =
    o.follows new (Adds-weaker (λ more. more ≡ record { size = left; took = 0 } ∷ []) (OffersRest left) mid new
    (λ calls is. subst (OffersRest left) (sym is) (refl, (λ none. absurd (none refl)), tt)) call)
