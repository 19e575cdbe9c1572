-- What a definition's lens needs.
use Rattle.std.proofs.Common.{◌≡◌, ◌∙◌, List, [], ◌∷◌, ap, map, refl, sym}
use Rattle.base_index.specs.declared.need.Need.{Need}
use Rattle.lens_laws.proofs.Common.{asked}
use Rattle.lens_probe.specs.Needs.{pair_of}
use Rattle.lens_specs.specs.Common.{Lens, Name, Names}
use Rattle.database.specs.Staging.{needs_of}

abbrev pub need_of : Name × Names → Need
need_of p = record { table = p.0; cols = p.1 }

paired : (needs : List Need) → map need_of (map pair_of needs) ≡ needs
paired [] = refl
paired (n ∷ ns) = ap (λ l. n ∷ l) (paired ns)

-- needs that are the pairs by which a lens asks are those of the lens
pub needs_are : (L : Lens) (needs : List Need) → map pair_of needs ≡ asked L [] → needs_of L ≡ needs
needs_are L needs is = ap (map need_of) (sym is) ∙ paired needs
