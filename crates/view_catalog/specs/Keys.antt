-- That equal keys are hashed alike.
use Rattle.std.specs.Prelude.{◌≡◌, nat_eq, IsTrue, refl}
use Rattle.std.proofs.Common.{ap}
use Rattle.std.specs.Cmp.{unsigned_Decides}
use Rattle.std.specs.Cmp.Lexicographic.{pointwise}
use Rattle.std.specs.Hash as fed
use Rattle.std.proofs.lemmas.Slice.Eq.{slice_eq-Decides}
use Rattle.view_catalog.specs.declared.key.Key.{Key}

-- keys that are equal have one name, and so feed the hasher alike
pub same_name : (a b : Key) → IsTrue (pointwise nat_eq a.name b.name) → fed.str a.name ≡ fed.str b.name
same_name a b h = ap fed.str ((slice_eq-Decides unsigned_Decides a.name b.name (pointwise nat_eq a.name b.name) refl).0 h)
