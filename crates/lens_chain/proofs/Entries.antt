-- Differences by names, and the entries of a map that has them.
use Rattle.std.proofs.Common.{◌≡◌, ◌∙◌, true, List, [], ◌∷◌, ap, cond, refl, Some}
use Rattle.plain_values.proofs.Common.{is_at, both_ways, lookup, eq_by_cmp, bytes_cmp}
use Rattle.std.specs.FinMap as finmap
use Rattle.fd_laws.proofs.Common.{name_itself, tied_name}
use Rattle.lens_specs.specs.Common.{Name}

found : {X : Type 0} (es : List (Name × X)) (q : Name) → lookup (is_at (bytes_cmp q)) es ≡ finmap.find bytes_cmp q es
found [] q = refl
found (e ∷ es) q = ap (cond (is_at (bytes_cmp q) e.0) (Some e.1)) (found es q)

tied_back : (q k : Name) → eq_by_cmp bytes_cmp k q ≡ true → eq_by_cmp bytes_cmp q k ≡ true
tied_back q k e = ap (λ n. eq_by_cmp bytes_cmp q n) (tied_name k q e) ∙ name_itself q

turned : (q k : Name) → eq_by_cmp bytes_cmp k q ≡ eq_by_cmp bytes_cmp q k
turned q k = both_ways _ _ (tied_back q k) (tied_back k q)
