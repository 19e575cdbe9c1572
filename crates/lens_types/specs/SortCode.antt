-- How a sort is stored: as its columns, its conjuncts and the edges of its tree.
use Rattle.std.specs.Prelude.{List, refl}
use Rattle.std.specs.Coded.{Coded, code_by, coded×, coded_list, coded_ℕ}
use Rattle.std.specs.FinMap as map
use Rattle.plain_values.specs.contracts.value.Kind as contract
use Rattle.lens_specs.specs.Common.{Columns, Edge, Predicate, Sort}
use Rattle.fd_closure.specs.Sides.{coded_edge}
use Rattle.lens_pred.specs.Code.{formula_code}

-- as its parts
abbrev pub sort_code : Coded Sort
sort_code =
    code_by (Columns × (Predicate × List Edge)) (coded× (map.code (coded_list coded_ℕ) contract.the_row.coded) (coded× (coded_list formula_code) (coded_list coded_edge)))
    (λ s. (s.columns, (s.predicate, s.tree))) (λ p. record { columns = p.0; predicate = p.1.0; tree = p.1.1 }) (λ _. refl)
