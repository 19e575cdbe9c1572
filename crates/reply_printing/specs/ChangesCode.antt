-- The differences of tables are stored as the pairs of their tables and differences.
use Rattle.std.specs.Prelude.{List, refl}
use Rattle.std.specs.Coded.{Coded, code_by, coded×, coded_list, coded_ℕ}
use Rattle.lens_specs.specs.Common.{Name, Delta, TableDelta}
use Rattle.signed_delta.specs.DeltaCode.{coded_delta}

abbrev pub coded_changes : Coded (List TableDelta)
coded_changes = coded_list (code_by (Name × Delta) (coded× (coded_list coded_ℕ) coded_delta) (λ d. (d.table, d.delta)) (λ p. record { table = p.0; delta = p.1 }) (λ _. refl))
