-- Differences of tables are stored as a list of pairs.
use Rattle.std.specs.Prelude.{ℕ, List, refl}
use Rattle.std.specs.Coded.{Coded, code_by, coded×, coded_list, coded_ℕ}
use Rattle.lens_specs.specs.Delta.{Delta, TableDelta}
use Rattle.signed_delta.specs.DeltaCode.{coded_delta}

abbrev pub coded_table_delta : Coded TableDelta
coded_table_delta = code_by (List ℕ × Delta) (coded× (coded_list coded_ℕ) coded_delta) (λ d. (d.table, d.delta)) (λ p. record { table = p.0; delta = p.1 }) (λ _. refl)

abbrev pub coded_deltas : Coded (List TableDelta)
coded_deltas = coded_list coded_table_delta
