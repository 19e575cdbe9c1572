use Rattle.std.proofs.Common.{◌≡◌}
use Rattle.plain_values.proofs.Common.{iter_rest}
use Rattle.opening_specs.specs.Opening.{mapped}
use Rattle.table_keeper.specs.Places.{rows_in}
use Rattle.lens_laws.proofs.Common.{with_all}
use Rattle.database_opening.proofs.Stored.{made_of}
use Rattle.database_opening.proofs.opening.first_versions.Given as goal

-- with the tables that are left, those that are there are all
abbrev pub invariant-loop-kept : goal.invariant-loop-kept
invariant-loop-kept l = with_all (made_of (λ _. 0) (iter_rest l.kept-iterator.iter)) l.last ≡ mapped (λ _. 0) (rows_in l.tables)
