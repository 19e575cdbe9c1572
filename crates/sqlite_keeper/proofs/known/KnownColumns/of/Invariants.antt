use Rattle.std.proofs.Common.{◌≡◌, drop, map}
use Rattle.sqlite_keeper.specs.Knowing.{columns_at}
use Rattle.sqlite_keeper.proofs.known.KnownColumns.of.Given as goal

-- the table is not among those so far
abbrev pub invariant-loop-known : goal.invariant-loop-known
invariant-loop-known l =
    columns_at (map (λ t. (t.table, t.columns)) (drop l.known-index l.self.tables.items)) l.table
    ≡ columns_at (map (λ t. (t.table, t.columns)) l.self.tables.items) l.table
