use Rattle.std.proofs.Common.{rules}
use Rattle.plain_values.proofs.Common.{answers_always}
use Rattle.table_keeper.proofs.Places.{by_name}
use Rattle.table_keeper.proofs.tables.search.Goals as goal

pub returns-clause-position : goal.returns-clause-position
returns-clause-position c =
    let facts = c.binary_search_by_key.ensures in
    by_name c.args.tables.now c.args.name.now c.binary_search_by_key.result facts.bound (facts.position (λ t. t.table) (answers_always _ _ _ (λ f a r g called. search rules)))
