use Rattle.std.proofs.Common.{◌≡◌, ◌∙◌, ap, true, false, is_ok}
use Rattle.plain_values.proofs.Common.{exact}
use Rattle.table_keeper.proofs.Places.{found_is}
use Rattle.table_keeper.proofs.tables.place_of.Goals as goal

pub unreachable-requires : goal.unreachable-requires
unreachable-requires c =
    let there : is_ok c.search.result ≡ true = found_is c.args.tables.now c.args.name.now c.search.result c.requires.rising c.search.ensures.bound c.search.ensures.position ∙ c.requires.there in
    let absent : is_ok c.search.result ≡ false = ap is_ok c.in-Err.is in
    cc

pub returns-clause-named : goal.returns-clause-named
returns-clause-named c = λ d. exact _ c.args.name.now (c.in-Ok.ensures.position d)
