use Rattle.std.proofs.Common.{◌≡◌, ◌∙◌, ap, true, false, is_ok}
use Rattle.table_keeper.proofs.Places.{found_is, gap_rises}
use Rattle.table_keeper.proofs.tables.free_place.Goals as goal

pub unreachable-requires : goal.unreachable-requires
unreachable-requires c =
    let absent : is_ok c.search.result ≡ false = found_is c.args.tables.now c.args.name.now c.search.result c.requires.rising c.search.ensures.bound c.search.ensures.position ∙ c.requires.absent in
    let there : is_ok c.search.result ≡ true = ap is_ok c.in-Ok.is in
    cc

pub returns-clause-rising : goal.returns-clause-rising
returns-clause-rising c = gap_rises c.args.tables.now c.args.name.now c.in-Err.place c.requires.rising c.in-Err.ensures.bound c.in-Err.ensures.position
