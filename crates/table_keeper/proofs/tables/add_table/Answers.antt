use Rattle.std.proofs.Common.{◌≡◌, ◌∙◌, sym, ap, subst}
use Rattle.std.specs.FinMap as finmap
use Rattle.plain_values.proofs.Common.{insert, IsStrictlySortedBy, bytes_cmp}
use Rattle.table_keeper.specs.Changes.{names_of}
use Rattle.table_keeper.specs.Places.{rows_in}
use Rattle.table_keeper.proofs.ByName.{names_insert, rows_insert}
use Rattle.table_keeper.proofs.tables.add_table.Goals as goal

pub returns-clause-rising : goal.returns-clause-rising
returns-clause-rising c =
    let tables = c.args.tables.now.items in
    let names : names_of c.insert.new.self.items ≡ insert (names_of c.deref.result.now) c.free_place-place.result c.args.name =
    ap names_of c.in_ok-insert.ensures.items ∙ names_insert tables c.free_place-place.result (record { table = c.args.name; rows = c.empty.result })
    ∙ ap (λ ts. insert (names_of ts) c.free_place-place.result c.args.name) (sym c.deref.ensures.value) in
    subst (IsStrictlySortedBy bytes_cmp) (sym names) c.free_place-place.ensures.rising

pub returns-clause-ok : goal.returns-clause-ok
returns-clause-ok c =
    let tables = c.args.tables.now.items in
    ap rows_in c.in_ok-insert.ensures.items
    ∙ rows_insert tables c.free_place-place.result (record { table = c.args.name; rows = c.empty.result }) c.requires.absent
    ∙ ap (finmap.insert (rows_in tables) c.args.name) c.empty.ensures
