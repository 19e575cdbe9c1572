use Rattle.std.proofs.Common.{◌≡◌, ◌∙◌, Ok, Err, cond, sym, ap, subst, true, false}
use Rattle.std.specs.FinMap as finmap
use Rattle.plain_values.proofs.Common.{insert, IsStrictlySortedBy, bytes_cmp}
use Rattle.table_keeper.specs.Changes.{names_of}
use Rattle.table_keeper.specs.Places.{Rise, is_named, rows_in}
use Rattle.table_keeper.proofs.ByName.{names_insert, rows_insert, there_is}
use Rattle.table_keeper.proofs.Places.{found_is, gap_rises}
use Rattle.sqlite_keeper.proofs.placing.put.Goals as goal

pub returns-in_ok-insert-in-Err-clause-rising : goal.returns-in_ok-insert-in-Err-clause-rising
returns-in_ok-insert-in-Err-clause-rising c =
    let tables = c.args.tables.now.items in
    let place = c.in-Err.place in
    let here = c.deref.result.now in
    let rises : IsStrictlySortedBy bytes_cmp (insert (names_of here) place c.args.table) =
    gap_rises here c.args.table place (subst Rise (sym c.deref.ensures.value) c.requires) c.in-Err.ensures.bound c.in-Err.ensures.position in
    let names : names_of c.insert.new.self.items ≡ insert (names_of here) place c.args.table =
    ap names_of c.in_ok-insert-in-Err.ensures.items ∙ names_insert tables place (record { table = c.args.table; rows = c.args.rows })
    ∙ ap (λ ts. insert (names_of ts) place c.args.table) (sym c.deref.ensures.value) in
    subst (IsStrictlySortedBy bytes_cmp) (sym names) rises

pub returns-in_ok-insert-in-Err-clause-ok : goal.returns-in_ok-insert-in-Err-clause-ok
returns-in_ok-insert-in-Err-clause-ok c =
    let tables = c.args.tables.now.items in
    let here = c.deref.result.now in
    let place = c.in-Err.place in
    let same : here ≡ tables = c.deref.ensures.value in
    let absent : is_named (names_of tables) c.args.table ≡ false =
    ap (λ ts. is_named (names_of ts) c.args.table) (sym same)
    ∙ sym (found_is here c.args.table (Err place) (subst Rise (sym same) c.requires) c.in-Err.ensures.bound c.in-Err.ensures.position) in
    ap rows_in c.in_ok-insert-in-Err.ensures.items ∙ rows_insert tables place (record { table = c.args.table; rows = c.args.rows }) absent
    ∙ sym (ap (λ b. cond b (rows_in tables) (finmap.insert (rows_in tables) c.args.table c.args.rows)) (there_is tables c.args.table ∙ absent))

pub returns-in-Ok-clause-ok : goal.returns-in-Ok-clause-ok
returns-in-Ok-clause-ok c =
    let tables = c.args.tables.now.items in
    let here = c.deref.result.now in
    let same : here ≡ tables = c.deref.ensures.value in
    let there : is_named (names_of tables) c.args.table ≡ true =
    ap (λ ts. is_named (names_of ts) c.args.table) (sym same)
    ∙ sym (found_is here c.args.table (Ok c.in-Ok.field-0) (subst Rise (sym same) c.requires) c.in-Ok.ensures.bound c.in-Ok.ensures.position) in
    sym (ap (λ b. cond b (rows_in tables) (finmap.insert (rows_in tables) c.args.table c.args.rows)) (there_is tables c.args.table ∙ there))
