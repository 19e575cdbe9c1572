use Rattle.std.proofs.Common.{◌++◌, ◌∷◌, [], ap, sym, ◌∙◌, subst, rules}
use Rattle.plain_values.specs.SortedSet as set
use Rattle.key_index.specs.Lists.{HasKeys, IsTableOf}
use Rattle.key_index.proofs.Lists.{keeps_keys, none_removed, same_trans, when_err}
use Rattle.key_index.proofs.Mixed.{on_err_of}
use Rattle.key_index.proofs.keyed.add_row.Goals as goal

pub take_row-requires : goal.take_row-requires
take_row-requires c =
    let has : HasKeys c.args.indexes.now.items c.in_ok-keyed.keyed = search rules in
    record { keys = keeps_keys c.args.indexes.now.items c.put_row-put.new.indexes.items c.in_ok-keyed.keyed c.put_row-put.ensures.cols has }

pub returns-then-is_err-clause-err : goal.returns-then-is_err-clause-err
returns-then-is_err-clause-err c =
    let stay = when_err c.put_row-put.result c.put_row-put.ensures.rows_stay (search rules) in
    on_err_of c.put_row-put.result (c.take_row.ensures.rows
    ∙ (λ i. set.remove (stay i) (c.in_ok-keyed.ensures.row i)) ∙ none_removed c.args.rows.now c.args.row.now c.requires.absent)

pub returns-then-is_err-clause-table : goal.returns-then-is_err-clause-table
returns-then-is_err-clause-table c =
    let stay = when_err c.put_row-put.result c.put_row-put.ensures.rows_stay (search rules) in
    let mixed = when_err c.put_row-put.result c.put_row-put.ensures.mixed (search rules) in
    subst (λ rows. IsTableOf rows c.take_row.new.indexes.items) (sym (c.take_row.ensures.rows ∙ ap (λ rows. set.remove rows c.in_ok-keyed.keyed.row) stay))
    (c.take_row.ensures.indexes c.args.rows.now (mixed c.args.rows.now c.requires.table))

pub returns-then-is_err-clause-cols : goal.returns-then-is_err-clause-cols
returns-then-is_err-clause-cols c = same_trans _ _ _ c.put_row-put.ensures.cols c.take_row.ensures.cols

pub returns-clause-listed : goal.returns-clause-listed
returns-clause-listed c =
    let has : HasKeys c.args.indexes.now.items c.in_ok-keyed.keyed = search rules in
    record {
      keyed = c.in_ok-keyed.keyed;
      same = c.in_ok-keyed.ensures.row;
      keys = keeps_keys c.args.indexes.now.items c.put_row-put.new.indexes.items c.in_ok-keyed.keyed c.put_row-put.ensures.cols has;
      list = c.push_reserved.ensures.items ∙ ap (λ l. l ++ c.in_ok-keyed.keyed ∷ []) c.in_ok-reserve.ensures.items;
    }
