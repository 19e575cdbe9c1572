use Rattle.std.proofs.Common.{◌≡◌, [], ap, sym, ◌∙◌, rules}
use Rattle.plain_values.proofs.Common.{nil_from_length}
use Rattle.plain_values.specs.SortedSet as set
use Rattle.key_index.proofs.Common.{rows_of, none_less}
use Rattle.base_index.proofs.body.without.Goals as goal

pub returns-then-is_empty : goal.returns-then-is_empty
returns-then-is_empty c =
    let none : c.args.list.now ≡ [] = nil_from_length c.args.list.now (search rules) in
    sym (ap (λ l. set.difference c.args.rows (rows_of l)) none ∙ none_less c.args.rows)
