use Rattle.std.proofs.Common.{ap, sym, ◌∙◌}
use Rattle.plain_values.specs.SortedSet as set
use Rattle.key_index.specs.Index.{group_at, has_key}
use Rattle.key_index.proofs.Groups.{if_ok}
use Rattle.key_index.proofs.Sets.{same_names_are}
use Rattle.key_index.proofs.index.find_by.Goals as goal

pub returns-then-is_by : goal.returns-then-is_by
returns-then-is_by c =
    let key = c.args.key.now in
    let index = c.index-item.result in
    let cols = same_names_are index.cols c.args.cols.now (sym c.is_by.ensures ∙ c.if-is_by.true) in
    if_ok c.find.result (λ found is. λ rows all.
    is ∙ ap (λ x. group_at x key) c.index-item.is
    ∙ all c.loop-index.index-index index c.loop-index-test.true key
    ∙ ap (λ C. set.filter (has_key C key) rows) (ap (λ x. x.cols) (sym c.index-item.is) ∙ cols)) c.find.ensures
