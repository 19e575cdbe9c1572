use Rattle.std.proofs.Common.{◌≡◌, ap, ◌∙◌, rules}
use Rattle.plain_values.specs.SortedSet as set
use Rattle.key_index.proofs.Groups.{rows_at, through, unchanged, on_ok, on_err}
use Rattle.key_index.proofs.index.Index.put.Goals as goal

pub returns-clause-ok : goal.returns-clause-ok
returns-clause-ok c = on_ok c.insert.result (λ is.
    let old : c.or_insert-group.result.now ≡ rows_at c.args.self.now.groups c.args.key.now = search rules in
    through (λ s. set.insert s c.args.row) c.args.self.now.groups c.self-3-1.given.0 c.args.key.now c.insert.new.self
    (is ∙ ap (λ s. set.insert s c.args.row) old)
    (search rules)) c.insert.ensures.ok

pub returns-clause-err : goal.returns-clause-err
returns-clause-err c = on_err c.insert.result (λ is.
    let old : c.or_insert-group.result.now ≡ rows_at c.args.self.now.groups c.args.key.now = search rules in
    unchanged c.args.self.now.groups c.self-3-1.given.0 c.args.key.now c.insert.new.self
    (is ∙ old)
    (search rules)) c.insert.ensures.err
