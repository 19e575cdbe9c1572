use Rattle.std.proofs.Common.{ap, sym, ◌∙◌, rules, unwrap_or}
use Rattle.plain_values.specs.SortedSet as set
use Rattle.key_index.proofs.Members.{is_zero}
use Rattle.key_index.proofs.Groups.{rows_at, through, nothing_taken, taken_empty}
use Rattle.key_index.proofs.index.Index.take.Goals as goal

pub returns-then-is_empty-clause-taken : goal.returns-then-is_empty-clause-taken
returns-then-is_empty-clause-taken c =
    taken_empty c.args.self.now.groups (c.get_mut.follows.lender c.remove.new.self) c.remove-empty.new.self c.args.key.now c.args.row.now c.remove.new.self
    (c.remove.ensures ∙ ap (λ o. set.remove (unwrap_or o set.empty) c.args.row.now) c.in-Some.ensures.value)
    (is_zero _ (sym c.is_empty.ensures ∙ c.if-is_empty.true))
    ((c.get_mut.follows.holds c.remove.new.self).3 (search rules)).0
    c.remove-empty.ensures.updates.0

pub returns-else-is_empty-clause-taken : goal.returns-else-is_empty-clause-taken
returns-else-is_empty-clause-taken c =
    through (λ s. set.remove s c.args.row.now) c.args.self.now.groups (c.get_mut.follows.lender c.remove.new.self) c.args.key.now c.remove.new.self
    (c.remove.ensures ∙ ap (λ o. set.remove (unwrap_or o set.empty) c.args.row.now) c.in-Some.ensures.value)
    ((c.get_mut.follows.holds c.remove.new.self).3 (search rules)).0

pub returns-in_default-clause-taken : goal.returns-in_default-clause-taken
returns-in_default-clause-taken c = λ q.
    ap (λ m. rows_at m q) c.get_mut.follows.holds-at-none ∙ nothing_taken c.args.self.now.groups c.args.key.now c.args.row.now (search rules) q
