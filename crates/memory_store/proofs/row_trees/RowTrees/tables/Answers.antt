use Rattle.std.proofs.Common.{◌≡◌, ◌∙◌, ap, map, rules, subst, sym}
use Rattle.std.specs.FinMap as finmap
use Rattle.plain_values.proofs.Common.{IsStrictlySortedBy, deref_pair, iter_end, bytes_cmp}
use Rattle.lens_specs.specs.Common.{Rows}
use Rattle.lens_specs.specs.Relation.{Name}
use Rattle.memory_store.proofs.ByTable.{names_are}
use Rattle.memory_store.proofs.row_trees.RowTrees.tables.Goals as goal

pub returns-clause-is : goal.returns-clause-is
returns-clause-is c =
    let all : map deref_pair c.loop-table.yielded ≡ c.self.inside.trees.entries = search (rules, iter_end) in
    ap finmap.from_entries (c.loop-table.invariant ∙ all) ∙ c.self.view_is

pub returns-clause-rising : goal.returns-clause-rising
returns-clause-rising c =
    let all : map deref_pair c.loop-table.yielded ≡ c.self.inside.trees.entries = search (rules, iter_end) in
    subst (IsStrictlySortedBy bytes_cmp) (sym (names_are c.loop-table.tables.items ∙ ap (map (λ (e : Name × Rows). e.0)) (c.loop-table.invariant ∙ all))) c.len.ensures.ordered
