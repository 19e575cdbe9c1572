use Rattle.std.proofs.Common.{◌≡◌, ◌∙◌, ◌++◌, ap, sym, None, Ok, option_map}
use Rattle.lens_specs.specs.Common.{too_much, tree_of}
use Rattle.fd_tree.specs.Form.{form_of}
use Rattle.lens_types.specs.Faults.{fault_view}
use Rattle.lens_types.specs.Joins.{joined_columns, sides_fault}
use Rattle.lens_types.specs.Sorts.{natural_join, sort_from}
use Rattle.lens_types.proofs.Joins.{join_is_sound, join_taken, sides_refused, size_refused}
use Rattle.lens_types.proofs.SmallSorts.{join_small}
use Rattle.lens_types.proofs.joining.joined_parts.Goals as goal
use Rattle.lens_types.proofs.joining.joined_parts.Goals.{After-size_fault}

columns_are : (c : After-size_fault) → joined_columns c.args.left.now.columns c.args.right.now.columns ≡ Ok c.in_ok-cols.cols
columns_are c = (λ i. joined_columns (sym c.cols.ensures.value i) (sym c.cols-2.ensures.value i)) ∙ c.in_ok-cols.ensures

tree_is : (c : After-size_fault) → form_of (tree_of (c.args.left.now.tree ++ c.args.right.now.tree)) ≡ Ok c.in_ok-tree.tree
tree_is c = (λ i. form_of (tree_of (sym c.tree.ensures.value i ++ sym c.tree-2.ensures.value i))) ∙ c.in_ok-tree.ensures

unfaulted : (c : After-size_fault) → None ≡ sides_fault c.args.left.now c.args.right.now c.args.twice
unfaulted c = ap (option_map fault_view) (sym c.in_default.is) ∙ c.in_ok-fault.ensures

both : (c : After-size_fault) → c.in_ok-pred.pred ≡ c.args.left.now.predicate ++ c.args.right.now.predicate
both c = c.in_ok-pred.ensures ∙ (λ i. c.pred.ensures.value i ++ c.pred-2.ensures.value i)

pub returns-in-Some-clause-sort : goal.returns-in-Some-clause-sort
returns-in-Some-clause-sort c =
    let columns = (λ i. joined_columns (sym c.cols.ensures.value i) (sym c.cols-2.ensures.value i)) ∙ c.in_ok-cols.ensures in
    let tree = (λ i. form_of (tree_of (sym c.tree.ensures.value i ++ sym c.tree-2.ensures.value i))) ∙ c.in_ok-tree.ensures in
    rw c.from.ensures
    (sides_refused c.args.nodes c.args.left.now c.args.right.now c.args.twice c.in_ok-cols.cols columns c.in_ok-tree.tree tree
    c.in-Some.fault (ap (option_map fault_view) (sym c.in-Some.is) ∙ c.in_ok-fault.ensures))

pub returns-in-Some-size_fault-clause-sort : goal.returns-in-Some-size_fault-clause-sort
returns-in-Some-size_fault-clause-sort c =
    let d = (goal.at.returns-in-Some-size_fault-clause-sort c).After-size_fault in
    rw c.from-in-Some-size_fault.ensures
    (size_refused c.args.nodes c.args.left.now c.args.right.now c.args.twice c.in_ok-cols.cols (columns_are d) c.in_ok-tree.tree (tree_is d) c.in_ok-pred.pred (unfaulted d) (both d)
    c.in-Some-size_fault.fault (c.in-Some-size_fault.ensures c.in_ok-tree.tree))

taken : (c : After-size_fault) → None ≡ too_much c.args.nodes (sort_from c.in_ok-cols.cols c.in_ok-pred.pred c.in_ok-tree.tree)
    → natural_join c.args.nodes c.args.left.now c.args.right.now c.args.twice ≡ Ok (sort_from c.in_ok-cols.cols c.in_ok-pred.pred c.in_ok-tree.tree)
taken c few = join_taken c.args.nodes c.args.left.now c.args.right.now c.args.twice c.in_ok-cols.cols (columns_are c) c.in_ok-tree.tree (tree_is c) c.in_ok-pred.pred (unfaulted c) (both c) few

pub returns-in-None-clause-sort : goal.returns-in-None-clause-sort
returns-in-None-clause-sort c = taken (goal.at.returns-in-None-clause-sort c).After-size_fault (c.in-None.ensures c.in_ok-tree.tree)

pub returns-in-None-clause-sound : goal.returns-in-None-clause-sound
returns-in-None-clause-sound c =
    join_is_sound c.args.nodes c.args.left.now c.args.right.now _ c.args.twice c.cols.ensures.sound c.cols-2.ensures.sound
    (taken (goal.at.returns-in-None-clause-sound c).After-size_fault (c.in-None.ensures c.in_ok-tree.tree))

pub returns-in-None-clause-small : goal.returns-in-None-clause-small
returns-in-None-clause-small c =
    join_small c.args.nodes c.args.left.now c.args.right.now (sort_from c.in_ok-cols.cols c.in_ok-pred.pred c.in_ok-tree.tree) c.args.twice
    (taken (goal.at.returns-in-None-clause-small c).After-size_fault (c.in-None.ensures c.in_ok-tree.tree))
