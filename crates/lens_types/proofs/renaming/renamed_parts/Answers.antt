use Rattle.std.proofs.Common.{◌≡◌, ◌∙◌, ap, sym, subst, None, option_map}
use Rattle.fd_laws.proofs.Common.{no_kind}
use Rattle.plain_values.specs.SortedSet as set
use Rattle.lens_specs.specs.Common.{names, AllEdges, renamed_columns, renamed_predicate, renamed_tree, rename_fault}
use Rattle.lens_types.specs.Faults.{fault_view}
use Rattle.lens_types.specs.Sorts.{sort_from}
use Rattle.lens_types.proofs.Renamings.{Lacks, new_name, edges_lack, rename_refused, rename_taken, renaming_is_sound}
use Rattle.lens_types.proofs.SmallSorts.{renaming_small}
use Rattle.lens_types.proofs.renaming.renamed_parts.Goals as goal

pub returns-in-Some-clause-sort : goal.returns-in-Some-clause-sort
returns-in-Some-clause-sort c =
    rw c.from.ensures (rename_refused c.args.nodes c.args.source.now c.args.col.now c.args.to.now c.in-Some.fault c.in-Some.ensures)

pub rename_columns-requires : goal.rename_columns-requires
rename_columns-requires c =
    let s = c.args.source.now in
    let none : None ≡ rename_fault c.args.nodes s c.args.col.now c.args.to.now = ap (option_map fault_view) (sym c.in_default.is) ∙ c.rename_fault.ensures in
    no_kind c.cols.result.now c.args.to.now (ap (λ U. set.contains (names U) c.args.to.now) c.cols.ensures.value ∙ new_name c.args.nodes s c.args.col.now c.args.to.now c.cols.ensures.sound none)

pub rename-requires : goal.rename-requires
rename-requires c =
    let s = c.args.source.now in
    let none : None ≡ rename_fault c.args.nodes s c.args.col.now c.args.to.now = ap (option_map fault_view) (sym c.in_default.is) ∙ c.rename_fault.ensures in
    subst (AllEdges (Lacks c.args.to.now)) (sym c.tree.ensures.value)
    (edges_lack s c.args.to.now c.tree.ensures.sound (new_name c.args.nodes s c.args.col.now c.args.to.now c.tree.ensures.sound none))

pub returns-clause-sort : goal.returns-clause-sort
returns-clause-sort c =
    let s = c.args.source.now in
    let none : None ≡ rename_fault c.args.nodes s c.args.col.now c.args.to.now = ap (option_map fault_view) (sym c.in_default.is) ∙ c.rename_fault.ensures in
    rename_taken c.args.nodes s c.args.col.now c.args.to.now c.in_ok-cols.cols c.in_ok-pred.pred c.in_ok-tree.tree none
    (c.in_ok-cols.ensures ∙ ap (renamed_columns c.args.col.now c.args.to.now) c.cols.ensures.value)
    (c.in_ok-pred.ensures ∙ ap (renamed_predicate c.args.col.now c.args.to.now) c.pred.ensures.value)
    (c.in_ok-tree.ensures ∙ ap (renamed_tree c.args.col.now c.args.to.now) c.tree.ensures.value)

pub returns-clause-sound : goal.returns-clause-sound
returns-clause-sound c =
    let s = c.args.source.now in
    let none : None ≡ rename_fault c.args.nodes s c.args.col.now c.args.to.now = ap (option_map fault_view) (sym c.in_default.is) ∙ c.rename_fault.ensures in
    renaming_is_sound c.args.nodes s (sort_from c.in_ok-cols.cols c.in_ok-pred.pred c.in_ok-tree.tree) c.args.col.now c.args.to.now c.tree.ensures.sound
    (rename_taken c.args.nodes s c.args.col.now c.args.to.now c.in_ok-cols.cols c.in_ok-pred.pred c.in_ok-tree.tree none
    (c.in_ok-cols.ensures ∙ ap (renamed_columns c.args.col.now c.args.to.now) c.cols.ensures.value)
    (c.in_ok-pred.ensures ∙ ap (renamed_predicate c.args.col.now c.args.to.now) c.pred.ensures.value)
    (c.in_ok-tree.ensures ∙ ap (renamed_tree c.args.col.now c.args.to.now) c.tree.ensures.value))

pub returns-clause-small : goal.returns-clause-small
returns-clause-small c =
    let s = c.args.source.now in
    let none : None ≡ rename_fault c.args.nodes s c.args.col.now c.args.to.now = ap (option_map fault_view) (sym c.in_default.is) ∙ c.rename_fault.ensures in
    renaming_small c.args.nodes s (sort_from c.in_ok-cols.cols c.in_ok-pred.pred c.in_ok-tree.tree) c.args.col.now c.args.to.now
    (rename_taken c.args.nodes s c.args.col.now c.args.to.now c.in_ok-cols.cols c.in_ok-pred.pred c.in_ok-tree.tree none
    (c.in_ok-cols.ensures ∙ ap (renamed_columns c.args.col.now c.args.to.now) c.cols.ensures.value)
    (c.in_ok-pred.ensures ∙ ap (renamed_predicate c.args.col.now c.args.to.now) c.pred.ensures.value)
    (c.in_ok-tree.ensures ∙ ap (renamed_tree c.args.col.now c.args.to.now) c.tree.ensures.value))
