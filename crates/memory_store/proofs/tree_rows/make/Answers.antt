use Rattle.std.proofs.Common.{◌≡◌, ◌∙◌, Result, Ok, Err, ap, OnOk}
use Rattle.plain_values.specs.SortedSet as set
use Rattle.memory_store.specs.InMemory.{with_rows, without_rows}
use Rattle.memory_store.proofs.TreeRows.{made_is}
use Rattle.memory_store.proofs.tree_rows.make.Goals as goal

on_ok : {T E P Q : Type 0} (r : Result T E) → (P → Q) → OnOk r P → OnOk r Q
on_ok (Ok x) f p = f p
on_ok (Err e) f p = p

pub returns : goal.returns
returns c =
    let old = c.args.tree.now in
    let left : c.remove_each.new.tree ≡ without_rows (set.items c.args.delta.now.remove) old =
    c.remove_each.ensures ∙ ap (λ rows. without_rows rows old) (c.rows.ensures ∙ ap set.items c.remove.ensures) in
    on_ok c.insert_each.result (λ is.
    is ∙ ap (λ rows. with_rows rows c.remove_each.new.tree) (c.rows-2.ensures ∙ ap set.items c.add.ensures)
    ∙ ap (with_rows (set.items c.args.delta.now.add)) left ∙ made_is c.args.delta.now old)
    c.insert_each.ensures
