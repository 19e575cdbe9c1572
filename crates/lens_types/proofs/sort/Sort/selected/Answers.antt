use Rattle.std.proofs.Common.{◌∙◌, ◌≤◌, sym, subst}
use Rattle.std.specs.FinMap as finmap
use Rattle.lens_types.specs.Sorts.{sort_from}
use Rattle.lens_types.proofs.Parts.{same_parts}
use Rattle.lens_types.proofs.Selections.{selection_is_sound}
use Rattle.lens_types.proofs.SmallSorts.{selection_small}
use Rattle.lens_types.proofs.sort.Sort.selected.Goals as goal

pub invariant_of-result-2 : goal.invariant_of-result-2
invariant_of-result-2 c =
    let s = c.args.self.now in
    let made = sort_from s.columns c.in_ok-pred.pred s.tree in
    let columns = c.in_ok-copy.ensures ∙ c.cols.ensures.value in (
      same_parts s.columns _ c.in_ok-pred.pred _ s.tree _
          (selection_is_sound c.args.nodes s made c.args.pred.now c.cols.ensures.sound c.in_ok-pred.ensures)
          columns c.pred.view_is (c.in_ok-copy-2.ensures ∙ c.tree.ensures.value),
      subst (λ U. finmap.len U ≤ 64) (sym columns) (selection_small c.args.nodes s made c.args.pred.now c.in_ok-pred.ensures),
    )
