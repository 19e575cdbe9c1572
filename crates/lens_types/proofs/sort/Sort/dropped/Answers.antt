use Rattle.std.proofs.Common.{◌≡◌, ◌∙◌, ap, sym, subst, refl, false}
use Rattle.plain_values.specs.SortedSet as set
use Rattle.lens_specs.specs.Common.{AllEdges, one, tree_without}
use Rattle.lens_types.specs.Sorts.{sort_from}
use Rattle.lens_types.proofs.Parts.{same_parts}
use Rattle.lens_types.proofs.Projections.{projected_unread, projection_is_sound}
use Rattle.lens_types.proofs.SmallSorts.{projection_small}
use Rattle.lens_types.proofs.sort.Sort.dropped.Goals as goal

pub without-requires : goal.without-requires
without-requires c =
    let s = c.args.self.now in
    let rest = tree_without (one c.args.col.now) s.tree in
    subst (AllEdges (λ e. set.contains e.left c.args.col.now ≡ false)) (sym c.tree.ensures.value)
    (projected_unread c.args.nodes s (sort_from c.in_ok-cols.cols c.in_ok-cols.pred rest) c.args.col.now c.args.by.now c.args.fill.now c.tree.ensures.sound c.in_ok-cols.ensures)

pub invariant_of-result : goal.invariant_of-result
invariant_of-result c =
    let s = c.args.self.now in
    let rest = tree_without (one c.args.col.now) s.tree in
    let made = sort_from c.in_ok-cols.cols c.in_ok-cols.pred rest in (
      same_parts c.in_ok-cols.cols _ c.in_ok-cols.pred _ rest _
          (projection_is_sound c.args.nodes s made c.args.col.now c.args.by.now c.args.fill.now c.tree.ensures.sound c.in_ok-cols.ensures)
          refl refl (c.in_ok-without.ensures ∙ ap (tree_without (one c.args.col.now)) c.tree.ensures.value),
      projection_small c.args.nodes s made c.args.col.now c.args.by.now c.args.fill.now c.in_ok-cols.ensures,
    )
