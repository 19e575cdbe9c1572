-- The names of the laws of lenses that most proofs cite, handed on from one place. Declares nothing.
pub use Rattle.lens_laws.proofs.Alone.{are_differences}
pub use Rattle.lens_laws.proofs.Asked.{contains_cases, contains_head, contains_map, contains_tail, hands_down, keyed, keys_reach}
pub use Rattle.lens_laws.proofs.Counts.{count-none, count-within}
pub use Rattle.lens_laws.proofs.Deltas.{diff_applies, diff_leads, from_found_each, from_new_view, from_touched, in_found_each, in_new_view_added, in_new_view_kept}
pub use Rattle.lens_laws.proofs.DropDelta.{drop_delta_is}
pub use Rattle.lens_laws.proofs.Entries.{looked_up, updated, with_all, with_all_in_none, with_last}
pub use Rattle.lens_laws.proofs.Join.{cut_right, from_natural, natural_paste, part_left, parts_fit}
pub use Rattle.lens_laws.proofs.Least.{clash_is}
pub use Rattle.lens_laws.proofs.Lenses.{are_same, get_after, get_same, get_sort, put_back, put_leaves, shown_is_of_sort}
pub use Rattle.lens_laws.proofs.Moves.{AllThere, all_there, same_is, same_name, still_there}
pub use Rattle.lens_laws.proofs.NodeFinds.{find_alike, fits_is_over, over_renamed}
pub use Rattle.lens_laws.proofs.NodeLaws.{both_can, drop_law, join_law, rename_can, rename_node_law, select_law, sound}
pub use Rattle.lens_laws.proofs.Passes.{join_sort_is}
pub use Rattle.lens_laws.proofs.Predicates.{mentioned_is}
pub use Rattle.lens_laws.proofs.Rename.{has_rename, not_old}
pub use Rattle.lens_laws.proofs.RenameSorts.{names-renamed}
pub use Rattle.lens_laws.proofs.Rules.{given_is, neither, one_kind, sort_is_typed, table_sort_is_sound, unrefused}
pub use Rattle.lens_laws.proofs.SelectDelta.{select_delta_is}
pub use Rattle.lens_laws.proofs.Sorts.{clash_none, none_clash, none_off, off_none, to_in}
pub use Rattle.lens_laws.proofs.Work.{size_some}
pub use Rattle.lens_laws.specs.Asked.{HasKeys, IsFilled, Reaches, asked, keys_at, left_sides}
pub use Rattle.lens_laws.specs.Checks.{IsOff, edit_clash}
pub use Rattle.lens_laws.specs.Edits.{AreDiffs, delta_for}
unfoldable pub use Rattle.lens_laws.specs.Edits.{table_deltas}
pub use Rattle.lens_laws.specs.Finds.{AllFit, IsOver}
pub use Rattle.lens_laws.specs.JoinKinds.{left_delta, right_delta}
pub use Rattle.lens_laws.specs.KeyedDeltas.{find_by, found_each, is_changed, join_delta_right}
unfoldable pub use Rattle.lens_laws.specs.KeyedDeltas.{drop_delta, found, merge_delta, select_delta, suspects, touched}
pub use Rattle.lens_laws.specs.Lenses.{AreOf, IsTyped}
pub use Rattle.lens_laws.specs.Passes.{IsSound, PredWithin}
pub use Rattle.lens_laws.specs.Rename.{CanRename}
unfoldable pub use Rattle.lens_laws.specs.Rename.{rename_delta}
pub use Rattle.lens_laws.specs.Shapes.{CanDrop, CanJoin, IsIn, Shape, drop_shape, join_shape, shape_of}
pub use Rattle.lens_laws.specs.Work.{GivesAtMost, count_of, node_work, rows_down, rows_of}
unfoldable pub use Rattle.lens_laws.specs.Work.{fan, size, work}
