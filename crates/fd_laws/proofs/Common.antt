-- The lemmas that most proofs cite, handed on from one place. Declares nothing.
pub use Rattle.fd_laws.proofs.Closures.{closure_is, implies_sound}
pub use Rattle.fd_laws.proofs.Columns.{fits_cut, fits_names, fits_none, get-both_left, get-both_right, get-without_other, get-without_same, names-both, names-get, names-without, no_kind}
pub use Rattle.fd_laws.proofs.Names.{apart_back, from_rest, from_shared, in_rest, in_shared, name_exact, name_itself, name_total, one_is, one_itself, rest_out, rest_same, subset_from, subset_is, tied_name, union_left, union_right}
pub use Rattle.fd_laws.proofs.Outputs.{within_more}
pub use Rattle.fd_laws.proofs.Relations.{first_some, from_image, from_join, from_minus, from_project, from_those, from_union, has-those, in_image, in_join, in_minus, in_project, in_those, in_union_left, in_union_right, same_rel, sets}
pub use Rattle.fd_laws.proofs.Renames.{from_renamed, in_renamed, other_name, renamed_is_tree}
pub use Rattle.fd_laws.proofs.Rows.{agree-cut, agree-paste, agree_alike, agree_at, agree_back, agree_from, agree_itself, agree_on, agree_within, at-cut, at-cut_in, at-paste, at-paste_in, at-paste_out, at-with_at, at-with_other, at-with_same, cut_column, paste_same, row_exact, row_itself, row_total, same_row, same_value-is, tied_row}
pub use Rattle.fd_laws.proofs.TreeForms.{all_append, append_parts, tree_of_is, tree_of_within}
pub use Rattle.fd_laws.proofs.Trees.{all_edges, all_without, along_cases, at_edge, both_edges, each_edge, from_merge, from_revise, in_merge_left, in_merge_right, in_revise, is_tree_without, meets_fewer, merge_meets, revise_keeps, revise_own, to_tree_without}
pub use Rattle.fd_laws.specs.Trees.{Among, EdgesWithin, IsBefore, IsTree}
