-- The names that most definitions and proofs cite, handed on from one place. Declares nothing.
pub use Rattle.lens_specs.specs.Columns.{Columns, Fits, columns_in, fits_at, kinds_differ, least_outside, like_kinds, without_column}
unfoldable pub use Rattle.lens_specs.specs.Columns.{both_columns, names}
pub use Rattle.lens_specs.specs.Delta.{Applies, AppliesTo, Delta, TableDelta, changes, differences, is_empty}
unfoldable pub use Rattle.lens_specs.specs.Delta.{diff, new_view}
pub use Rattle.lens_specs.specs.Dependencies.{AllEdges, Edge, IsClosed, IsClosure, Meets, MeetsTree, edge, first_edge, rest_edges}
unfoldable pub use Rattle.lens_specs.specs.Dependencies.{closure}
pub use Rattle.lens_specs.specs.Keeping.{CanChange, CanCommit, Change, Follows, IfObserved, Kept, Stays, changed, define, nothing, or_empty, rows, rows_at}
pub use Rattle.lens_specs.specs.Lens.{Lens, Tables, base, drop, drop_sort, join, join_sort, nodes_of, rename, rename_sort, rows_or_none, select, select_sort, sort_of, table, tree_or_none, view, view_names}
unfoldable pub use Rattle.lens_specs.specs.Lens.{get, put, tables_of}
pub use Rattle.lens_specs.specs.Names.{Disjoint, Name, Names, Within, is_among, one, same_names, share}
pub use Rattle.lens_specs.specs.Nodes.{join_left_after, join_right_after}
unfoldable pub use Rattle.lens_specs.specs.Nodes.{drop_get, drop_put, join_free, join_get, join_kept, join_left, join_over, join_put_left, join_put_left_kept, join_put_right, join_right, rename_get, rename_put, select_get, select_merged, select_put}
pub use Rattle.lens_specs.specs.Predicate.{Formula, Formulas, Op, Predicate, all_hold, all_of, any_holds, any_of, compare, compare_columns, compared, eq, falsity, formula_holds, formula_mentions, formulas, ge, gt, has_null, holds, is_one_of, le, lt, mentioned, mentions, names_in, names_of, names_of_all, ne, negation, no_formulas, nodes_of_all, null_at, one_of, predicate_nodes, truth, with_name, without_name}
pub use Rattle.lens_specs.specs.Refusal.{Refusal, column_taken, columns_limit, default_refused, first_mixed, is_column, is_like, is_mixed, is_steady, kind_clash, left_side, mixed_conjunct, no_such_dependency, not_determined, or_else, or_name, predicate_kind, right_side, side_mentions_output, source_mentions_output, table_twice, tables_limit, too_large, too_much, unknown_column, unknown_name, unlike, unlike_all, unlike_kinds, unsteady, views_limit, when}
pub use Rattle.lens_specs.specs.Relation.{IsRelation, Relation, Rows, has, joined_with, minus, natural, those, union}
unfoldable pub use Rattle.lens_specs.specs.Relation.{first_row, image, project}
pub use Rattle.lens_specs.specs.Rename.{renamed, renamed_edge, renamed_formula, renamed_formulas, renamed_predicate, renamed_tree}
unfoldable pub use Rattle.lens_specs.specs.Rename.{renamed_columns, renamed_names, renamed_row, with_kind}
pub use Rattle.lens_specs.specs.Revision.{moved}
unfoldable pub use Rattle.lens_specs.specs.Revision.{along, merge, revise, revise_row}
pub use Rattle.lens_specs.specs.Rows.{at, same_value}
unfoldable pub use Rattle.lens_specs.specs.Rows.{agree, cut, paste, paste_list, with_at}
pub use Rattle.lens_specs.specs.Sort.{Clash, IsOf, IsOfSort, Sort, clash_from, clash_of, clashes, first_pair, pair_with}
unfoldable pub use Rattle.lens_specs.specs.Sort.{violating_pair, violating_row}
pub use Rattle.lens_specs.specs.TableDeltas.{AllApply, AreDeltas, LeadTo, after, compose_delta, composed, composed_at, delta_for, inverted, no_relation, relation_in, with_deltas}
pub use Rattle.lens_specs.specs.TreeForm.{TreeForm, add_edge, bad_fit, bad_left, bad_right, checked, cleaned, first_later, first_other, grouped, is_free, is_tree, kept_edge, narrowed, narrowed_by, not_tree, ordered, put_first, reduce_all, reduce_edge, reduced, stuck, with_right, writes_to}
unfoldable pub use Rattle.lens_specs.specs.TreeForm.{outputs, tree_of, tree_without}
pub use Rattle.lens_specs.specs.Typing.{and_then, default_holds, drop_fault, form_fault, is_determined, join_fault, rename_fault, select_fault, shared_table, table_sort_with, undetermined, unknown_in, unless_refused}
unfoldable pub use Rattle.lens_specs.specs.Typing.{sort, table_sort}
