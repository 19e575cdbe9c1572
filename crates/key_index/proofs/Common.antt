-- The lemmas of lists of indexes that most proofs cite, handed on from one place. Declares nothing.
pub use Rattle.key_index.proofs.Adding.{in_list_at}
pub use Rattle.key_index.proofs.Fronts.{front_keyed, no_row_less, none_back_of, none_behind, one_more_less, slice_behind}
pub use Rattle.key_index.proofs.Groups.{on_err, on_ok}
pub use Rattle.key_index.proofs.Lists.{all_keep_keys, none_less, same_itself, same_trans, when_ok}
pub use Rattle.key_index.proofs.Mixed.{on_err_of}
pub use Rattle.key_index.proofs.RowSets.{contained, same_rows}
pub use Rattle.key_index.proofs.Sets.{listed_whole}
pub use Rattle.key_index.proofs.Views.{same_cols}
pub use Rattle.key_index.proofs.Whole.{both_indexes, none_keyed}
pub use Rattle.key_index.specs.Lists.{AreKeyed, HasKeys, IsTableOf, SameCols, cols_of, rows_of, set_of}
pub use Rattle.key_index.specs.Marks.{HasMarks}
