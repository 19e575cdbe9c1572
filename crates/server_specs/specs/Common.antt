-- The names of requests, answers and the catalogue that most proofs cite, handed on from one place. Declares nothing.
pub use Rattle.catalog_specs.specs.Catalogue.{Catalogue, catalogue, catalogue_onto, is_table_of, lens_of, sort_with, table_lens, with_definition, with_lens}
pub use Rattle.catalog_specs.specs.Judging.{CatalogFault, count_named, first_refused, is_taken, judged, language, lens_in, lens_named, over, refused_from, rule, unless_full, view_count, where_lensed, where_sorted, where_typed}
pub use Rattle.io_specs.specs.Calls.{Adds}
pub use Rattle.io_specs.specs.Faults.{Rose}
pub use Rattle.io_specs.specs.Lines.{Line, line, marked, too_long}
pub use Rattle.server_specs.specs.Answer.{Answer, answer_data, bad_record, bad_request, bad_row, changed, changes_data, clash, columns_data, conjuncts_data, defined, described, edge_data, edges_data, exported, in_edit, long_line, memory, name_taken, names_data, not_json, nothing_to_undo, nullable_column, off_predicate, pairs_data, refused, row_data, rows_data, shown, stale, store_fault, syntax, texts_data, told, unknown_name, value_data}
unfoldable pub use Rattle.server_specs.specs.Answer.{text}
pub use Rattle.server_specs.specs.Answering.{answer_request}
unfoldable pub use Rattle.server_specs.specs.Answering.{answer}
pub use Rattle.server_specs.specs.Batching.{at_tables, batch_settled, edit_tables, edits_from, put_in, then_edits}
pub use Rattle.server_specs.specs.Changing.{Sent, accept, as_set, asked_view, changed_at, changed_by, edit_of, edited, foretold, is_stale, last_change, latest, of_sort, sent_view, set_in, settled, tested, unless_clash, unless_off, unless_stale, whole, with_last}
pub use Rattle.server_specs.specs.Defining.{answer_definition, fault_answer, with_defined}
pub use Rattle.server_specs.specs.EditRefusal.{EditRefusal, Listed, in_add, in_remove, in_rows}
pub use Rattle.server_specs.specs.Exporting.{first_nullable, import_settled, imported_by, read_settled, sheet_told}
pub use Rattle.server_specs.specs.Questions.{about, find_told, finding_told, found_told, rows_told, rows_with, sort_told}
pub use Rattle.server_specs.specs.Request.{Asked, BatchEdit, Request, Wanted, asked_in, batch, define, describe, each_edit, edit, export, find_at, first_other, import, is_key, is_wanted, json_of, least_of, lesser, preview, put, read, request_from, undo, unless_wrong}
unfoldable pub use Rattle.server_specs.specs.Request.{request}
pub use Rattle.server_specs.specs.Sending.{BadRow, is_column_of, pairs_in, rows_in, value_at, value_in, with_pair, with_row}
pub use Rattle.server_specs.specs.Session.{Chain, Exchange, Replies, Session, Step, answered, found_memory, last_count, last_state, not_stored, out_of_memory}
pub use Rattle.server_specs.specs.State.{State, fresh, kept, remember, rows_of_each}
pub use Rattle.server_specs.specs.Undoing.{undone}
pub use Rattle.server_specs.specs.Validity.{AreStored, CanUndo, IsDifference, IsRelationOf, IsStored, IsStoredAs, Valid}
