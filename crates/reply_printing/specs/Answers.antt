-- What the answers of the code stand for.
use Rattle.std.specs.Prelude.{ℕ, Option, Some, None}
use Rattle.lens_specs.specs.Predicate.{Predicate}
use Rattle.lens_specs.specs.Refusal as refusal
use Rattle.server_specs.specs.Answer as spec
use Rattle.server_specs.specs.EditRefusal as refusals
use Rattle.lens_pred.specs.View.{predicate_view}
use Rattle.lens_pred.specs.declared.formula.Formulas.{Formulas, out-Formulas}
use Rattle.view_limits.specs.Views.{limit_view, side_view}
use Rattle.reply_printing.specs.declared.answer.Answer.{Answer}
use Rattle.reply_printing.specs.declared.answer.Answer.TheVariants.{Defined, Shown, Changed, Described, Listed, Memory, TooLong, NotJson, BadRequest, Syntax, NameTaken, UnknownName, UnknownColumn, KindClash, NotTree, PredKind, SourceMentionsOutput, NoSuchDependency, MixedConjunct, DefaultRefused, NotDetermined, SideMentionsOutput, TableTwice, ColumnTaken, TooLarge, BadRow, Stale, OffPredicate, Clash, InEdit, NothingToUndo, Exported, NullableColumn, BadRecord, StoreFault}
use Rattle.reply_printing.specs.declared.answer.EditRefusal.{EditRefusal}
use Rattle.reply_printing.specs.declared.answer.EditRefusal.TheVariants as why
use Rattle.reply_printing.specs.declared.answer.RowList.{RowList}
use Rattle.reply_printing.specs.declared.answer.RowList.TheVariants.{Rows, Remove, Add}

-- which of a request's lists of rows
abbrev pub list_view : RowList → spec.Listed
list_view Rows = spec.in_rows
list_view Remove = spec.in_remove
list_view Add = spec.in_add

-- the conjuncts that the list has, in its order
abbrev pub conjuncts_view : Formulas → Predicate
conjuncts_view list = predicate_view (out-Formulas list).list.items

-- why an edit is refused, as the definitions have it
abbrev pub edit_refusal_view : EditRefusal → refusals.EditRefusal
edit_refusal_view (why.UnknownName name) = refusals.unknown_name name
edit_refusal_view (why.BadRow list index col) = refusals.bad_row (list_view list) index col
edit_refusal_view (why.Stale changed_at version) = refusals.stale changed_at version
edit_refusal_view (why.OffPredicate row) = refusals.off_predicate row
edit_refusal_view (why.Clash edge first second) = refusals.clash edge first second

-- the answer that refuses an edit, at its place if it is one of a batch
abbrev pub refused_in : Option ℕ → refusals.EditRefusal → spec.Answer
refused_in None refusal = spec.told refusal
refused_in (Some edit) refusal = spec.in_edit edit refusal

-- the answer that the definitions speak of
abbrev pub answer_view : Answer → spec.Answer
answer_view (Defined version) = spec.defined version
answer_view (Shown rows version) = spec.shown rows version
answer_view (Changed changed version) = spec.changed changed version
answer_view (Described columns edges conjuncts tables version) = spec.described columns edges (conjuncts_view conjuncts) tables version
answer_view (Listed definitions version) = spec.listed definitions version
answer_view Memory = spec.memory
answer_view TooLong = spec.long_line
answer_view NotJson = spec.not_json
answer_view (BadRequest member) = spec.bad_request member
answer_view (Syntax at) = spec.syntax at
answer_view (NameTaken name) = spec.name_taken name
answer_view (UnknownName name) = spec.unknown_name name
answer_view (UnknownColumn name) = spec.refused (refusal.unknown_column name)
answer_view (KindClash name) = spec.refused (refusal.kind_clash name)
answer_view (NotTree a b) = spec.refused (refusal.not_tree a b)
answer_view (PredKind name) = spec.refused (refusal.predicate_kind name)
answer_view (SourceMentionsOutput col) = spec.refused (refusal.source_mentions_output col)
answer_view (NoSuchDependency col) = spec.refused (refusal.no_such_dependency col)
answer_view (MixedConjunct index) = spec.refused (refusal.mixed_conjunct index)
answer_view DefaultRefused = spec.refused refusal.default_refused
answer_view (NotDetermined col) = spec.refused (refusal.not_determined col)
answer_view (SideMentionsOutput side col) = spec.refused (refusal.side_mentions_output (side_view side) col)
answer_view (TableTwice name) = spec.refused (refusal.table_twice name)
answer_view (ColumnTaken name) = spec.refused (refusal.column_taken name)
answer_view (TooLarge what) = spec.refused (refusal.too_large (limit_view what))
answer_view (BadRow list index col) = spec.bad_row (list_view list) index col
answer_view (Stale changed_at version) = spec.stale changed_at version
answer_view (OffPredicate row) = spec.off_predicate row
answer_view (Clash edge first second) = spec.clash edge first second
answer_view (InEdit edit refusal) = spec.in_edit edit (edit_refusal_view refusal)
answer_view NothingToUndo = spec.nothing_to_undo
answer_view (Exported csv version) = spec.exported csv version
answer_view (NullableColumn col) = spec.nullable_column col
answer_view (BadRecord place) = spec.bad_record place
answer_view StoreFault = spec.store_fault
