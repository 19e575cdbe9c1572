-- What the faults stand for, and when a call decides what the rules say.
use Rattle.std.specs.Prelude.{◌≡◌, Result, Ok, Err}
use Rattle.lens_specs.specs.Refusal as refusal
use Rattle.lens_specs.specs.Refusal.{Refusal}
use Rattle.lens_values.specs.declared.columns.ColumnsFault as columns
use Rattle.lens_values.specs.declared.columns.ColumnsFault.TheVariants as columns_fault
use Rattle.fd_tree.specs.declared.fault.TreeFault as tree
use Rattle.fd_tree.specs.declared.fault.TreeFault.TheVariants as tree_fault
use Rattle.lens_pred.specs.declared.checking.PredFault as pred
use Rattle.lens_pred.specs.declared.checking.PredFault.TheVariants as pred_fault
use Rattle.lens_pred.specs.declared.splitting.SplitFault as split
use Rattle.lens_pred.specs.declared.splitting.SplitFault.TheVariants as split_fault
use Rattle.view_limits.specs.Views.{limit_view, side_view}
use Rattle.lens_types.specs.declared.fault.TypeFault.{TypeFault}
use Rattle.lens_types.specs.declared.fault.TypeFault.TheVariants.{UnknownColumn, KindClash, NotTree, PredKind, SourceMentionsOutput, NoSuchDependency, MixedConjunct, DefaultRefused, NotDetermined, SideMentionsOutput, TableTwice, TooLarge, ColumnTaken}
use Rattle.lens_types.specs.declared.fault.Refused.{Refused}
use Rattle.lens_types.specs.declared.fault.Refused.TheVariants.{Rule, NoMemory}

-- the refusal that a fault is
abbrev pub fault_view : TypeFault → Refusal
fault_view (UnknownColumn name) = refusal.unknown_column name
fault_view (KindClash name) = refusal.kind_clash name
fault_view (NotTree a b) = refusal.not_tree a b
fault_view (PredKind name) = refusal.predicate_kind name
fault_view (SourceMentionsOutput col) = refusal.source_mentions_output col
fault_view (NoSuchDependency col) = refusal.no_such_dependency col
fault_view (MixedConjunct index) = refusal.mixed_conjunct index
fault_view DefaultRefused = refusal.default_refused
fault_view (NotDetermined col) = refusal.not_determined col
fault_view (SideMentionsOutput side col) = refusal.side_mentions_output (side_view side) col
fault_view (TableTwice name) = refusal.table_twice name
fault_view (TooLarge what) = refusal.too_large (limit_view what)
fault_view (ColumnTaken name) = refusal.column_taken name

-- ---- what a call answers

-- The fault is the verdict, and what was given is back; want of memory may stand for any verdict.
abbrev pub IsRefused : {T U : Type 0} → Refused T → T → Result U Refusal → Type 0
IsRefused (Rule fault back) given verdict = (verdict ≡ Err (fault_view fault)) × (back ≡ given)
IsRefused NoMemory given verdict = Unit {0}

-- The value, as it is seen, is the verdict, or the call is refused so.
abbrev pub Decides : {S T U : Type 0} → (S → U) → Result S (Refused T) → T → Result U Refusal → Type 0
Decides view (Ok x) given verdict = verdict ≡ Ok (view x)
Decides view (Err why) given verdict = IsRefused why given verdict

-- ---- the refusals of the parts

-- the refusal with what was given
abbrev pub with_inputs : {T : Type 0} → Refused (Unit {0}) → T → Refused T
with_inputs (Rule fault back) given = Rule fault given
with_inputs NoMemory given = NoMemory

-- the refusal by a fault
abbrev pub of_fault : TypeFault → Refused (Unit {0})
of_fault fault = Rule fault tt

-- of columns that are put together; a name that stands twice among them has two kinds
abbrev pub of_columns : columns.ColumnsFault → Refused (Unit {0})
of_columns (columns_fault.Twice name) = of_fault (KindClash name)
of_columns (columns_fault.KindClash name) = of_fault (KindClash name)
of_columns columns_fault.NoMemory = NoMemory

-- of dependencies
abbrev pub of_tree : tree.TreeFault → Refused (Unit {0})
of_tree (tree_fault.NotTree a b) = of_fault (NotTree a b)
of_tree tree_fault.NoMemory = NoMemory

-- of a predicate
abbrev pub of_pred : pred.PredFault → Refused (Unit {0})
of_pred (pred_fault.UnknownColumn name) = of_fault (UnknownColumn name)
of_pred (pred_fault.PredKind name) = of_fault (PredKind name)

-- of a predicate that is taken apart
abbrev pub of_split : split.SplitFault → Refused (Unit {0})
of_split (split_fault.Mixed index) = of_fault (MixedConjunct index)
of_split split_fault.NoMemory = NoMemory
