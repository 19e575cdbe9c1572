use Rattle.std.proofs.Common.{◌≡◌, sym, ap, ◌∙◌, Ok, Result}
use Rattle.plain_values.proofs.Common.{Columns}
use Rattle.lens_values.specs.Unions.{union_from}
use Rattle.lens_values.specs.declared.columns.ColumnsFault.{ColumnsFault}
use Rattle.row_sets.proofs.relation.united.Goals as goal

made : (U all : Columns) → ◌≡◌ {A = Result Columns ColumnsFault} (Ok U) (Ok all) → all ≡ U
made U all e = cc

pub returns-in-Ok : goal.returns-in-Ok
returns-in-Ok c = made _ _ (sym (ap (λ o. union_from o c.args.left.now c.args.right.now) c.requires) ∙ c.in-Ok.ensures.gives)
