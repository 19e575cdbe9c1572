use Rattle.std.proofs.Common.{Some, refl}
use Rattle.database.specs.declared.plan.StagedChange.TheVariants.{Define}
use Rattle.lens_server.proofs.Defined.{definition_planned}
use Rattle.lens_server.proofs.definitions.plan_prepared.Goals as goal

pub returns : goal.returns
returns c =
    let p = c.args.prepared in
    definition_planned c.args.database.now p _ _ c.requires.valid c.requires.room c.requires.admissible refl refl (λ i. Define (c.in_ok-last.ensures i).1 (c.table-table.ensures i) p) c.requires.short (λ i. Some (c.in_ok-last.ensures i).0) refl
