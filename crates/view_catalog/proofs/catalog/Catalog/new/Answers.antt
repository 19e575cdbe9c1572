use Rattle.std.proofs.Common.{[], subst, sym}
use Rattle.view_catalog.specs.Contents.{IsCatalog}
use Rattle.view_catalog.proofs.Growth.{nothing_defined}
use Rattle.view_catalog.proofs.catalog.Catalog.new.Goals as goal

pub invariant_of-result : goal.invariant_of-result
invariant_of-result c =
    subst (λ es. IsCatalog c.new.result.items es 0) (sym c.new-2.ensures.empty)
    (subst (λ ts. IsCatalog ts [] 0) (sym c.new.ensures.items) nothing_defined)
