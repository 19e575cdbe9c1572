use Rattle.std.proofs.Common.{sym, ap, ◌∙◌, subst, ◌↔◌, IsTrue}
use Rattle.plain_values.proofs.Common.{list_all, get, ColumnsWithin}
use Rattle.plain_values.specs.Columns.{is_kind}
use Rattle.plain_values.proofs.ColumnsLemmas.{within_is}
use Rattle.lens_values.proofs.columns.Columns.within.Goals as goal

pub returns : goal.returns
returns c =
    subst (λ b. IsTrue b ↔ ColumnsWithin c.args.self.now c.args.other.now)
    (sym (c.all_in.ensures ∙ ap (list_all (λ e. is_kind (get c.args.other.now e.0) e.1)) c.pairs.ensures)) (within_is c.args.self.now c.args.other.now)
