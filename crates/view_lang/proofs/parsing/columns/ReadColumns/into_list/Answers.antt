use Rattle.std.proofs.Common.{subst}
use Rattle.view_lang.specs.DefBounds.{HasNoRepeat}
use Rattle.view_lang.proofs.parsing.columns.ReadColumns.into_list.Goals as goal

pub returns-clause-distinct : goal.returns-clause-distinct
returns-clause-distinct c = subst HasNoRepeat c.self.view_is c.self.invariant.1
