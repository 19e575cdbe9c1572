use Rattle.std.proofs.Common.{◌∙◌}
use Rattle.plain_values.proofs.NamesLemmas.{same_lists}
use Rattle.lens_values.proofs.names.Names.same.Goals as goal

pub returns : goal.returns
returns c = c.eq.ensures ∙ same_lists c.args.self.now c.args.other.now _ _ c.as_slice.ensures c.as_slice-2.ensures
