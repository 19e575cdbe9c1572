use Rattle.std.proofs.Common.{sym, ap, ◌∙◌}
use Rattle.std.specs.FinMap.{find, get-entries}
use Rattle.plain_values.proofs.Common.{bytes_cmp, entries_rise}
use Rattle.lens_values.proofs.columns.Columns.kind.Goals as goal

pub kind_in-requires : goal.kind_in-requires
kind_in-requires c = entries_rise c.args.self.now _ c.pairs.ensures

pub returns : goal.returns
returns c = c.kind_in.ensures ∙ ap (find bytes_cmp c.args.name.now) c.pairs.ensures ∙ sym (get-entries c.args.self.now c.args.name.now)
