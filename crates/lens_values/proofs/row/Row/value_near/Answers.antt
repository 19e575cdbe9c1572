use Rattle.std.proofs.Common.{sym, ◌∙◌}
use Rattle.lens_values.proofs.Cells.{copied, value_at, no_value}
use Rattle.lens_values.proofs.row.Row.value_near.Goals as goal

pub returns-in-Some : goal.returns-in-Some
returns-in-Some c =
    copied c.get.result c.values.result.now c.in-Some.place c.get.ensures.lookup.0 c.get.ensures.lookup.1
    ∙ value_at c.args.name.now c.args.self.now _ _ _ c.names.ensures c.values.ensures (sym c.in-Some.is ∙ c.place_near.ensures)

pub returns-in-None : goal.returns-in-None
returns-in-None c = no_value c.args.name.now c.args.self.now _ c.names.ensures (sym c.in-None.is ∙ c.place_near.ensures)
