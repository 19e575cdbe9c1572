use Rattle.std.proofs.Common.{ap, sym, ◌∙◌, take, arith, None}
use Rattle.plain_values.proofs.Common.{false≢true}
use Rattle.lens_specs.specs.Common.{Rows}
use Rattle.base_index.specs.Parts.{parts_of}
use Rattle.base_index.specs.Stored.{Stored}
use Rattle.base_index.proofs.Bodies.{held_rows, not_held}
use Rattle.key_index.proofs.Common.{same_cols}
use Rattle.base_index.proofs.table.Table.back.Goals as goal

pub back-requires : goal.back-requires
back-requires c = c.self.invariant.body

pub invariant_of-self : goal.invariant_of-self
invariant_of-self c = record {
  body = c.back.ensures.whole;
  shown = omega (arith, c.self.invariant.shown, c.back.ensures.cols.many);
  held = λ on. absurd (false≢true (sym c.back.ensures.is_held ∙ on));
  count = c.count-self-inside.ensures;
}

-- the table with these rows
abbrev with_rows : Rows → Stored → Stored
with_rows rows s = record s { rows = rows; next_rows = rows; held = None }

pub returns : goal.returns
returns c = λ rows is.
    let cols = same_cols c.self.inside.body.indexes.items c.back.new.self.indexes.items c.back.ensures.cols in
    let all = held_rows (parts_of c.self.inside.body) rows (ap (λ s. s.held) c.self.view_is ∙ is) in
    (λ i. record {
      name = c.self.inside.name;
      columns = c.back.ensures.columns i;
      rows = (c.back.ensures.seen ∙ all) i;
      indexes = take c.self.inside.shown (cols i);
      next_rows = (c.back.ensures.next ∙ all) i;
      next_indexes = cols i;
      held = not_held (parts_of c.back.new.self) c.back.ensures.is_held i;
    }) ∙ ap (with_rows rows) c.self.view_is
