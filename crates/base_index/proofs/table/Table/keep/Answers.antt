use Rattle.std.proofs.Common.{ap, sym, ◌∙◌, take, length, arith, None}
use Rattle.plain_values.proofs.Common.{false≢true}
use Rattle.plain_values.specs.SortedSet as set
use Rattle.base_index.specs.Parts.{parts_of}
use Rattle.base_index.specs.Stored.{Stored}
use Rattle.base_index.proofs.Bodies.{not_held}
use Rattle.key_index.proofs.Common.{same_cols}
use Rattle.base_index.proofs.table.Table.keep.Goals as goal

pub keep-requires : goal.keep-requires
keep-requires c = c.self.invariant.body

pub invariant_of-self : goal.invariant_of-self
invariant_of-self c = record {
  body = c.keep.ensures.whole;
  shown = omega (arith, c.self.invariant.shown, c.keep.ensures.cols.many);
  held = λ on. absurd (false≢true (sym c.keep.ensures.is_held ∙ on));
  count = c.self.invariant.count ∙ ap (λ s. length (set.items s)) (sym c.keep.ensures.seen);
}

abbrev keeping : Stored → Stored
keeping s = record s { next_rows = s.rows; held = None }

pub returns : goal.returns
returns c =
    let cols = same_cols c.self.inside.body.indexes.items c.keep.new.self.indexes.items c.keep.ensures.cols in
    (λ i. record {
      name = c.self.inside.name;
      columns = c.keep.ensures.columns i;
      rows = c.keep.ensures.seen i;
      indexes = take c.self.inside.shown (cols i);
      next_rows = c.keep.ensures.next i;
      next_indexes = cols i;
      held = not_held (parts_of c.keep.new.self) c.keep.ensures.is_held i;
    }) ∙ ap keeping c.self.view_is ∙ (λ i. record c.args.self.now { next_rows = sym c.requires.rows i; held = None })
