use Rattle.std.proofs.Common.{ap, sym, ◌∙◌, take, length, arith, Some}
use Rattle.plain_values.specs.SortedSet as set
use Rattle.base_index.specs.Parts.{parts_of}
use Rattle.base_index.specs.Stored.{Stored}
use Rattle.base_index.proofs.Bodies.{all_shown, free_is}
use Rattle.key_index.proofs.Common.{same_cols}
use Rattle.base_index.proofs.table.Table.hold.Goals as goal

pub hold-requires-clause-whole : goal.hold-requires-clause-whole
hold-requires-clause-whole c = c.self.invariant.body

pub hold-requires-clause-free : goal.hold-requires-clause-free
hold-requires-clause-free c = free_is (parts_of c.self.inside.body) (ap (λ s. s.held) c.self.view_is ∙ c.requires.free)

pub invariant_of-self : goal.invariant_of-self
invariant_of-self c = record {
  body = c.hold.ensures.whole;
  shown = omega (arith, c.self.invariant.shown, c.hold.ensures.cols.many);
  held = λ _. omega (arith, all_shown c.self.inside.shown c.self.inside.body.indexes.items c.self.invariant.shown (sym (ap (λ s. s.next_indexes) c.self.view_is ∙ c.requires.quiet.indexes ∙ sym (ap (λ s. s.indexes) c.self.view_is))), c.hold.ensures.cols.many);
  count = c.self.invariant.count ∙ ap (λ s. length (set.items s)) (sym c.hold.ensures.seen);
}

abbrev holding : Stored → Stored
holding s = record s { next_rows = s.rows; held = Some s.rows }

pub returns : goal.returns
returns c =
    let cols = same_cols c.self.inside.body.indexes.items c.hold.new.self.indexes.items c.hold.ensures.cols in
    (λ i. record {
      name = c.self.inside.name;
      columns = c.hold.ensures.columns i;
      rows = c.hold.ensures.seen i;
      indexes = take c.self.inside.shown (cols i);
      next_rows = c.hold.ensures.next i;
      next_indexes = cols i;
      held = c.hold.ensures.held i;
    }) ∙ ap holding c.self.view_is ∙ (λ i. record c.args.self.now { next_rows = sym c.requires.quiet.rows i; held = Some c.args.self.now.rows })
