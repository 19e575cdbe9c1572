use Rattle.std.proofs.Common.{◌≡◌, ◌∙◌, ◌++◌, ◌||◌, Bool, [], ap, arith, false, filter, length, map, sym, option_map}
use Rattle.std.proofs.Math.ListN.{replicate}
use Rattle.plain_values.proofs.Common.{common_steps, eq_by_cmp, restrict, row_cmp, Row}
use Rattle.std.proofs.lemmas.List.{length-replicate}
use Rattle.row_sets.specs.Members.{is_in}
use Rattle.view_reading.specs.KnownRows.{marked}
use Rattle.view_reading.specs.Unfiltered.{passes}
use Rattle.view_reading.proofs.PartLists.{image_more, none_marked, passing_more, passing_same}
use Rattle.view_reading.proofs.differing.Parts.of.Goals as goal

pub loop-row-init : goal.loop-row-init
loop-row-init c =
    let known = c.args.known.now in
    let marks : c.in_ok-vec.field-0.items ≡ replicate (length known) false = c.in_ok-vec.ensures.items_if_clones_equal (λ y e. e) in
    record {
      seam = grind (arith, common_steps);
      parts = (
        ap length marks ∙ length-replicate (length known) false,
        λ q. (λ i. is_in (marked (marks i) known ++ c.new.ensures.items i) q) ∙ ap (λ l. is_in (l ++ []) q) (none_marked (length known) known),
      );
    }

pub loop-row-preserved-in_ok-add : goal.loop-row-preserved-in_ok-add
loop-row-preserved-in_ok-add c =
    let known = c.args.known.now in
    let part : Row → Row = restrict c.args.cols.now in
    let test : Row → Bool = passes (option_map (λ p. p.now) c.args.unfiltered.pred) in
    let before = c.loop-row.yielded in
    let r = c.in-Some.row in
    record {
      seam = grind (arith, common_steps);
      parts = (
        c.in_ok-add.ensures.0,
        λ q. c.in_ok-add.ensures.1 q
            ∙ ap (λ b. b || eq_by_cmp row_cmp q (part r)) (c.loop-row.invariant.parts.1 q) ∙ sym (image_more part (filter test before) r q)
            ∙ ap (λ l. is_in (map part l) q) (sym (passing_more test before r (sym c.passes.ensures ∙ c.if-passes.true))),
      );
    }

pub loop-row-preserved : goal.loop-row-preserved
loop-row-preserved c =
    let part : Row → Row = restrict c.args.cols.now in
    let test : Row → Bool = passes (option_map (λ p. p.now) c.args.unfiltered.pred) in
    let before = c.loop-row.yielded in
    let r = c.in-Some.row in
    record {
      seam = grind (arith, common_steps);
      parts = (
        c.loop-row.invariant.parts.0,
        λ q. c.loop-row.invariant.parts.1 q ∙ ap (λ l. is_in (map part l) q) (sym (passing_same test before r (sym c.passes.ensures ∙ c.if-passes.false))),
      );
    }
