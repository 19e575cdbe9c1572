use Rattle.std.proofs.Common.{◌≡◌, ◌∙◌, ap, sym}
use Rattle.plain_values.proofs.Common.{Contains-append_right}
use Rattle.lens_specs.specs.Common.{sort_of, Sort}
use Rattle.lens_laws.proofs.Common.{left_sides}
use Rattle.lens_probe.specs.Viewed.{Viewed, is_left_side}
use Rattle.lens_probe.proofs.Sizes.{left_side_full, left_side_in}
use Rattle.lens_probe.proofs.view.View.asked_by.Goals.{After-is_left_side}
use Rattle.lens_probe.proofs.view.View.asked_by.Goals as goal

-- the edges are those of the view's sort
edges_are : (c : After-is_left_side) → c.edges.result.now ≡ (sort_of c.args.self.now.lens).tree
edges_are c =
    c.edges.ensures.edges ∙ c.tree.ensures.value ∙ ap (λ (s : Sort). s.tree) c.self.invariant.1 ∙ ap (λ (v : Viewed). (sort_of v.lens).tree) c.self.view_is

pub returns-clause-left : goal.returns-clause-left
returns-clause-left c = c.is_left_side.ensures ∙ ap (is_left_side c.args.cols.now) (edges_are (goal.at.returns-clause-left c).After-is_left_side)

pub returns-clause-asked : goal.returns-clause-asked
returns-clause-asked c = λ yes.
    let C = c.args.cols.now in
    let T = (sort_of c.args.self.now.lens).tree in
    let left = sym (c.is_left_side.ensures ∙ ap (is_left_side C) (edges_are (goal.at.returns-clause-asked c).After-is_left_side)) ∙ yes in
    Contains-append_right c.args.self.now.sets (left_sides T) C (left_side_in C T left)

pub returns-clause-some : goal.returns-clause-some
returns-clause-some c = λ yes.
    let T = c.tree.result.now in
    left_side_full c.args.cols.now T c.edges.ensures.lefts (sym (c.is_left_side.ensures ∙ ap (is_left_side c.args.cols.now) c.edges.ensures.edges) ∙ yes)
