use Rattle.std.proofs.Common.{◌∷◌, ◌++◌, ◌∙◌, ap, map, sym, take, codes}
use Rattle.plain_values.proofs.Common.{take_all}
use Rattle.plain_values.specs.SortedSet as set
use Rattle.grammar_specs.specs.Common.{word, arrow, comma, dep_written, dep_tokens}
use Rattle.view_lang.specs.PrintAdds.{before_item}
use Rattle.view_lang.proofs.Printed.{adds_same, follow}
use Rattle.view_lang.proofs.Joined.{between, between_more, deps_between}
use Rattle.view_lang.proofs.printing.print_deps.Goals as goal

pub loop-index-preserved : goal.loop-index-preserved
loop-index-preserved c =
    let left = c.as_slice.ensures ∙ ap set.items c.left.ensures.value in
    let right = c.as_slice-in-loop-index.ensures ∙ ap set.items c.right.ensures.value in
    let before = between comma (λ d. dep_tokens (dep_written d)) (take c.loop-index.index c.args.deps.now) in
    adds_same _
    ((λ i. word (codes "with") ∷ (before ++ (before_item c.loop-index.index comma ++ (map word (left i) ++ arrow ∷ map word (right i)))))
    ∙ ap (λ ts. word (codes "with") ∷ ts)
    (between_more comma (λ d. dep_tokens (dep_written d)) c.args.deps.now c.loop-index.index c.index-deps-index.result c.loop-index-test.true c.index-deps-index.is))
    (follow c.loop-index.invariant
    (follow c.in_ok-comma_between.ensures (follow c.in_ok-print_names.ensures (follow c.in_ok-arrow.ensures c.in_ok-print_names-2.ensures))))

pub returns : goal.returns
returns c =
    adds_same _
    (ap (λ ds. word (codes "with") ∷ between comma (λ d. dep_tokens (dep_written d)) ds) (take_all c.loop-index.index c.args.deps.now c.loop-index-test.false)
    ∙ deps_between c.args.deps.now (sym c.is_empty.ensures ∙ c.if-is_empty.false))
    c.loop-index.invariant
