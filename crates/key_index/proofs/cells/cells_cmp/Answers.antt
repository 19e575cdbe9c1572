use Rattle.std.proofs.Common.{◌≡◌, ap, sym, ◌∙◌, arith, length, drop, min, map}
use Rattle.std.specs.FinMap as finmap
use Rattle.plain_values.proofs.Common.{option_cmp, nat_cmp, length-map, value_cmp}
use Rattle.std.proofs.lemmas.List.{drop-map}
use Rattle.lens_values.proofs.Comparing.{cmp_ends}
use Rattle.key_index.specs.Key.{cells_cmp}
use Rattle.key_index.proofs.cells.cells_cmp.Goals as goal

pub returns : goal.returns
returns c =
    let own_cols = c.as_slice-own_cols.result.now in
    let other_cols = c.as_slice-other_cols.result.now in
    let own = map (λ n. finmap.get c.args.row.now n) own_cols in
    let other = map (λ n. finmap.get c.args.other.now n) other_cols in
    let long = length-map own_cols (λ n. finmap.get c.args.row.now n) in
    let longer = length-map other_cols (λ n. finmap.get c.args.other.now n) in
    let end : c.loop-place.place ≡ min (length own) (length other) = omega (arith, long, longer, c.loop-place-test.false, c.loop-place.auto.place-end, c.min-place-end.ensures) in
    c.cmp.ensures ∙ (λ i. nat_cmp (sym long i) (sym longer i)) ∙ sym (cmp_ends (option_cmp value_cmp) own other)
    ∙ ap (λ n. cells_cmp (drop n own) (drop n other)) (sym end)
    ∙ (λ i. cells_cmp (drop-map (λ n. finmap.get c.args.row.now n) c.loop-place.place own_cols i) (drop-map (λ n. finmap.get c.args.other.now n) c.loop-place.place other_cols i))
    ∙ sym c.loop-place.invariant
    ∙ (λ i. cells_cmp (map (λ n. finmap.get c.args.row.now n) (c.as_slice-own_cols.ensures i)) (map (λ n. finmap.get c.args.other.now n) (c.as_slice-other_cols.ensures i)))
