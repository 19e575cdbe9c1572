use Rattle.std.proofs.Common.{◌≡◌, ◌≤◌, sym, ap, subst, ◌∙◌, length, take, drop, ◌-◌, true, false}
use Rattle.plain_values.proofs.Common.{IsPartitionPoint, is_le, take_rest, row_cmp, row_cmp_total}
use Rattle.lens_values.proofs.Groups.{Ascend, group_is, lower_first, no_higher_first, rest_ascends}
use Rattle.row_sets.proofs.Pairs.{parts_ascend}
use Rattle.row_sets.proofs.index.with_part.Goals as goal

pub start_of-start-requires : goal.start_of-start-requires
start_of-start-requires c = lower_first row_cmp_total (λ e. e.0) c.args.entries.now c.args.part.now (parts_ascend c.args.entries.now c.requires)

pub not_above-count-requires : goal.not_above-count-requires
not_above-count-requires c =
    let index = c.args.entries.now in
    let part = c.args.part.now in
    let start = c.start_of-start.result in
    let up : Ascend row_cmp_total (λ e. e.0) index = parts_ascend index c.requires in
    let rest : take (length index - start) (drop start index) ≡ drop start index = take_rest index start in
    no_higher_first row_cmp_total (λ e. e.0) _ part (subst (Ascend row_cmp_total (λ e. e.0)) (sym rest) (rest_ascends row_cmp_total (λ e. e.0) index start c.start_of-start.ensures.bound up))

pub returns : goal.returns
returns c =
    let index = c.args.entries.now in
    let part = c.args.part.now in
    let start = c.start_of-start.result in
    let count = c.not_above-count.result in
    let up : Ascend row_cmp_total (λ e. e.0) index = parts_ascend index c.requires in
    let rest : take (length index - start) (drop start index) ≡ drop start index = take_rest index start in
    ap (take count) rest
    ∙ group_is row_cmp_total (λ e. e.0) index part start count c.start_of-start.ensures.bound (subst (λ l. count ≤ length l) rest c.not_above-count.ensures.bound)
    c.start_of-start.ensures.partitioned
    (subst (λ l. IsPartitionPoint (λ e. is_le (row_cmp e.0 part) ≡ true) (λ e. is_le (row_cmp e.0 part) ≡ false) l count) rest c.not_above-count.ensures.partitioned)
