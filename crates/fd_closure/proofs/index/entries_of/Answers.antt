use Rattle.std.proofs.Common.{◌≡◌, ◌≤◌, ◌-◌, sym, ap, subst, ◌∙◌, rules, of_calls, length, take, drop, true, false}
use Rattle.plain_values.proofs.Common.{IsPartitionPoint, is_le, is_lt, always_returns_same, take_rest, bytes_cmp}
use Rattle.fd_laws.proofs.Common.{name_total}
use Rattle.lens_values.proofs.Groups.{Ascend, group_is, lower_first, no_higher_first, rest_ascends}
use Rattle.fd_closure.proofs.Indexes.{names_ascend}
use Rattle.fd_closure.proofs.index.entries_of.Goals as goal

pub returns : goal.returns
returns c =
    let index = c.args.index.now in
    let name = c.args.name.now in
    let start = c.partition_point-start.result in
    let count = c.partition_point-count.result in
    let up : Ascend name_total (λ e. e.0) index = names_ascend index c.requires in
    let rest : take (length index - start) (drop start index) ≡ drop start index = take_rest index start in
    ap (take count) rest
    ∙ group_is name_total (λ e. e.0) index name start count c.partition_point-start.ensures.bound (subst (λ l. count ≤ length l) rest c.partition_point-count.ensures.bound)
    (c.partition_point-start.ensures.partitioned (λ e. is_lt (bytes_cmp e.0 name)) (always_returns_same _ _ _ (λ a r f k. search (rules, of_calls))) (lower_first name_total (λ e. e.0) index name up))
    (subst (λ l. IsPartitionPoint (λ e. is_le (bytes_cmp e.0 name) ≡ true) (λ e. is_le (bytes_cmp e.0 name) ≡ false) l count) rest
    (c.partition_point-count.ensures.partitioned (λ e. is_le (bytes_cmp e.0 name)) (always_returns_same _ _ _ (λ a r f k. search (rules, of_calls)))
    (no_higher_first name_total (λ e. e.0) (take (length index - start) (drop start index)) name (subst (Ascend name_total (λ e. e.0)) (sym rest) (rest_ascends name_total (λ e. e.0) index start c.partition_point-start.ensures.bound up)))))
