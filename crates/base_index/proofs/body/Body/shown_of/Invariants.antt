use Rattle.std.proofs.Common.{◌≡◌, take, filter, not}
use Rattle.plain_values.specs.SortedSet as set
use Rattle.lens_specs.specs.Common.{has}
use Rattle.base_index.specs.Parts.{parts_of, to_go}
use Rattle.base_index.proofs.body.Body.shown_of.Given as goal

abbrev pub invariant-loop-row : goal.invariant-loop-row
invariant-loop-row l =
    l.some.items ≡ filter (λ row. not (has (set.difference l.self.hidden (to_go (parts_of l.self))) row)) (take l.row-index (set.items l.rows))
