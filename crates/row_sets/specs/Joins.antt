-- Pasted pairs of rows of two sets.
use Rattle.std.specs.Prelude.{filter, flat_map, map}
use Rattle.std.specs.declared.cmp.Ordering.{Ordering}
use Rattle.std.specs.Ordering.{on, then_cmp}
use Rattle.plain_values.specs.Part.{override, restrict}
use Rattle.plain_values.specs.Row.{row_cmp, Row}
use Rattle.plain_values.specs.SortedSet as set
use Rattle.lens_specs.specs.Common.{Names, agree, Rows}

-- by the first row, and then by the second
abbrev pub entry_cmp : Row × Row → Row × Row → Ordering
entry_cmp = then_cmp (on (λ e. e.0) row_cmp) (on (λ e. e.1) row_cmp)

-- the row's part in the columns, and the row
abbrev pub with_key : Names → Row → Row × Row
with_key C r = (restrict C r, r)

-- all pairs of rows that agree on C, pasted
abbrev pub pairs_on : Names → Rows → Rows → Rows
pairs_on C M N = set.from_list (flat_map (λ m. map (λ n. override n m) (filter (agree C m) (set.items N))) (set.items M))
