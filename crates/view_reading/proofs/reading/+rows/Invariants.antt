use Rattle.std.proofs.Common.{◌+◌, ◌*◌}
use Rattle.lens_specs.specs.Common.{nodes_of}
use Rattle.view_reading.proofs.reading.+rows.Given as goal

-- the nodes of the lens, and how far the call is from one for the rows of the lens itself
abbrev pub decreases-rows_in : goal.decreases-rows_in
decreases-rows_in g l = 4 * nodes_of l.lens.now

abbrev pub decreases-row_set_in : goal.decreases-row_set_in
decreases-row_set_in g l = 4 * nodes_of l.lens.now + 1

abbrev pub decreases-selected_in : goal.decreases-selected_in
decreases-selected_in g l = 4 * nodes_of l.of.now + 1

abbrev pub decreases-side_in : goal.decreases-side_in
decreases-side_in g l = 4 * nodes_of l.side.now + 2

abbrev pub decreases-pair_parts_in : goal.decreases-pair_parts_in
decreases-pair_parts_in g l = 4 * (nodes_of l.left.now + nodes_of l.right.now) + 2

abbrev pub decreases-selected_pairs_in : goal.decreases-selected_pairs_in
decreases-selected_pairs_in g l = 4 * (nodes_of l.left.now + nodes_of l.right.now) + 3

abbrev pub decreases-parts_in : goal.decreases-parts_in
decreases-parts_in g l = 4 * nodes_of l.lens.now + 3

abbrev pub decreases-selected_parts_in : goal.decreases-selected_parts_in
decreases-selected_parts_in g l = 4 * nodes_of l.lens.now + 3
