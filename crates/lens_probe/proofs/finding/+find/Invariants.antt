use Rattle.std.proofs.Common.{◌≡◌, ◌≤◌, ◌+◌, ◌*◌, ℕ, take, IfSome}
use Rattle.lens_specs.specs.Common.{get, nodes_of}
use Rattle.lens_laws.proofs.Common.{size}
use Rattle.lens_probe.specs.Looking.{ArePartners, FindsWithin, pairs_of}
use Rattle.lens_probe.proofs.finding.+find.Given as goal

-- the nodes of the lens, and how far the call is from a look at the lens itself
abbrev pub decreases-find_in : goal.decreases-find_in
decreases-find_in g l = 5 * nodes_of l.lens.now

abbrev pub decreases-find_parts : goal.decreases-find_parts
decreases-find_parts g l = 5 * nodes_of l.lens.now + 4

abbrev pub decreases-find_renamed : goal.decreases-find_renamed
decreases-find_renamed g l = 5 * nodes_of l.of.now + 1

abbrev pub decreases-find_joined : goal.decreases-find_joined
decreases-find_joined g l = 5 * (nodes_of l.left.now + nodes_of l.right.now) + 4

abbrev pub decreases-pairs_from : goal.decreases-pairs_from
decreases-pairs_from g l = 5 * (nodes_of l.side.now + nodes_of l.other.now) + 3

abbrev pub decreases-find_by_part : goal.decreases-find_by_part
decreases-find_by_part g l = 5 * nodes_of l.side.now + 1

abbrev pub decreases-pair_each : goal.decreases-pair_each
decreases-pair_each g l = 5 * nodes_of l.other.now + 2

abbrev pub decreases-partners_of : goal.decreases-partners_of
decreases-partners_of g l = 5 * nodes_of l.other.now + 1

abbrev pub invariant-pair_each-loop-row : goal.invariant-pair_each-loop-row
invariant-pair_each-loop-row g l =
    let N = get l.other l.query.tables.now.present.relations in
    (l.pairs.items ≡ pairs_of l.are_left l.shared l.kept l.query.cols.now l.query.key.now N (take l.row-index l.rows))
    × IfSome l.last (ArePartners l.shared N)
    × ((w : ℕ) → FindsWithin l.other l.query.tables.now.present l.shared w → l.looked ≤ l.initial.looked + size l.other w * l.row-index)
