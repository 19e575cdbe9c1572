-- What an edit does to the sources of a join, by the side on which it deletes.
use Rattle.std.specs.Prelude.{Bool, not, ◌&&◌, List}
use Rattle.std.specs.List.{list_any}
use Rattle.plain_values.specs.SortedSet as set
use Rattle.plain_values.specs.Row.{Row}
use Rattle.plain_values.specs.declared.join_kind.JoinKind.{JoinKind}
use Rattle.plain_values.specs.declared.join_kind.JoinKind.TheVariants.{DeleteLeft, DeleteRight, DeleteBoth}
use Rattle.lens_specs.specs.Common.{Names, agree, paste, Rows, has, those, union, project, Edge, Delta, new_view}
use Rattle.lens_laws.specs.KeyedDeltas.{merge_delta, join_delta_right, join_delta_left, suspects}

-- whether a left row, with a right row that the view has, makes a row that the view lacks
unfoldable pub is_kept : Names → Names → Rows → Rows → Row → Bool
is_kept S V N1 O r = list_any (λ n. not (has O (paste r V n)) && has (project V O) n) (set.items (those (agree S r) N1))

-- whether a right row makes a row that the view lacks, and the view lacks the right row too
unfoldable pub is_free : Names → Names → Rows → Rows → Row → Bool
is_free S V M0 O n = list_any (λ m. not (has O (paste m V n))) (set.items (those (agree S n) M0)) && not (has (project V O) n)

-- the delta, with these rows gone besides: those of the suspects, and of the added ones, that pass the test
abbrev pub less_delta : (Row → Bool) → Rows → Delta → Delta
less_delta test suspected d = record { remove = union d.remove (those test suspected); add = those (λ r. not (test r)) d.add }

-- the left source's delta where a join deletes on the right, O being the new view
unfoldable pub join_delta_left_kept : Names → Names → List Edge → List Edge → Rows → Rows → Rows → Delta → Delta
join_delta_left_kept U V F G M N O d =
    let S = set.intersection U V in
    let right = join_delta_right V G N d in
    less_delta (is_kept S V (new_view N right) O) (suspects S U M d right.add) (merge_delta F M (project U d.add))

-- the right source's delta where a join deletes on the right, or on both sides
unfoldable pub join_delta_right_free : Names → Names → List Edge → List Edge → Rows → Rows → Rows → Delta → Delta
join_delta_right_free U V F G M N O d =
    let S = set.intersection U V in
    let left = merge_delta F M (project U d.add) in
    less_delta (is_free S V (new_view M left) O) (suspects S V N d left.add) (join_delta_right V G N d)

-- what an edit of a join does to its left source
abbrev pub left_delta : JoinKind → Names → Names → List Edge → List Edge → Rows → Rows → Rows → Delta → Delta
left_delta DeleteLeft U V F G M N O d = join_delta_left U V F G M N O d
left_delta DeleteRight U V F G M N O d = join_delta_left_kept U V F G M N O d
left_delta DeleteBoth U V F G M N O d = join_delta_left U V F G M N O d

-- what an edit of a join does to its right source
abbrev pub right_delta : JoinKind → Names → Names → List Edge → List Edge → Rows → Rows → Rows → Delta → Delta
right_delta DeleteLeft U V F G M N O d = join_delta_right V G N d
right_delta DeleteRight U V F G M N O d = join_delta_right_free U V F G M N O d
right_delta DeleteBoth U V F G M N O d = join_delta_right_free U V F G M N O d
