-- Which parts of rows that are joined too much are deleted, by the side on which the join deletes.
use Rattle.std.specs.Prelude.{◌≡◌, ◌≢◌, List, length, not, true, false, is_some}
use Rattle.std.specs.List.{Contains}
use Rattle.plain_values.specs.Part.{restrict}
use Rattle.plain_values.specs.SortedSet as set
use Rattle.plain_values.specs.declared.join_kind.JoinKind.{JoinKind}
use Rattle.plain_values.specs.declared.join_kind.JoinKind.TheVariants.{DeleteBoth, DeleteLeft, DeleteRight}
use Rattle.plain_values.specs.Row.{Row}
use Rattle.lens_specs.specs.Common.{Name, Names, Rows, has, minus, project, those, at}
use Rattle.join_delta.specs.declared.sources.Merged.{Merged}
use Rattle.join_delta.specs.Shown.{is_shown}

-- a merge whose left source may be asked by the sets K
pub record CanAsk (K : List Names) (m : Merged) : Type 0 where
  -- it may be asked by the shared columns
  pub some : length (set.items m.sides.shared) ≢ 0
  pub asked : Contains K m.sides.shared
  -- right parts that are not new have them
  pub have : (row : Row) → has (project m.sides.right m.over) row ≡ true → has m.right.add row ≡ false
      → (c : Name) → set.contains m.sides.shared c ≡ true → is_some (at row c) ≡ true

-- the right parts of the rows that a merge of M joins too much, without those of added rows and those that are not new and still shown
abbrev pub free_of : Merged → Rows → Rows → Rows
free_of m M removed =
    let others = minus (project m.sides.right m.over) m.parts in
    minus others (those (is_shown m.sides.shared M removed) (minus others m.right.add))

-- the right parts that are deleted, of these that the edited view lacks
abbrev pub right_deleted : JoinKind → Rows → Rows
right_deleted DeleteLeft free = set.empty
right_deleted DeleteRight free = free
right_deleted DeleteBoth free = free

-- the left parts that are deleted beside these right ones
abbrev pub left_deleted : JoinKind → Names → Names → Rows → Rows → Rows
left_deleted DeleteLeft U V over gone = project U over
left_deleted DeleteRight U V over gone = project U (those (λ row. not (has gone (restrict V row))) over)
left_deleted DeleteBoth U V over gone = project U over
