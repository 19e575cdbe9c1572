-- What the sources of a join lose, of the rows joined too much and those of them whose right part the view has.
use Rattle.plain_values.specs.declared.join_kind.JoinKind.{JoinKind}
use Rattle.plain_values.specs.declared.join_kind.JoinKind.TheVariants.{DeleteLeft, DeleteRight, DeleteBoth}
use Rattle.lens_specs.specs.Common.{names, Names, join_get, Relation, Rows, has, minus, project, those, cut}

-- the joined rows of both that the view lacks
abbrev pub surplus_of : Relation → Relation → Rows → Rows
surplus_of A B O = minus (join_get (names A.columns) (names B.columns) A.rows B.rows) O

-- those of the rows whose part in the columns of the others is among these
abbrev pub kept_of : Relation → Rows → Rows
kept_of parts W = those (λ w. has parts.rows (cut (names parts.columns) w)) W

-- the left source without the left parts of all of them, or of those that are kept on the right
abbrev pub left_without : JoinKind → Names → Rows → Rows → Rows → Rows
left_without DeleteLeft U over kept M = minus M (project U over)
left_without DeleteRight U over kept M = minus M (project U kept)
left_without DeleteBoth U over kept M = minus M (project U over)

-- the right source, or without the right parts of the others
abbrev pub right_without : JoinKind → Names → Rows → Rows → Rows → Rows
right_without DeleteLeft V over kept N = N
right_without DeleteRight V over kept N = minus N (project V (minus over kept))
right_without DeleteBoth V over kept N = minus N (project V (minus over kept))
