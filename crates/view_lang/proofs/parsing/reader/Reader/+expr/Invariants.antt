use Rattle.std.proofs.Common.{◌+◌, ◌*◌}
use Rattle.view_lang.proofs.parsing.reader.Reader.+expr.Given as goal

abbrev pub decreases-operand : goal.decreases-operand
decreases-operand l = 4 * l.room

abbrev pub decreases-select : goal.decreases-select
decreases-select l = 4 * l.room + 1

abbrev pub decreases-rename : goal.decreases-rename
decreases-rename l = 4 * l.room + 1

abbrev pub decreases-join : goal.decreases-join
decreases-join l = 4 * l.room + 1

abbrev pub decreases-dropped : goal.decreases-dropped
decreases-dropped l = 4 * l.room + 1

abbrev pub decreases-expr : goal.decreases-expr
decreases-expr l = 4 * l.room + 2
