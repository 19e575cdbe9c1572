-- The limits and the sides in the words of the refusals.
use Rattle.lens_specs.specs.Refusal as refusal
use Rattle.view_limits.specs.declared.limit.Limit.{Limit}
use Rattle.view_limits.specs.declared.limit.Limit.TheVariants.{Columns, Lens, Predicate, Nesting, Tables, Views}
use Rattle.view_limits.specs.declared.side.Side.{Side}
use Rattle.view_limits.specs.declared.side.Side.TheVariants.{Left, Right}

-- what is too large
abbrev pub limit_view : Limit → refusal.Limit
limit_view Columns = refusal.columns_limit
limit_view Lens = refusal.lens_limit
limit_view Predicate = refusal.predicate_limit
limit_view Nesting = refusal.nesting_limit
limit_view Tables = refusal.tables_limit
limit_view Views = refusal.views_limit

-- the side of a join
abbrev pub side_view : Side → refusal.Side
side_view Left = refusal.left_side
side_view Right = refusal.right_side
